-- The answers to the goals of `sources::qualifier`.
use Rattle.std.proofs.Common.{◌≡◌, ◌-◌, ◌∙◌, suc, sym, arith}
use Rattle.std.proofs.lemmas.Bool.{false≢true}
use Rattle.types_declared.specs.PackageView.{package_of}
use Rattle.build_object.proofs.Bindings.{behind_by, dot_before, late}
use Rattle.build_object.proofs.sources.qualifier.Goals as goal

pub returns-then-token-lt2 : goal.returns-then-token-lt2
returns-then-token-lt2 c = λ path b. let h = late (package_of c.args.unit) c.args.file c.args.token path b in absurd (omega (arith, h, c.if-token-lt2.true))

pub returns-then-is_name_after_dot : goal.returns-then-is_name_after_dot
returns-then-is_name_after_dot c =
    let e : c.args.token ≡ suc (suc (c.args.token - 2)) = omega (arith, c.if-token-lt2.false) in
    behind_by (package_of c.args.unit) c.args.file c.args.token (c.args.token - 2) c.import_at.result e (c.is_name_after_dot.ensures.0
    c.if-is_name_after_dot.true)
    c.import_at.ensures

pub returns-else-is_name_after_dot : goal.returns-else-is_name_after_dot
returns-else-is_name_after_dot c = λ path b. false≢true
    (sym c.if-is_name_after_dot.false ∙ c.is_name_after_dot.ensures.1 (dot_before (package_of c.args.unit) c.args.file c.args.token path b))
