-- The answers to the goals of `broken::target`.
use Rattle.std.proofs.Common.{◌≡◌, length, ap, sym, ◌∙◌, arith}
use Rattle.std.proofs.Math.ListN.{length-map}
use Rattle.std.proofs.lemmas.Bool.{false≢true}
use Rattle.go_ast.specs.View.{type_view}
use Rattle.types_declared.specs.PackageView.{package_of}
use Rattle.types_declared.specs.DeclaredView.{type_of}
use Rattle.types_declared.proofs.Mentioning.{target_named, target_nothing}
use Rattle.types_declared.proofs.broken.target.Goals as goal

pub returns-then-branch : goal.returns-then-branch
returns-then-branch c =
    let some = c.in_ok-names_type.ensures.0 c.if-branch.true in
    target_named (package_of c.args.pkg) c.args.file (type_view c.args.written.now) some.0 c.mentioned.result some.1 c.mentioned.ensures

pub returns-else-branch : goal.returns-else-branch
returns-else-branch c =
    let items = c.args.index.now.declared.types.items in
    let size : c.len.result ≡ length items = omega (arith, c.len.ensures) in
    target_nothing (package_of c.args.pkg) c.args.file (type_view c.args.written.now) c.len.result
    (size ∙ sym (length-map items type_of) ∙ ap length c.requires.types)
    (λ u names. false≢true (sym c.if-branch.false ∙ c.in_ok-names_type.ensures.1 (u, names)))
