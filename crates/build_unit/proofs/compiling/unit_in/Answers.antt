-- The answers to the goals of `compiling::unit_in`.
use Rattle.std.proofs.Common.{◌≡◌, [], ◌∙◌, ap, sym, subst}
use Rattle.std.specs.Prelude.{Some, Contains}
use Rattle.std.proofs.lemmas.Result.{IfOk-weaker}
use Rattle.base_lemmas.proofs.Elements.{nothing_in}
use Rattle.base_files.specs.Packages.{package_paths}
use Rattle.build_unit.specs.declared.compiling.MadeUnit.{MadeUnit}
use Rattle.build_unit.specs.Compiling.{IsMadeUnit, IsMadeUnitIn}
use Rattle.build_unit.proofs.compiling.unit_in.Goals as goal

pub unit_at-requires : goal.unit_at-requires
unit_at-requires c = record { at = c.in-Some.ensures ∙ ap Some c.path.ensures; known = c.requires }

pub returns-in-Some : goal.returns-in-Some
returns-in-Some c =
    let w = c.args.graph.now in
    let p = c.args.path.now in
    IfOk-weaker c.unit_at.result (IsMadeUnit w p) (IsMadeUnitIn w p) (λ made is. record { unit = λ among. is.unit; verdicts = is.verdicts }) c.unit_at.ensures

pub returns-in-None : goal.returns-in-None
returns-in-None c =
    let w = c.args.graph.now in
    let p = c.args.path.now in
    IfOk-weaker c.no_unit.result (λ (made : MadeUnit). made.found.items ≡ []) (IsMadeUnitIn w p)
    (λ made none. record {
      unit = λ among. absurd (c.in-None.ensures (subst (Contains (package_paths w)) (sym c.path.ensures) among));
      verdicts = λ one has. absurd (nothing_in one (subst (λ l. Contains l one) none has));
    })
    c.no_unit.ensures
