-- The unit is known, or it is made of the closure.
use Rattle.std.proofs.Common.{◌≡◌, List, ℕ, [], sym, ap, subst, ◌∙◌}
use Rattle.std.specs.List.Sorted.{IsStrictlyIncreasing}
use Rattle.std.proofs.lemmas.Option.{same_Some}
use Rattle.std.proofs.lemmas.Result.{IfOk-weaker}
use Rattle.base_files.specs.Workspace.{Workspace}
use Rattle.workspace_graph.specs.Graphs.{ListsPackages}
use Rattle.workspace_graph.specs.Packages.{IsInClosure}
use Rattle.workspace_check.specs.Found.{KnowsVerdicts}
use Rattle.build_unit.specs.Compiling.{IsMadeUnit}
use Rattle.build_unit.specs.Units.{IsUnitOf}
use Rattle.build_unit.specs.declared.compiling.MadeUnit.{MadeUnit}
use Rattle.build_unit.specs.declared.unit.Unit.{Unit as PackageUnit}
use Rattle.build_unit.proofs.InputVerdicts.{none_own}
use Rattle.build_unit.proofs.inputs.made_here.Goals as goal

pub unit_of-requires : goal.unit_of-requires
unit_of-requires c =
    let w = c.args.parts.now.whole in
    let p = c.args.path.now in
    let is = c.requires.at in
    let holds = subst (λ (q : List ℕ). ListsPackages w (IsInClosure w q) c.args.parts.now.closure)
    (same_Some is.path p (sym is.has_path ∙ c.requires.here)) is.holds in
    record {
      has_path = c.requires.here;
      closure = subst (ListsPackages w (IsInClosure w p)) (sym c.as_slice.ensures) holds;
      rising = subst IsStrictlyIncreasing (sym c.as_slice.ensures) is.rising;
      known = subst (KnowsVerdicts w) (sym c.get.ensures) c.requires.known;
    }

-- a known unit is made without a verdict
of_known : (w : Workspace) (p : List ℕ) (unit : PackageUnit) → IsUnitOf w p unit → (made : MadeUnit) →
    (made.unit ≡ unit) × (made.found.items ≡ []) → IsMadeUnit w p made
of_known w p unit is made same = record {
  unit = subst (IsUnitOf w p) (sym same.0) is;
  verdicts = none_own w made.found.items same.1;
}

pub returns-in-Some : goal.returns-in-Some
returns-in-Some c =
    let w = c.args.parts.now.whole in
    let p = c.args.path.now in
    IfOk-weaker c.known_unit.result _ (IsMadeUnit w p) (of_known w p c.in-Some.unit (c.requires.unit p c.in-Some.unit c.requires.here c.in-Some.is))
    c.known_unit.ensures
