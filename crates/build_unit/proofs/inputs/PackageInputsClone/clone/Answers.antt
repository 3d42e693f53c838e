-- What is shared stays as it was.
use Rattle.std.proofs.Common.{sym, subst}
use Rattle.workspace_check.specs.Found.{KnowsVerdicts}
use Rattle.build_unit.specs.Inputs.{IsClosureAt}
use Rattle.build_unit.specs.Units.{IsUnitAt}
use Rattle.build_unit.specs.declared.inputs.InputParts.{InputParts}
use Rattle.build_unit.proofs.inputs.PackageInputsClone.clone.Goals as goal

pub invariant_of-result : goal.invariant_of-result
invariant_of-result c =
    subst (λ (q : InputParts). IsClosureAt q.whole q.number q.closure × KnowsVerdicts q.whole q.known × IsUnitAt q.whole q.number q.unit)
    (sym c.in_ok-parts.ensures) c.self.invariant
