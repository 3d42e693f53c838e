-- The verdicts that were kept are right of the inputs.
use Rattle.base_files.specs.Workspace.{Workspace}
use Rattle.workspace_check.specs.Found.{AreVerdictsOf}
use Rattle.build_unit.specs.Inputs.{HasClosuresOf}
use Rattle.build_unit.proofs.inputs.PackageInputs.own_verdicts.Given as goal

abbrev pub invariant-loop-verdict : goal.invariant-loop-verdict
invariant-loop-verdict l = (w : Workspace) → HasClosuresOf w l.self → AreVerdictsOf w l.found → AreVerdictsOf l.self l.own.items
