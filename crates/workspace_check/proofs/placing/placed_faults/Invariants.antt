-- The invariants of the loops of `placing::placed_faults`.
use Rattle.std.proofs.Common.{◌↔◌, take}
use Rattle.std.specs.Prelude.{Contains}
use Rattle.workspace_check.specs.Steps.{IsSomePlacedFault}
use Rattle.workspace_check.specs.declared.fault.FileFault.{FileFault}
use Rattle.workspace_check.proofs.placing.placed_faults.Given as goal

abbrev pub invariant-loop-fault : goal.invariant-loop-fault
invariant-loop-fault l = (f : FileFault) → Contains l.found.items f ↔ IsSomePlacedFault l.files (take l.fault-index l.faults) f
