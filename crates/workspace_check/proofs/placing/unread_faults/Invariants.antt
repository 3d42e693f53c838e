-- The invariants of the loops of `placing::unread_faults`.
use Rattle.std.proofs.Common.{◌≡◌, take}
use Rattle.workspace_check.specs.Steps.{unread_faults}
use Rattle.workspace_check.proofs.placing.unread_faults.Given as goal

abbrev pub invariant-loop-file : goal.invariant-loop-file
invariant-loop-file l = l.found.items ≡ unread_faults (take l.file-index l.files)
