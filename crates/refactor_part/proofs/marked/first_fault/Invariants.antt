-- No marked one of the packages that were passed has a fault.
use Rattle.workspace_check.specs.KnownFindings.{verdicts_by}
use Rattle.refactor_part.proofs.FaultOrder.{AreMarkedSound}
use Rattle.refactor_part.proofs.marked.first_fault.Given as goal

abbrev pub invariant-loop-number : goal.invariant-loop-number
invariant-loop-number l = AreMarkedSound l.graph (verdicts_by l.found.export_table) l.marks l.number
