-- The verdicts on the packages that were passed.
use Rattle.workspace_check.specs.Found.{AreFirstVerdicts}
use Rattle.history_machine.proofs.resting.own_verdicts.Given as goal

abbrev pub invariant-loop-number : goal.invariant-loop-number
invariant-loop-number l = AreFirstVerdicts l.files l.number l.own
