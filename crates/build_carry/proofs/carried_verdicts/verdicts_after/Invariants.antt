-- What is known of the packages that were passed.
use Rattle.workspace_check.specs.Found.{AreFirstVerdicts}
use Rattle.build_carry.proofs.carried_verdicts.verdicts_after.Given as goal

abbrev pub invariant-loop-number : goal.invariant-loop-number
invariant-loop-number l = AreFirstVerdicts l.after l.number l.carried
