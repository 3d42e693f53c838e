-- The invariants of the loops of `gathered::all_known_verdicts`.
use Rattle.workspace_check.specs.Found.{AreFirstVerdicts}
use Rattle.workspace_check.proofs.gathered.all_known_verdicts.Given as goal

abbrev pub invariant-loop-number : goal.invariant-loop-number
invariant-loop-number l = AreFirstVerdicts l.graph l.number l.all
