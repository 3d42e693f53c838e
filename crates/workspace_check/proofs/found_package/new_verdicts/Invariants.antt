-- The invariants of the loops of `found_package::new_verdicts`.
use Rattle.workspace_check.specs.Found.{AreVerdictsOf}
use Rattle.workspace_check.proofs.found_package.new_verdicts.Given as goal

abbrev pub invariant-loop-number : goal.invariant-loop-number
invariant-loop-number l = AreVerdictsOf l.graph l.found.items
