-- The invariants of the loops of `cycles::give_number`.
use Rattle.workspace_check.specs.Cycles.{AreCycleNumbers}
use Rattle.workspace_check.proofs.cycles.give_number.Given as goal

abbrev pub invariant-loop-other : goal.invariant-loop-other
invariant-loop-other l = AreCycleNumbers l.graph l.numbers.items
