-- The invariants of the loops of `cycles::cycle_numbers`.
use Rattle.workspace_check.specs.Cycles.{AreCycleNumbers}
use Rattle.workspace_check.proofs.cycles.cycle_numbers.Given as goal

abbrev pub invariant-loop-number : goal.invariant-loop-number
invariant-loop-number l = AreCycleNumbers l.graph l.numbers.items
