-- Of the types that were passed those are reached that ask for the method.
use Rattle.refactor_coupled.proofs.ReachedMore.{StartsBelow}
use Rattle.refactor_coupled.proofs.coupling.Reached.start.Given as goal

abbrev pub invariant-loop-index : goal.invariant-loop-index
invariant-loop-index l = StartsBelow l.types l.symbol l.initial.self l.index l.self
