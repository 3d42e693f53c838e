-- The types that were passed and are coupled with the one of the index are reached.
use Rattle.refactor_coupled.proofs.ReachedMore.{ReachesBelow}
use Rattle.refactor_coupled.proofs.coupling.Reached.reach_from.Given as goal

abbrev pub invariant-loop-other : goal.invariant-loop-other
invariant-loop-other l = ReachesBelow l.types l.index l.initial.self l.other l.self
