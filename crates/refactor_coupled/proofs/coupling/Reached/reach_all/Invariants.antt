-- All that are coupled with the types at the places that were passed are reached.
use Rattle.refactor_coupled.proofs.ReachedMore.{ReachesToPlace}
use Rattle.refactor_coupled.proofs.coupling.Reached.reach_all.Given as goal

abbrev pub invariant-loop-place : goal.invariant-loop-place
invariant-loop-place l = ReachesToPlace l.types l.initial.self l.place l.self
