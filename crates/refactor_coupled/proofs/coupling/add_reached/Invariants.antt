-- The methods of the types that were passed and are reached were added.
use Rattle.refactor_coupled.specs.Reached.{AddsDeclarations}
use Rattle.refactor_coupled.proofs.Listed.{BelowReached}
use Rattle.refactor_coupled.proofs.coupling.add_reached.Given as goal

abbrev pub invariant-loop-index : goal.invariant-loop-index
invariant-loop-index l = AddsDeclarations (BelowReached l.types l.reached l.index) l.initial.set.items l.set.items
