-- The invariants of the loops of `scoping::add_scopes`.
use Rattle.types_declared.specs.Listing.{AddsFaults, IsFaultBelow}
use Rattle.types_resolve.specs.Scoping.{IsFaultOfIdentifier}
use Rattle.types_declared.specs.Laid.{laid_in}
use Rattle.types_resolve.proofs.scoping.add_scopes.Given as goal

abbrev pub invariant-loop-u : goal.invariant-loop-u
invariant-loop-u l = AddsFaults l.initial.found.items l.found.items (IsFaultBelow (IsFaultOfIdentifier (laid_in l.table)) l.u)
