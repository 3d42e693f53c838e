-- The invariants of the loops of `uses::uses`.
use Rattle.types_resolve.specs.Scoping.{AreUsed}
use Rattle.types_declared.specs.Laid.{laid_in}
use Rattle.types_resolve.proofs.uses.uses.Given as goal

abbrev pub invariant-loop-u : goal.invariant-loop-u
invariant-loop-u l = AreUsed (laid_in l.table) l.u l.used.items
