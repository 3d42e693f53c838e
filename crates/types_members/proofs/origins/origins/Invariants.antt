-- The invariants of the loops of `origins::origins`.
use Rattle.types_members.specs.Cycles.{AreOrigins}
use Rattle.types_members.proofs.origins.origins.Given as goal

abbrev pub invariant-loop-link : goal.invariant-loop-link
invariant-loop-link l = AreOrigins l.links l.origins.items
