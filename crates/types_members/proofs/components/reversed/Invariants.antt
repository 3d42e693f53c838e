-- The invariants of the loops of `components::reversed`.
use Rattle.types_members.specs.Cycles.{IsReversed}
use Rattle.types_members.proofs.components.reversed.Given as goal

abbrev pub invariant-loop-from : goal.invariant-loop-from
invariant-loop-from l = IsReversed l.links l.back.items

abbrev pub invariant-loop-to : goal.invariant-loop-to
invariant-loop-to l = IsReversed l.links l.back.items
