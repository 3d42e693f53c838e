-- The invariants of the loops of `leading::cycles`.
use Rattle.types_members.specs.Cycles.{IsOnCycle}
use Rattle.types_members.proofs.Marking.{MarksBelow}
use Rattle.types_members.proofs.link_cycles.cycles.Given as goal

abbrev pub invariant-loop-number : goal.invariant-loop-number
invariant-loop-number l = MarksBelow (IsOnCycle l.links) l.marks.items l.number
