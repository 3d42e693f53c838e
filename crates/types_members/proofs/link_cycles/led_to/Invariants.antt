-- The invariants of the loops of `leading::led_to`.
use Rattle.std.proofs.Common.{length}
use Rattle.types_members.proofs.Marking.{MarksPassed}
use Rattle.types_members.proofs.link_cycles.led_to.Given as goal

abbrev pub invariant-loop-to : goal.invariant-loop-to
invariant-loop-to l = MarksPassed l.to-items l.to-index (length l.links) l.marks.items
