-- The ends of the edits so far, and the last of them.
use Rattle.std.proofs.Common.{◌+◌}
use Rattle.base_edits.specs.Ends.{IsEnd, AreEndsBelow}
use Rattle.base_edits.proofs.moves.ends_of.Given as goal

abbrev pub invariant-loop-edit : goal.invariant-loop-edit
invariant-loop-edit l = record { so_far : AreEndsBelow l.edits (l.edit-index + 1) l.ends.items; last : IsEnd l.edits l.edit-index l.end }
