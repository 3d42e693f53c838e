-- The ends of the files so far.
use Rattle.base_edits.specs.Ends.{AreEndsOf}
use Rattle.base_edits.proofs.moves.all_ends.Given as goal

abbrev pub invariant-loop-change : goal.invariant-loop-change
invariant-loop-change l = AreEndsOf l.changed l.change-index l.ends.items
