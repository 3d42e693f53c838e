-- What the loop of `changes::copy` keeps: the edits that were passed were copied.
use Rattle.std.proofs.Common.{◌≡◌, take}
use Rattle.refactor_move.proofs.changes.copy.Given as goal

abbrev pub invariant-loop-edit : goal.invariant-loop-edit
invariant-loop-edit l = l.copies.items ≡ take l.edit-index l.edits
