-- The new text so far, with what the edits that are left make of the rest.
use Rattle.std.proofs.Common.{◌≡◌, ◌≤◌, ◌++◌, length, drop}
use Rattle.base_edits.specs.Edits.{AreInOrder, edited_from, edited_text}
use Rattle.base_edits.proofs.new_text.new_text.Given as goal

abbrev pub invariant-loop-edit : goal.invariant-loop-edit
invariant-loop-edit l = record {
  made : l.new.items ++ edited_from l.at (drop l.edit-index l.edits) l.old ≡ edited_text l.edits l.old;
  order : AreInOrder l.at (drop l.edit-index l.edits);
  inside : l.at ≤ length l.old;
}
