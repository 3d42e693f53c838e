-- The reversed edits so far, with those of the edits that are left, and how much of the new text is behind them.
use Rattle.std.proofs.Common.{◌≡◌, ◌+◌, ◌≤◌, ◌++◌, length, drop}
use Rattle.base_edits.specs.Edits.{AreInOrder, edited_from}
use Rattle.base_edits.specs.Inverse.{reversed, reversed_from}
use Rattle.base_edits.proofs.reversing.reversed_edits.Given as goal

abbrev pub invariant-loop-edit : goal.invariant-loop-edit
invariant-loop-edit l = record {
  made : l.back.items ++ reversed_from l.at l.new (drop l.edit-index l.edits) l.old ≡ reversed l.edits l.old;
  order : AreInOrder l.at (drop l.edit-index l.edits);
  inside : l.at ≤ length l.old;
  left : l.new + length (edited_from l.at (drop l.edit-index l.edits) l.old) ≡ l.size;
}
