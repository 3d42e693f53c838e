-- Each edit adds at most its bytes.
use Rattle.std.proofs.Common.{◌≤◌, ◌+◌, length, sum_by, take}
use Rattle.base_edits.specs.declared.edit.Edit.{Edit}
use Rattle.base_edits.proofs.new_text.room.Given as goal

abbrev pub invariant-loop-edit : goal.invariant-loop-edit
invariant-loop-edit l = l.room ≤ l.size + sum_by (λ (edit : Edit). length edit.text) (take l.edit-index l.edits)
