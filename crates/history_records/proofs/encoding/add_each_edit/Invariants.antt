-- The bytes of the values so far were added, and these can be read.
use Rattle.std.proofs.Common.{◌≡◌, ◌++◌, take}
use Rattle.std.specs.List.{AllByRecursion, flat_map}
use Rattle.history_records.specs.Encoded.{IsEdit, edit_bytes}
use Rattle.history_records.proofs.encoding.add_each_edit.Given as goal

abbrev pub invariant-loop-edit : goal.invariant-loop-edit
invariant-loop-edit l = record {
  bytes : l.made.items ≡ l.initial.made.items ++ flat_map edit_bytes (take l.edit-index l.edits);
  kept : AllByRecursion IsEdit (take l.edit-index l.edits);
}
