-- The bytes of the values so far were added, and these can be read.
use Rattle.std.proofs.Common.{◌≡◌, ◌++◌, take}
use Rattle.std.specs.List.{AllByRecursion, flat_map}
use Rattle.history_records.specs.Encoded.{IsFileChange, file_change_bytes}
use Rattle.history_records.proofs.encoding.add_each_change.Given as goal

abbrev pub invariant-loop-change : goal.invariant-loop-change
invariant-loop-change l = record {
  bytes : l.made.items ≡ l.initial.made.items ++ flat_map file_change_bytes (take l.change-index l.changed);
  kept : AllByRecursion IsFileChange (take l.change-index l.changed);
}
