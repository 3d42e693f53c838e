-- The bytes of the values so far were added, and these can be read.
use Rattle.std.proofs.Common.{◌≡◌, ◌++◌, take}
use Rattle.std.specs.List.{AllByRecursion, flat_map}
use Rattle.history_records.specs.Encoded.{IsAddedFile, added_bytes}
use Rattle.history_records.proofs.encoding.add_each_file.Given as goal

abbrev pub invariant-loop-file : goal.invariant-loop-file
invariant-loop-file l = record {
  bytes : l.made.items ≡ l.initial.made.items ++ flat_map added_bytes (take l.file-index l.added);
  kept : AllByRecursion IsAddedFile (take l.file-index l.added);
}
