-- So many values were read, one behind the other.
use Rattle.std.proofs.Common.{◌≡◌, length}
use Rattle.history_records.specs.Encoded.{IsAddedFile, added_bytes}
use Rattle.history_records.proofs.Coded.{HasReadMany}
use Rattle.history_records.proofs.lists.read_files.Given as goal

abbrev pub invariant-loop-number : goal.invariant-loop-number
invariant-loop-number l = record {
  many : HasReadMany added_bytes IsAddedFile l.initial.left l.added.items l.left;
  long : length l.added.items ≡ l._number;
}
