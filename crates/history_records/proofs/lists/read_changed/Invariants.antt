-- So many values were read, one behind the other.
use Rattle.std.proofs.Common.{◌≡◌, length}
use Rattle.history_records.specs.Encoded.{IsFileChange, file_change_bytes}
use Rattle.history_records.proofs.Coded.{HasReadMany}
use Rattle.history_records.proofs.lists.read_changed.Given as goal

abbrev pub invariant-loop-number : goal.invariant-loop-number
invariant-loop-number l = record {
  many : HasReadMany file_change_bytes IsFileChange l.initial.left l.changed.items l.left;
  long : length l.changed.items ≡ l._number;
}
