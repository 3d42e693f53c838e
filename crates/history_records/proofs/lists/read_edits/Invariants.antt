-- So many values were read, one behind the other.
use Rattle.std.proofs.Common.{◌≡◌, length}
use Rattle.history_records.specs.Encoded.{IsEdit, edit_bytes}
use Rattle.history_records.proofs.Coded.{HasReadMany}
use Rattle.history_records.proofs.lists.read_edits.Given as goal

abbrev pub invariant-loop-number : goal.invariant-loop-number
invariant-loop-number l = record {
  many : HasReadMany edit_bytes IsEdit l.initial.left l.edits.items l.left;
  long : length l.edits.items ≡ l._number;
}
