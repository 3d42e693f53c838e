-- The invariants of the loops of `spans::identifier_begin`.
use Rattle.std.proofs.Common.{◌≡◌, ◌+◌, ◌≤◌, length, take}
use Rattle.std.specs.List.{suffix_len}
use Rattle.lsp_edits.specs.Spans.{is_identifier_byte}
use Rattle.lsp_edits.proofs.spans.identifier_begin.Given as goal

abbrev pub invariant-loop-begin : goal.invariant-loop-begin
invariant-loop-begin l = record {
  before : l.begin ≤ l.offset;
  within : l.offset ≤ length l.text;
  passed : suffix_len is_identifier_byte (take l.offset l.text) + l.begin ≡ suffix_len is_identifier_byte (take l.begin l.text) + l.offset;
}

abbrev pub decreases-loop-begin : goal.decreases-loop-begin
decreases-loop-begin l = l.begin
