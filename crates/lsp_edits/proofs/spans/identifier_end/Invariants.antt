-- The invariants of the loops of `spans::identifier_end`.
use Rattle.std.proofs.Common.{◌≡◌, ◌+◌, ◌-◌, ◌≤◌, drop, length}
use Rattle.std.specs.List.{prefix_len}
use Rattle.lsp_edits.specs.Spans.{is_identifier_byte}
use Rattle.lsp_edits.proofs.spans.identifier_end.Given as goal

abbrev pub invariant-loop-end : goal.invariant-loop-end
invariant-loop-end l = record {
  behind : l.offset ≤ l.end;
  within : l.end ≤ length l.text;
  passed : l.offset + prefix_len is_identifier_byte (drop l.offset l.text) ≡ l.end + prefix_len is_identifier_byte (drop l.end l.text);
}

abbrev pub decreases-loop-end : goal.decreases-loop-end
decreases-loop-end l = length l.text - l.end
