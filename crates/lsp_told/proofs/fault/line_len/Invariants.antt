-- The invariants of the loops of `fault::line_len`.
use Rattle.std.proofs.Common.{◌≡◌, ◌+◌, ◌-◌, ◌≤◌, drop, length}
use Rattle.std.specs.List.{position_or_len}
use Rattle.server_read.specs.FirstLine.{is_newline}
use Rattle.lsp_told.proofs.fault.line_len.Given as goal

abbrev pub invariant-loop-end : goal.invariant-loop-end
invariant-loop-end l = record {
  within : l.end ≤ length l.text;
  passed : position_or_len is_newline l.text ≡ l.end + position_or_len is_newline (drop l.end l.text);
}

abbrev pub decreases-loop-end : goal.decreases-loop-end
decreases-loop-end l = length l.text - l.end
