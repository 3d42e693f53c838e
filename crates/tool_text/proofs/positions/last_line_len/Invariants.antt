-- The invariants of the loops of `positions::last_line_len`.
use Rattle.std.proofs.Common.{◌≡◌, ◌+◌, ◌≤◌, length, take}
use Rattle.std.specs.List.{suffix_len}
use Rattle.tool_text.specs.Positions.{is_inside_line}
use Rattle.tool_text.proofs.positions.last_line_len.Given as goal

abbrev pub invariant-loop-start : goal.invariant-loop-start
invariant-loop-start l = record {
  within : l.start ≤ length l.text;
  passed : suffix_len is_inside_line l.text + l.start ≡ suffix_len is_inside_line (take l.start l.text) + length l.text;
}

abbrev pub decreases-loop-start : goal.decreases-loop-start
decreases-loop-start l = l.start
