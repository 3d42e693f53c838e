-- The invariants of the loops of `positions::offset_of`.
use Rattle.std.proofs.Common.{◌≡◌, ◌<◌, ◌≤◌, ◌+◌, ◌==◌, ℕ, take}
use Rattle.std.specs.Prelude.{count_by}
use Rattle.std.specs.List.{suffix_len}
use Rattle.tool_text.specs.Positions.{is_inside_line, line_position}
use Rattle.tool_text.proofs.positions.offset_of.Given as goal

abbrev pub invariant-loop-offset : goal.invariant-loop-offset
invariant-loop-offset l = record {
  line : l.line ≡ count_by (λ byte. byte == 10) (take l.offset l.text) + 1;
  column : l.column ≡ suffix_len is_inside_line (take l.offset l.text) + 1;
  within : l.column ≤ l.offset + 1;
  none : (offset : ℕ) → offset < l.offset → line_position l.text offset ≡ l.asked → ⊥;
}
