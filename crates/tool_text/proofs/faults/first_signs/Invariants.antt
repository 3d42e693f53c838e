-- The invariants of the loops of `faults::first_signs`.
use Rattle.std.proofs.Common.{◌≡◌, ◌+◌, ◌-◌, ◌≤◌, drop, length}
use Rattle.std.specs.List.{prefix_len}
use Rattle.tool_text.specs.Faults.{is_sign_byte}
use Rattle.tool_text.proofs.faults.first_signs.Given as goal

abbrev pub invariant-loop-end : goal.invariant-loop-end
invariant-loop-end l = record {
  within : l.end ≤ length l.text;
  passed : prefix_len is_sign_byte l.text ≡ l.end + prefix_len is_sign_byte (drop l.end l.text);
}

abbrev pub decreases-loop-end : goal.decreases-loop-end
decreases-loop-end l = length l.text - l.end
