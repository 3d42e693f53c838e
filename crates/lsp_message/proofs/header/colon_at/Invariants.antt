-- The invariants of the loops of `header::colon_at`.
use Rattle.std.proofs.Common.{◌≡◌, ◌+◌, ◌-◌, ◌≤◌, ◌==◌, drop, length}
use Rattle.std.specs.List.{position_or_len}
use Rattle.lsp_message.proofs.header.colon_at.Given as goal

abbrev pub invariant-loop-end : goal.invariant-loop-end
invariant-loop-end l = record {
  within : l.end ≤ length l.line;
  passed : position_or_len (λ byte. byte == 58) l.line ≡ l.end + position_or_len (λ byte. byte == 58) (drop l.end l.line);
}

abbrev pub decreases-loop-end : goal.decreases-loop-end
decreases-loop-end l = length l.line - l.end
