-- The invariants of the loops of `taken::front_len`.
use Rattle.std.proofs.Common.{◌≡◌, ◌==◌, ◌+◌, ◌-◌, ◌≤◌, drop, length}
use Rattle.std.specs.List.{position_or_len}
use Rattle.lsp_editor.proofs.taken.front_len.Given as goal

abbrev pub invariant-loop-end : goal.invariant-loop-end
invariant-loop-end l = record {
  within : l.end ≤ length l.path;
  passed : position_or_len (λ byte. byte == 47) l.path ≡ l.end + position_or_len (λ byte. byte == 47) (drop l.end l.path);
}

abbrev pub decreases-loop-end : goal.decreases-loop-end
decreases-loop-end l = length l.path - l.end
