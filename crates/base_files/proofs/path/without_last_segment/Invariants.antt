-- The invariants of the loops of `path::without_last_segment`.
use Rattle.std.proofs.Common.{◌≡◌, ◌+◌, ◌≤◌, ◌==◌, length, take}
use Rattle.std.specs.Prelude.{not}
use Rattle.std.specs.List.{suffix_len}
use Rattle.base_files.proofs.path.without_last_segment.Given as goal

abbrev pub invariant-loop-end : goal.invariant-loop-end
invariant-loop-end l = record {
  within : l.end ≤ length l.path;
  passed : suffix_len (λ b. not (b == 47)) l.path + l.end ≡ suffix_len (λ b. not (b == 47)) (take l.end l.path) + length l.path;
}

abbrev pub decreases-loop-end : goal.decreases-loop-end
decreases-loop-end l = l.end
