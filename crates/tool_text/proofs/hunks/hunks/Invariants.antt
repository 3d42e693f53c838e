-- The invariants of the loops of `hunks::hunks`.
use Rattle.std.proofs.Common.{◌-◌, ◌<◌, ◌≤◌, ◌⊎◌, ℕ, length}
use Rattle.std.specs.List.{All}
use Rattle.base_files.specs.declared.place.Span.{Span}
use Rattle.tool_text.specs.Diff.{AreHunksWithin, AreHunksInOrder, IsEvenAt, IsInHunk}
use Rattle.tool_text.proofs.hunks.hunks.Given as goal

abbrev pub invariant-loop-first : goal.invariant-loop-first
invariant-loop-first l = record {
  behind : l.from ≤ l.first;
  within : l.first ≤ length l.pairs;
  hunks : AreHunksWithin (length l.pairs) l.hunks.items;
  ordered : AreHunksInOrder l.hunks.items;
  all_before : All (λ (hunk : Span). hunk.end ≤ l.from) l.hunks.items;
  others : (number : ℕ) → number < l.from → IsEvenAt l.pairs number ⊎ IsInHunk l.hunks.items number;
  even : (number : ℕ) → l.from ≤ number → number < l.first → IsEvenAt l.pairs number;
}

abbrev pub decreases-loop-first : goal.decreases-loop-first
decreases-loop-first l = length l.pairs - l.first
