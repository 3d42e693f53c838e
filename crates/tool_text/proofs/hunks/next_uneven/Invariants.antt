-- The invariants of the loops of `hunks::next_uneven`.
use Rattle.std.proofs.Common.{◌-◌, ◌<◌, ◌≤◌, ℕ, length}
use Rattle.tool_text.specs.Diff.{IsEvenAt}
use Rattle.tool_text.proofs.hunks.next_uneven.Given as goal

abbrev pub invariant-loop-at : goal.invariant-loop-at
invariant-loop-at l = record {
  behind : l.from ≤ l.at;
  within : l.at ≤ length l.pairs;
  even : (number : ℕ) → l.from ≤ number → number < l.at → IsEvenAt l.pairs number;
}

abbrev pub decreases-loop-at : goal.decreases-loop-at
decreases-loop-at l = length l.pairs - l.at
