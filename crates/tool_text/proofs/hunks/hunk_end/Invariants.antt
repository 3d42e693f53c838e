-- The invariants of the loops of `hunks::hunk_end`.
use Rattle.std.proofs.Common.{◌-◌, ◌<◌, ◌≤◌, length}
use Rattle.tool_text.proofs.hunks.hunk_end.Given as goal

abbrev pub invariant-loop-next : goal.invariant-loop-next
invariant-loop-next l = record {
  behind : l.first < l.end;
  next : l.end ≤ l.next;
  within : l.next ≤ length l.pairs;
}

abbrev pub decreases-loop-next : goal.decreases-loop-next
decreases-loop-next l = length l.pairs - l.end
