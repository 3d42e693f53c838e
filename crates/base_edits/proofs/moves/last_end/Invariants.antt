-- The last end at the offset or before it lies between the two numbers.
use Rattle.std.proofs.Common.{◌≡◌, ◌-◌, ◌<◌, ◌≤◌, length}
use Rattle.std.specs.Prelude.{Some, slice_get}
use Rattle.base_edits.specs.declared.moves.End.{End}
use Rattle.base_edits.proofs.moves.last_end.Given as goal

abbrev pub invariant-loop-high : goal.invariant-loop-high
invariant-loop-high l = record {
  order : l.low < l.high;
  within : l.high ≤ length l.ends;
  reached : (end : End) → slice_get l.ends l.low ≡ Some end → end.old ≤ l.offset;
  behind : (end : End) → slice_get l.ends l.high ≡ Some end → l.offset < end.old;
}

abbrev pub decreases-loop-high : goal.decreases-loop-high
decreases-loop-high l = l.high - l.low
