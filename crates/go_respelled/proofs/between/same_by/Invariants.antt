-- The bytes compared so far are the same, and lie within both texts.
use Rattle.std.proofs.Common.{◌≡◌, ◌-◌, ◌≤◌, length, take}
use Rattle.go_respelled.proofs.between.same_by.Given as goal

abbrev pub invariant-loop-n : goal.invariant-loop-n
invariant-loop-n l = record {
  within : l.n ≤ l.size;
  one : l.size ≤ length l.one;
  other : l.size ≤ length l.other;
  same : take l.n l.one ≡ take l.n l.other;
}

abbrev pub decreases-loop-n : goal.decreases-loop-n
decreases-loop-n l = l.size - l.n
