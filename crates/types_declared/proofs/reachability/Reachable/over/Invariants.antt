-- The invariants of the loops of `spread::Reachable::over`.
use Rattle.std.proofs.Common.{ℕ, ◌≡◌, ◌≤◌, ◌-◌, length}
use Rattle.types_declared.specs.Reachability.{HasMark, ListsMarks, IsOrdered, IsReachable}
use Rattle.types_declared.proofs.ReachableParts.{IsFollowed}
use Rattle.types_declared.proofs.reachability.Reachable.over.Given as goal

abbrev pub invariant-loop-place : goal.invariant-loop-place
invariant-loop-place l = record {
  size : length l.spread.marks.items ≡ length l.links;
  listed : ListsMarks l.spread.found.items l.spread.marks.items;
  begun : (q : ℕ) → HasMark l.begins q → HasMark l.spread.marks.items q;
  sound : (q : ℕ) → HasMark l.spread.marks.items q → IsReachable l.links (HasMark l.begins) q;
  followed : IsFollowed l.links l.spread.found.items l.spread.marks.items l.place;
  ordered : IsOrdered l.links (HasMark l.begins) l.spread.found.items;
  within : l.place ≤ length l.spread.found.items;
}

abbrev pub decreases-loop-place : goal.decreases-loop-place
decreases-loop-place l = length l.links - l.place
