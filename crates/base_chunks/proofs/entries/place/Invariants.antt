-- The key is above the entries before low, and not above that at high.
use Rattle.std.proofs.Common.{◌≡◌, ◌-◌, ◌≤◌, false, length, take, drop}
use Rattle.base_chunks.specs.Entries.{IsAfterAll, is_after}
use Rattle.base_chunks.proofs.entries.place.Given as goal

abbrev pub invariant-halving : goal.invariant-halving
invariant-halving g l = record {
  order : l.low ≤ l.high;
  within : l.high ≤ length l.entries;
  front : IsAfterAll g.K.Ord.cmp l.key (take l.low l.entries);
  back : is_after g.K.Ord.cmp l.key (drop l.high l.entries) ≡ false;
}

abbrev pub decreases-halving : goal.decreases-halving
decreases-halving g l = l.high - l.low
