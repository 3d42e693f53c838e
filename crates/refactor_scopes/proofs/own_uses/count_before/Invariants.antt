-- The invariants of the loops of `own_uses::count_before`: uses below the lower number are before the position, those from the higher one
-- on are not.
use Rattle.std.proofs.Common.{ℕ, ◌-◌, ◌<◌, ◌≤◌, length, get_or}
use Rattle.go_scope.specs.Packages.{layout_in}
use Rattle.go_scope.specs.WellFormed.{IsNotAfter}
use Rattle.refactor_scopes.proofs.own_uses.count_before.Given as goal

abbrev pub invariant-loop-low : goal.invariant-loop-low
invariant-loop-low l = record {
  order : l.low ≤ l.high;
  within : l.high ≤ length l.rename.uses.items;
  before : (i : ℕ) → i < l.low → IsNotAfter l.start ((layout_in l.rename.table.now).place (get_or l.rename.uses.items i 0)) → ⊥;
  behind : (i : ℕ) → l.high ≤ i → i < length l.rename.uses.items →
      IsNotAfter l.start ((layout_in l.rename.table.now).place (get_or l.rename.uses.items i 0));
}

abbrev pub decreases-loop-low : goal.decreases-loop-low
decreases-loop-low l = l.high - l.low
