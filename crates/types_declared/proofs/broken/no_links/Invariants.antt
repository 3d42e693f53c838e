-- The invariants of the loops of `broken::no_links`.
use Rattle.std.proofs.Common.{ℕ, ◌≡◌, length}
use Rattle.types_declared.specs.Reachability.{LinksTo}
use Rattle.types_declared.proofs.broken.no_links.Given as goal

abbrev pub invariant-loop-number : goal.invariant-loop-number
invariant-loop-number l = record { size : length l.links.items ≡ l._number; none : (a b : ℕ) → LinksTo l.links.items a b → ⊥ }
