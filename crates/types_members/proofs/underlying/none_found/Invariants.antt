-- The invariants of the loops of `underlying::none_found`.
use Rattle.std.proofs.Common.{ℕ, ◌≡◌, length, get_or}
use Rattle.std.specs.Prelude.{None}
use Rattle.types_members.proofs.underlying.none_found.Given as goal

abbrev pub invariant-loop-rank : goal.invariant-loop-rank
invariant-loop-rank l = record { size : length l.found.items ≡ l._rank; none : (rank : ℕ) → get_or l.found.items rank None ≡ None }
