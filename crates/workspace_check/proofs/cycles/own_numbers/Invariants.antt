-- The invariants of the loops of `cycles::own_numbers`.
use Rattle.std.proofs.Common.{ℕ, ◌≡◌, ◌<◌, length, get_or}
use Rattle.workspace_check.proofs.cycles.own_numbers.Given as goal

abbrev pub invariant-loop-number : goal.invariant-loop-number
invariant-loop-number l = record { size : length l.numbers.items ≡ l.number; own : (i : ℕ) → i < l.number → get_or l.numbers.items i 0 ≡ i }
