-- The invariants of the loops of `values::are_at_most`.
use Rattle.std.proofs.Common.{ℕ, ◌≤◌, get_or}
use Rattle.types_declared.proofs.ReachableParts.{IsPassed}
use Rattle.types_members.proofs.values.are_at_most.Given as goal

abbrev pub invariant-loop-number : goal.invariant-loop-number
invariant-loop-number l = (q : ℕ) → IsPassed l.numbers l.number-index q → get_or l.values q 0 ≤ l.most
