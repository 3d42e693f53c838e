-- The invariants of the loops of `by_token::reach`.
use Rattle.std.proofs.Common.{ℕ, ◌≡◌, ◌+◌, ◌-◌, length}
use Rattle.go_scope.specs.ByToken.{row_number}
use Rattle.go_scope.proofs.by_token.reach.Given as goal

abbrev pub invariant-loop-row : goal.invariant-loop-row
invariant-loop-row l = (t : ℕ) → row_number l.row.items t ≡ row_number l.initial.row.items t

abbrev pub decreases-loop-row : goal.decreases-loop-row
decreases-loop-row l = l.token + 1 - length l.row.items
