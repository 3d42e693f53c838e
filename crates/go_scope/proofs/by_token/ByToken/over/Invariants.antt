-- The invariants of the loops of `by_token::ByToken::over`.
use Rattle.std.proofs.Common.{ℕ, ◌≡◌, None, slice_get}
use Rattle.go_scope.specs.ByToken.{row_number, row_at}
use Rattle.go_scope.proofs.by_token.ByToken.over.Given as goal

abbrev pub invariant-loop-file : goal.invariant-loop-file
invariant-loop-file l = (f t : ℕ) → row_number (row_at (slice_get l.rows.items f)) t ≡ None
