-- The invariants of the loops of `by_token::ByToken::reach_file`.
use Rattle.std.proofs.Common.{ℕ, ◌≡◌, ◌+◌, ◌-◌, length}
use Rattle.go_scope.specs.ByToken.{numbers_in}
use Rattle.go_scope.proofs.by_token.ByToken.reach_file.Given as goal

abbrev pub invariant-loop-alloc : goal.invariant-loop-alloc
invariant-loop-alloc l = (f t : ℕ) → numbers_in l.self f t ≡ numbers_in l.initial.self f t

abbrev pub decreases-loop-alloc : goal.decreases-loop-alloc
decreases-loop-alloc l = l.file + 1 - length l.self.rows.items
