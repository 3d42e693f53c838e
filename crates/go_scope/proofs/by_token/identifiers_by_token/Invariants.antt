-- The invariants of the loops of `by_token::identifiers_by_token`.
use Rattle.go_scope.specs.Packages.{layout_in}
use Rattle.go_scope.specs.ByToken.{numbers_in, AreIdentifiers}
use Rattle.go_scope.proofs.by_token.identifiers_by_token.Given as goal

abbrev pub invariant-loop-u : goal.invariant-loop-u
invariant-loop-u l = AreIdentifiers (layout_in l.identifiers) l.u (numbers_in l.found)
