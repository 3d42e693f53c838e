-- The invariants of the loops of `identifiers::Identifiers::first_beginning_at`.
use Rattle.std.proofs.Common.{ℕ, ◌<◌}
use Rattle.go_scope.specs.Packages.{IsAtPlace}
use Rattle.go_scope.proofs.identifiers.Identifiers.first_beginning_at.Given as goal

abbrev pub invariant-loop-u : goal.invariant-loop-u
invariant-loop-u l = (k : ℕ) → k < l.u → IsAtPlace l.self l.place.path l.place.offset k → ⊥
