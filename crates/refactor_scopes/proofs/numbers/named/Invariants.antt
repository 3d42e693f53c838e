-- The invariants of the loops of `numbers::named`.
use Rattle.std.proofs.Common.{◌≡◌}
use Rattle.go_scope.specs.Packages.{names_in}
use Rattle.refactor_scopes.specs.Numbers.{ListsNumbers}
use Rattle.refactor_scopes.proofs.numbers.named.Given as goal

abbrev pub invariant-loop-u : goal.invariant-loop-u
invariant-loop-u l = ListsNumbers (λ u. names_in l.table u ≡ l.name) l.u l.named.items
