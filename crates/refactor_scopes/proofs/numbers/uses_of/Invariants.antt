-- The invariants of the loops of `numbers::uses_of`.
use Rattle.go_scope.specs.Packages.{layout_in, names_in}
use Rattle.refactor_scopes.specs.Conflicts.{IsUseInScopes}
use Rattle.refactor_scopes.specs.Numbers.{ListsNumbers}
use Rattle.refactor_scopes.proofs.numbers.uses_of.Given as goal

abbrev pub invariant-loop-u : goal.invariant-loop-u
invariant-loop-u l = ListsNumbers (IsUseInScopes (layout_in l.table) (names_in l.table) l.d) l.u l.uses.items
