-- The invariants of the loops of `own_uses::binding_of_name`.
use Rattle.go_scope.specs.Packages.{layout_in, names_in}
use Rattle.refactor_scopes.proofs.Nearest.{Nearest}
use Rattle.refactor_scopes.proofs.own_uses.binding_of_name.Given as goal

abbrev pub invariant-loop-i : goal.invariant-loop-i
invariant-loop-i l = Nearest (layout_in l.rename.table.now) (names_in l.rename.table.now) l.rename.named.items l.u l.i l.found
