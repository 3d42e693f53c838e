-- The invariants of the loops of `scope_rename::displacer`.
use Rattle.std.proofs.Common.{ℕ, ◌<◌, get_or}
use Rattle.go_scope.specs.Bindings.{Declares, Displaces}
use Rattle.go_scope.specs.Packages.{layout_in, names_in}
use Rattle.refactor_scopes.proofs.scope_rename.displacer.Given as goal

abbrev pub invariant-loop-i : goal.invariant-loop-i
invariant-loop-i l = (j : ℕ) → j < l.i → Declares (layout_in l.rename.table.now) (names_in l.rename.table.now) (get_or l.rename.named.items j 0) →
    Displaces (layout_in l.rename.table.now) (get_or l.rename.named.items j 0) l.rename.declaration → ⊥
