-- The invariants of the loops of `scope_rename::named_conflict`.
use Rattle.std.proofs.Common.{ℕ, ◌<◌, get_or}
use Rattle.go_scope.specs.Packages.{layout_in, names_in}
use Rattle.law_rename.specs.Renaming.{HasNoConflictAt}
use Rattle.refactor_scopes.specs.Conflicts.{IsWritten}
use Rattle.refactor_scopes.proofs.scope_rename.named_conflict.Given as goal

abbrev pub invariant-loop-i : goal.invariant-loop-i
invariant-loop-i l = (j : ℕ) → j < l.i → IsWritten (layout_in l.rename.table.now) (get_or l.rename.named.items j 0) →
    HasNoConflictAt (layout_in l.rename.table.now) (names_in l.rename.table.now) l.rename.declaration l.rename.name.now (get_or l.rename.named.items j 0)
