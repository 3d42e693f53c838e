-- The invariants of the loops of `own_uses::first_taken`.
use Rattle.go_scope.specs.Packages.{layout_in, names_in}
use Rattle.refactor_scopes.specs.Conflicts.{IsUseInScopes, WouldTake}
use Rattle.refactor_scopes.specs.Numbers.{IsFirstNumber}
use Rattle.refactor_scopes.proofs.Taken.{IsTakenBelow}
use Rattle.refactor_scopes.proofs.own_uses.first_taken.Given as goal

abbrev pub invariant-loop-i : goal.invariant-loop-i
invariant-loop-i l =
    let layout = layout_in l.rename.table.now in
    let names = names_in l.rename.table.now in
    IsFirstNumber
    (λ u. IsUseInScopes layout names l.rename.declaration u
    × IsTakenBelow (WouldTake layout names l.rename.declaration l.rename.name.now) l.rename.named.items l.i u) l.first
