-- The answers to the goals of `scope_rename::ScopeRename::conflict`.
use Rattle.std.proofs.Common.{ℕ, ◌≡◌, ◌⊎◌, inl, inr, sym, subst, Option}
use Rattle.go_scope.specs.Packages.{layout_in, names_in}
use Rattle.go_scope.proofs.Nests.{nests}
use Rattle.refactor_scopes.specs.declared.outcomes.ScopeConflict.{ScopeConflict}
use Rattle.refactor_scopes.specs.Conflicts.{FirstConflictAmong, IsUseInScopes}
use Rattle.refactor_scopes.proofs.Firsts.{among_all, first_among}
use Rattle.refactor_scopes.proofs.OutcomeLaws.{kept_stranger}
use Rattle.refactor_scopes.proofs.scope_rename.ScopeRename.conflict.Goals as goal

pub returns : goal.returns
returns c =
    let r = c.args.self.now in
    let l = layout_in r.table.now in
    let names = names_in r.table.now in
    let d = r.declaration in
    let y = r.name.now in
    let Named : ℕ → Type 0 = λ u. names u ≡ y in
    let Own : ℕ → Type 0 = λ u. u ≡ d in
    let Beside : ℕ → Type 0 = λ u. Named u ⊎ Own u in
    let Use : ℕ → Type 0 = λ u. IsUseInScopes l names d u in
    let F : Option ScopeConflict → Type 0 = λ o. FirstConflictAmong l names d y Beside o in
    let G : Option ScopeConflict → Type 0 = λ o. FirstConflictAmong l names d y (λ u. Beside u ⊎ Use u) o in
    let beside = subst F (sym c.first_of-beside.ensures)
    (first_among l names d y Named Own c.named_conflict.result c.own_conflict.result c.named_conflict.ensures c.own_conflict.ensures) in
    let all = subst G (sym c.first_of.ensures)
    (first_among l names d y Beside Use c.first_of-beside.result c.own_use_conflict.result beside c.own_use_conflict.ensures) in
    among_all l names d y (λ u. Beside u ⊎ Use u) (λ u. Unit {0}) c.first_of.result
    (λ u id any not. kept_stranger l (nests l c.is_well_formed.ensures) names d y u (λ same. not (inl (inr same))) (λ named. not (inl (inl named)))
    (λ own. not (inr own))) all
