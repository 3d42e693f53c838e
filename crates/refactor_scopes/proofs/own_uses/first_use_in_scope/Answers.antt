-- The answers to the goals of `own_uses::first_use_in_scope`.
use Rattle.std.proofs.Common.{ℕ, ◌<◌, length, sym, subst, ◌∙◌, arith, Some}
use Rattle.std.proofs.lemmas.Bool.{false≢true}
use Rattle.go_scope.specs.declared.model.Position.{Position}
use Rattle.go_scope.specs.declared.model.Role.{Role}
use Rattle.go_scope.specs.Bindings.{InScope, scope_of}
use Rattle.go_scope.specs.Packages.{ScopedPackage, layout_in, names_in}
use Rattle.go_scope.specs.Scopes.{Holds}
use Rattle.go_scope.specs.WellFormed.{InPlaceOrder, IsNotAfter}
use Rattle.refactor_scopes.specs.Conflicts.{IsUseInScopes}
use Rattle.refactor_scopes.specs.Numbers.{IsFirstNumber}
use Rattle.refactor_scopes.proofs.Listing.{read_at}
use Rattle.refactor_scopes.proofs.Renames.{use_at, use_within}
use Rattle.refactor_scopes.proofs.Taken.{below_other, none_behind, none_in_scope, first_in_scope}
use Rattle.refactor_scopes.proofs.own_uses.first_use_in_scope.Goals as goal

pub in_scope-requires-clause-second : goal.in_scope-requires-clause-second
in_scope-requires-clause-second c =
    let r = c.args.rename.now in
    use_at r c.requires.read c.count_before-n.result c.index-u.result.now
    (below_other c.count_before-n.result (length r.uses.items) c.len.result c.count_before-n.ensures.within (c.len.ensures ∙ r.uses.ok.0) c.if-n-len.false)
    c.index-u.ensures

pub returns-then-n-len : goal.returns-then-n-len
returns-then-n-len c =
    let r = c.args.rename.now in
    let table = r.table.now in
    let l = layout_in table in
    let P : ScopedPackage → Type 0 = λ v. InPlaceOrder (layout_in v) (length v.sites) in
    let B : Role → Type 0 = λ v. (q : Position) → Holds (scope_of v) q → IsNotAfter c.scope_start.result q in
    let W : Role → Type 0 = λ v.
    (p q : Position) → Holds (scope_of v) q → IsNotAfter c.scope_start.result p → IsNotAfter p q → Holds (scope_of v) p in
    none_behind l (length table.sites) (subst P c.identifiers.ensures c.are_laid_out.ensures.placed) (IsUseInScopes l (names_in table) r.declaration)
    r.uses.items
    c.requires.read.uses c.args.c c.scope_start.result
    (record { first = subst B c.role.ensures c.scope_start.ensures.first; whole = subst W c.role.ensures c.scope_start.ensures.whole })
    c.count_before-n.result (record { before = c.count_before-n.ensures.before; behind = c.count_before-n.ensures.behind })
    (use_within r c.requires.read) (omega (arith, c.if-n-len.true, c.len.ensures, r.uses.ok.0))

pub returns-then-in_scope : goal.returns-then-in_scope
returns-then-in_scope c =
    let r = c.args.rename.now in
    let table = r.table.now in
    let l = layout_in table in
    let n = c.count_before-n.result in
    let P : ScopedPackage → Type 0 = λ v. InPlaceOrder (layout_in v) (length v.sites) in
    let B : Role → Type 0 = λ v. (q : Position) → Holds (scope_of v) q → IsNotAfter c.scope_start.result q in
    let W : Role → Type 0 = λ v.
    (p q : Position) → Holds (scope_of v) q → IsNotAfter c.scope_start.result p → IsNotAfter p q → Holds (scope_of v) p in
    let there : n < length r.uses.items =
    below_other n (length r.uses.items) c.len.result c.count_before-n.ensures.within (c.len.ensures ∙ r.uses.ok.0) c.if-n-len.false in
    let read = read_at r.uses.items n c.index-u.result.now there c.index-u.ensures in
    let I : ℕ → Type 0 = λ v. InScope l c.args.c v in
    let F : ℕ → Type 0 = λ v. IsFirstNumber (λ u. IsUseInScopes l (names_in table) r.declaration u × InScope l c.args.c u) (Some v) in
    subst F (sym read)
    (first_in_scope l (length table.sites) (subst P c.identifiers.ensures c.are_laid_out.ensures.placed) (IsUseInScopes l (names_in table) r.declaration)
    r.uses.items c.requires.read.uses c.args.c c.scope_start.result
    (record { first = subst B c.role.ensures c.scope_start.ensures.first; whole = subst W c.role.ensures c.scope_start.ensures.whole })
    n (record { before = c.count_before-n.ensures.before; behind = c.count_before-n.ensures.behind })
    (use_within r c.requires.read) there (subst I read (c.in_scope.ensures.0 c.if-in_scope.true)))

pub returns-else-in_scope : goal.returns-else-in_scope
returns-else-in_scope c =
    let r = c.args.rename.now in
    let table = r.table.now in
    let l = layout_in table in
    let n = c.count_before-n.result in
    let P : ScopedPackage → Type 0 = λ v. InPlaceOrder (layout_in v) (length v.sites) in
    let B : Role → Type 0 = λ v. (q : Position) → Holds (scope_of v) q → IsNotAfter c.scope_start.result q in
    let W : Role → Type 0 = λ v.
    (p q : Position) → Holds (scope_of v) q → IsNotAfter c.scope_start.result p → IsNotAfter p q → Holds (scope_of v) p in
    let there : n < length r.uses.items =
    below_other n (length r.uses.items) c.len.result c.count_before-n.ensures.within (c.len.ensures ∙ r.uses.ok.0) c.if-n-len.false in
    let read = read_at r.uses.items n c.index-u.result.now there c.index-u.ensures in
    let I : ℕ → Type 0 = λ v. InScope l c.args.c v in
    none_in_scope l (length table.sites) (subst P c.identifiers.ensures c.are_laid_out.ensures.placed) (IsUseInScopes l (names_in table) r.declaration)
    r.uses.items
    c.requires.read.uses c.args.c c.scope_start.result
    (record { first = subst B c.role.ensures c.scope_start.ensures.first; whole = subst W c.role.ensures c.scope_start.ensures.whole })
    n (record { before = c.count_before-n.ensures.before; behind = c.count_before-n.ensures.behind })
    (use_within r c.requires.read) there (λ holds. false≢true (sym c.if-in_scope.false ∙ c.in_scope.ensures.1 (subst I (sym read) holds)))
