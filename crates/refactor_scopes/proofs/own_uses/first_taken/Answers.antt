-- The answers to the goals of `own_uses::first_taken`.
use Rattle.std.proofs.Common.{ℕ, ◌+◌, ◌<◌, length, sym, subst, arith, Option}
use Rattle.go_scope.specs.Packages.{layout_in, names_in}
use Rattle.refactor_scopes.specs.Conflicts.{IsUseInScopes, WouldTake}
use Rattle.refactor_scopes.specs.Numbers.{IsFirstNumber}
use Rattle.refactor_scopes.proofs.Listing.{read_at}
use Rattle.refactor_scopes.proofs.Renames.{declared_listed, named_at}
use Rattle.refactor_scopes.proofs.Taken.{IsTakenBelow, next_taken, all_taken}
use Rattle.refactor_scopes.proofs.own_uses.first_taken.Goals as goal

pub first_taken_by-requires-clause-in_range : goal.first_taken_by-requires-clause-in_range
first_taken_by-requires-clause-in_range c =
    (named_at c.args.rename.now c.requires c.loop-i.i c.index.result.now
    (omega (arith, c.loop-i-test.true, c.len-i-end.ensures, c.args.rename.now.named.ok.0)) c.index.ensures).0

pub loop-i-preserved : goal.loop-i-preserved
loop-i-preserved c =
    let r = c.args.rename.now in
    let l = layout_in r.table.now in
    let names = names_in r.table.now in
    let i = c.loop-i.i in
    let within : i < length r.named.items = omega (arith, c.loop-i-test.true, c.len-i-end.ensures, r.named.ok.0) in
    let read = read_at r.named.items i c.index.result.now within c.index.ensures in
    let U : ℕ → Type 0 = λ u. IsUseInScopes l names r.declaration u in
    let T : ℕ → ℕ → Type 0 = λ u v. WouldTake l names r.declaration r.name.now u v in
    let F : ℕ → Type 0 = λ v. IsFirstNumber (λ u. U u × T u v) c.first_taken_by.result in
    let G : Option ℕ → Type 0 = λ o. IsFirstNumber (λ u. U u × IsTakenBelow T r.named.items (i + 1) u) o in
    subst G (sym c.earliest-first.ensures)
    (next_taken U T r.named.items i c.loop-i.first c.first_taken_by.result c.loop-i.invariant (subst F read c.first_taken_by.ensures))

pub returns : goal.returns
returns c =
    let r = c.args.rename.now in
    let l = layout_in r.table.now in
    let names = names_in r.table.now in
    all_taken (λ u. IsUseInScopes l names r.declaration u) (λ u v. WouldTake l names r.declaration r.name.now u v) r.named.items c.loop-i.i c.loop-i.first
    (omega (arith, c.loop-i-test.false, c.len-i-end.ensures, r.named.ok.0)) (λ u v t. declared_listed r c.requires v t.declares t.named) c.loop-i.invariant
