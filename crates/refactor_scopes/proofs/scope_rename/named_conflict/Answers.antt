-- The answers to the goals of `scope_rename::named_conflict`.
use Rattle.std.proofs.Common.{ℕ, ◌≡◌, ◌<◌, length, get_or, sym, subst, arith, inl, inr}
use Rattle.std.proofs.lemmas.Bool.{cases_lt}
use Rattle.go_scope.specs.Packages.{layout_in, names_in}
use Rattle.go_scope.proofs.Nests.{nests}
use Rattle.law_rename.specs.Renaming.{HasNoConflictAt}
use Rattle.refactor_scopes.specs.declared.outcomes.RenameOutcome.{RenameOutcome}
use Rattle.refactor_scopes.specs.Conflicts.{IsConflictAt, IsWritten}
use Rattle.refactor_scopes.specs.Outcomes.{IsOutcome}
use Rattle.refactor_scopes.proofs.Listing.{read_at, stands_before}
use Rattle.refactor_scopes.proofs.Renames.{conflict_by, named_at, named_listed, none_beyond}
use Rattle.refactor_scopes.proofs.scope_rename.named_conflict.Goals as goal

pub named_outcome-outcome-requires-clause-in_range : goal.named_outcome-outcome-requires-clause-in_range
named_outcome-outcome-requires-clause-in_range c =
    (named_at c.args.rename.now c.requires c.loop-i.i c.index-u.result.now
    (omega (arith, c.loop-i-test.true, c.len-i-end.ensures, c.args.rename.now.named.ok.0)) c.index-u.ensures).0

pub named_outcome-outcome-requires-clause-named : goal.named_outcome-outcome-requires-clause-named
named_outcome-outcome-requires-clause-named c =
    (named_at c.args.rename.now c.requires c.loop-i.i c.index-u.result.now
    (omega (arith, c.loop-i-test.true, c.len-i-end.ensures, c.args.rename.now.named.ok.0)) c.index-u.ensures).1

pub conflict_at-requires : goal.conflict_at-requires
conflict_at-requires c =
    (named_at c.args.rename.now c.requires c.loop-i.i c.index-u.result.now
    (omega (arith, c.loop-i-test.true, c.len-i-end.ensures, c.args.rename.now.named.ok.0)) c.index-u.ensures).0

pub loop-i-preserved : goal.loop-i-preserved
loop-i-preserved c = λ j lt id.
    let r = c.args.rename.now in
    let l = layout_in r.table.now in
    let names = names_in r.table.now in
    let i = c.loop-i.i in
    let within : i < length r.named.items = omega (arith, c.loop-i-test.true, c.len-i-end.ensures, r.named.ok.0) in
    let read = read_at r.named.items i c.index-u.result.now within c.index-u.ensures in
    elim (cases_lt j i) [
      | inl less ↦ c.loop-i.invariant j less id
      | inr ge ↦
          let same : j ≡ i = omega arith in
          let I : ℕ → Type 0 = λ v. IsWritten l (get_or r.named.items v 0) in
          let J : ℕ → Type 0 = λ v. IsWritten l v in
          let O : RenameOutcome → Type 0 = λ v. IsOutcome l names r.declaration r.name.now c.index-u.result.now v in
          let H : ℕ → Type 0 = λ v. HasNoConflictAt l names r.declaration r.name.now v in
          let G : ℕ → Type 0 = λ v. HasNoConflictAt l names r.declaration r.name.now (get_or r.named.items v 0) in
          subst G (sym same) (subst H read (subst O (c.in-None.ensures (subst J (sym read) (subst I same id))) c.named_outcome-outcome.ensures))
    ]

pub returns-in-Some : goal.returns-in-Some
returns-in-Some c =
    let r = c.args.rename.now in
    let l = layout_in r.table.now in
    let names = names_in r.table.now in
    let i = c.loop-i.i in
    let within : i < length r.named.items = omega (arith, c.loop-i-test.true, c.len-i-end.ensures, r.named.ok.0) in
    let read = read_at r.named.items i c.index-u.result.now within c.index-u.ensures in
    let at = named_at r c.requires i c.index-u.result.now within c.index-u.ensures in
    let same = c.in-Some.ensures.1 in
    let I : ℕ → Type 0 = λ v. IsWritten l v in
    let O : RenameOutcome → Type 0 = λ v. IsOutcome l names r.declaration r.name.now c.index-u.result.now v in
    let K : ℕ → Type 0 = λ v. IsConflictAt l names r.declaration r.name.now v c.in-Some.conflict.by in
    let H : ℕ → Type 0 = λ v. HasNoConflictAt l names r.declaration r.name.now v in (
      subst I (sym same) c.in-Some.ensures.0,
      subst K (sym same) (conflict_by r c.requires c.index-u.result.now c.in-Some.conflict.by (subst O c.in-Some.ensures.2 c.named_outcome-outcome.ensures)),
      (λ v lt id named.
          let less : v < c.index-u.result.now = (let L : ℕ → Type 0 = λ w. v < w in subst L same lt) in
          let size : c.index-u.result.now < length r.table.now.sites = at.0 in
          let place = named_listed r c.requires v (omega arith) named in
          let inside : place.0 < length r.named.items = place.1 in
          let L : ℕ → Type 0 = λ w. w < get_or r.named.items i 0 in
          let M : ℕ → Type 0 = λ w. v < w in
          let before : place.0 < i =
          stands_before (λ u. names u ≡ r.name.now) (length r.table.now.sites) r.named.items c.requires.named i place.0 within inside
          (subst L (sym place.2) (subst M read less)) in
          subst H place.2 (c.loop-i.invariant place.0 before (subst I (sym place.2) id))),
    )

pub returns : goal.returns
returns c = λ u id named.
    let r = c.args.rename.now in
    let l = layout_in r.table.now in
    elim (cases_lt u (length r.table.now.sites)) [
      | inl within ↦
          let place = named_listed r c.requires u within named in
          let inside : place.0 < length r.named.items = place.1 in
          let I : ℕ → Type 0 = λ v. IsWritten l v in
          let H : ℕ → Type 0 = λ v. HasNoConflictAt l (names_in r.table.now) r.declaration r.name.now v in
          subst H place.2 (c.loop-i.invariant place.0 (omega (arith, inside, c.loop-i-test.false, c.len-i-end.ensures, r.named.ok.0)) (subst I (sym place.2)
          id))
      | inr past ↦ none_beyond r c.requires (nests l c.is_well_formed.ensures) u past
    ]
