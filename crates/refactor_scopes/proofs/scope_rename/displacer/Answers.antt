-- The answers to the goals of `scope_rename::displacer`.
use Rattle.std.proofs.Common.{ℕ, ◌≡◌, ◌<◌, length, get_or, sym, subst, ◌∙◌, arith, inl, inr}
use Rattle.std.proofs.lemmas.Bool.{cases_lt, false≢true}
use Rattle.go_scope.specs.Bindings.{Declares, Displaces}
use Rattle.go_scope.specs.Packages.{layout_in, names_in}
use Rattle.refactor_scopes.proofs.Listing.{read_at}
use Rattle.refactor_scopes.proofs.Renames.{declared_listed, named_at}
use Rattle.refactor_scopes.proofs.scope_rename.displacer.Goals as goal

pub is_displacer-requires-clause-in_range : goal.is_displacer-requires-clause-in_range
is_displacer-requires-clause-in_range c =
    (named_at c.args.rename.now c.requires c.loop-i.i c.index-z.result.now
    (omega (arith, c.loop-i-test.true, c.len-i-end.ensures, c.args.rename.now.named.ok.0)) c.index-z.ensures).0

pub loop-i-preserved : goal.loop-i-preserved
loop-i-preserved c = λ j lt de q.
    let r = c.args.rename.now in
    let l = layout_in r.table.now in
    let names = names_in r.table.now in
    let i = c.loop-i.i in
    let within : i < length r.named.items = omega (arith, c.loop-i-test.true, c.len-i-end.ensures, r.named.ok.0) in
    let read = read_at r.named.items i c.index-z.result.now within c.index-z.ensures in
    elim (cases_lt j i) [
      | inl less ↦ c.loop-i.invariant j less de q
      | inr ge ↦
          let same : j ≡ i = omega arith in
          let D : ℕ → Type 0 = λ v. Declares l names (get_or r.named.items v 0) × Displaces l (get_or r.named.items v 0) r.declaration in
          let Z : ℕ → Type 0 = λ v. Declares l names v × Displaces l v r.declaration in
          false≢true (sym c.if-is_displacer.false ∙ c.is_displacer.ensures.1 (subst Z (sym read) (subst D same (de, q))))
    ]

pub returns : goal.returns
returns c = λ z h.
    let r = c.args.rename.now in
    let l = layout_in r.table.now in
    let at = declared_listed r c.requires z h.declares h.named in
    let inside : at.0 < length r.named.items = at.1 in
    let D : ℕ → Type 0 = λ v. Declares l (names_in r.table.now) v in
    let Q : ℕ → Type 0 = λ v. Displaces l v r.declaration in
    c.loop-i.invariant at.0 (omega (arith, inside, c.loop-i-test.false, c.len-i-end.ensures, r.named.ok.0)) (subst D (sym at.2) h.declares)
    (subst Q (sym at.2) h.displaces)
