-- The answers to the goals of `own_uses::binding_of_name`.
use Rattle.std.proofs.Common.{ℕ, ◌≡◌, ◌+◌, ◌<◌, ◌⊎◌, length, sym, subst, ◌∙◌, arith, Option}
use Rattle.std.specs.Prelude.{MatchOption}
use Rattle.std.proofs.lemmas.Bool.{false≢true}
use Rattle.go_scope.specs.Packages.{layout_in, names_in}
use Rattle.go_scope.specs.Table.{Precedes}
use Rattle.go_scope.proofs.Nests.{nests}
use Rattle.refactor_scopes.proofs.Listing.{read_at}
use Rattle.refactor_scopes.proofs.Nearest.{HoldsUse, Nearest, held, not_held, is_bound}
use Rattle.refactor_scopes.proofs.Renames.{declared_listed, found_within, named_at, named_there}
use Rattle.refactor_scopes.proofs.own_uses.binding_of_name.Goals.{then-holds, else-holds}
use Rattle.refactor_scopes.proofs.own_uses.binding_of_name.Goals as goal

pub holds-requires-clause-first : goal.holds-requires-clause-first
holds-requires-clause-first c =
    (named_at c.args.rename.now c.requires.read c.loop-i.i c.index-c.result.now
    (omega (arith, c.loop-i-test.true, c.len-i-end.ensures, c.args.rename.now.named.ok.0)) c.index-c.ensures).0

pub nearer-requires-clause-first : goal.nearer-requires-clause-first
nearer-requires-clause-first c = found_within c.args.rename.now c.requires.read c.args.u c.loop-i.i c.loop-i.found c.loop-i.invariant

pub nearer-requires-clause-second : goal.nearer-requires-clause-second
nearer-requires-clause-second c =
    (named_at c.args.rename.now c.requires.read c.loop-i.i c.index-c.result.now
    (omega (arith, c.loop-i-test.true, c.len-i-end.ensures, c.args.rename.now.named.ok.0)) c.index-c.ensures).0

pub loop-i-preserved : goal.loop-i-preserved
loop-i-preserved c =
    let table = c.args.rename.now.table.now in
    let l = layout_in table in
    let names = names_in table in
    let numbers = c.args.rename.now.named.items in
    let i = c.loop-i.i in
    let nested = nests l c.is_well_formed.ensures in
    let within : i < length numbers = omega (arith, c.loop-i-test.true, c.len-i-end.ensures, c.args.rename.now.named.ok.0) in
    let read = read_at numbers i c.index-c.result.now within c.index-c.ensures in
    let H : ℕ → Type 0 = λ v. HoldsUse l names c.args.u v in
    elim c.if-holds.branch [
      | then-holds w ↦
          let n = w.nearer.result in
          let N : ℕ → Type 0 = λ v. MatchOption c.loop-i.found (n ≡ v) (λ b. ((n ≡ v) × Precedes l v b) ⊎ ((n ≡ b) × (Precedes l v b → ⊥))) in
          let k = c.holds.ensures.0 w.if-holds.true in
          let F : Option ℕ → Type 0 = λ o. Nearest l names numbers c.args.u (i + 1) o in
          subst F (sym w.found-is)
          (held l nested names numbers c.args.u i c.loop-i.found n within c.loop-i.invariant (subst H read (record { declares = k.0; in_scope = k.1 }))
          (subst N read w.nearer.ensures))
      | else-holds w ↦
          let F : Option ℕ → Type 0 = λ o. Nearest l names numbers c.args.u (i + 1) o in
          subst F (sym w.found-is)
          (not_held l nested names numbers c.args.u i c.loop-i.found c.loop-i.invariant (λ h.
          let k = subst H (sym read) h in
          false≢true (sym w.if-holds.false ∙ c.holds.ensures.1 (k.declares, k.in_scope))))
    ]

pub returns : goal.returns
returns c =
    let r = c.args.rename.now in
    let l = layout_in r.table.now in
    is_bound l (nests l c.is_well_formed.ensures) (names_in r.table.now) r.named.items c.args.u r.name.now c.loop-i.found c.loop-i.i
    (omega (arith, c.loop-i-test.false, c.len-i-end.ensures, r.named.ok.0)) (λ j lt. (named_there r c.requires.read j lt).1)
    (declared_listed r c.requires.read) c.loop-i.invariant
