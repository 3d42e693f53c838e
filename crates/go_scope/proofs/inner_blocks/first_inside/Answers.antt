-- The answers to the goals of `inner_blocks::first_inside`.
use Rattle.std.proofs.Common.{ℕ, ◌≡◌, ◌<◌, ◌≤◌, ◌∙◌, arith, length, ap, sym, subst, true, false, inl, inr, Option}
use Rattle.std.proofs.lemmas.Bool.{cases_order}
use Rattle.go_scope.specs.declared.model.Block.{Block}
use Rattle.go_scope.specs.declared.model.Block.TheVariants.{Package}
use Rattle.go_scope.specs.Bindings.{SameBlock, block_of}
use Rattle.go_scope.specs.Numbering.{numerals}
use Rattle.go_scope.specs.Scopes.{Nests}
use Rattle.go_scope.specs.Table.{layout_of}
use Rattle.go_scope.proofs.Following.{over_apart, stays_open}
use Rattle.go_scope.proofs.Linking.{last_within, last_opened}
use Rattle.go_scope.proofs.Walking.{IsLeft, last_known, last_left, walk_left, walk_known, walk_ends}
use Rattle.go_scope.proofs.inner_blocks.first_inside.Goals as goal

pub index-at-requires : goal.index-at-requires
index-at-requires c =
    let within : c.number_at.result < length c.args.links.now.last.items =
    last_within c.args.identifiers.now c.args.names.now c.args.d c.args.links.now c.requires.linked c.requires.numbered c.requires.in_range c.number_at.result
    c.number_at.ensures in
    omega arith

pub loop-at-init : goal.loop-at-init
loop-at-init c =
    let xs = c.args.identifiers.now in
    let l = layout_of xs in
    let names = numerals c.args.names.now in
    let d = c.args.d in
    let opened = last_opened xs c.args.names.now d c.args.links.now c.requires.linked c.requires.numbered c.requires.in_range c.number_at.result
    c.number_at.ensures c.index-at.result.now _ c.index-at.ensures in
    record {
      left = λ e lt k same. last_left l (length xs) names (names d) d _ opened e lt k
          (over_apart l (length xs) c.requires.laid_out d e d (omega arith) c.requires.in_range c.requires.may_declare same);
      known = last_known l (length xs) names (names d) d _ opened;
    }

pub role_at-requires-in-Some : goal.role_at-requires-in-Some
role_at-requires-in-Some c =
    let less : c.in-Some.e < c.args.d = (c.loop-at.invariant.known c.in-Some.e c.in-Some.is).0 in
    let within : c.args.d < length c.args.identifiers.now = c.requires.in_range in
    omega arith

pub index-requires : goal.index-requires
index-requires c =
    let less : c.in-Some.e < c.args.d = (c.loop-at.invariant.known c.in-Some.e c.in-Some.is).0 in
    let sized : length c.args.links.now.around.items ≡ c.args.d = c.requires.linked.linked.sized in
    omega arith

pub loop-at-preserved-then-nests : goal.loop-at-preserved-then-nests
loop-at-preserved-then-nests c =
    let xs = c.args.identifiers.now in
    let l = layout_of xs in
    let d = c.args.d in
    let k = c.in-Some.e in
    let known = c.loop-at.invariant.known k c.in-Some.is in
    let own : c.block-own.result ≡ block_of (l.role d) = c.block-own.ensures ∙ ap block_of c.role_at.ensures in
    let found : c.block-found.result ≡ block_of (l.role k) = c.block-found.ensures ∙ ap block_of c.role_at-in-Some.ensures in
    let N : Block → Type 0 = λ b. Nests b c.block-found.result in
    let M : Block → Type 0 = λ b. Nests (block_of (l.role d)) b in
    let nests = subst M found (subst N own (c.nests.ensures.0 c.if-nests.true)) in
    record {
      left = λ e lt inside same.
          let Q : Option ℕ → Type 0 = λ a. IsLeft a e in
          let le : e ≤ k = subst Q c.in-Some.is (c.loop-at.invariant.left e lt inside same) in
          elim (cases_order e k) [
            | inl is ↦
                let P : ℕ → Type 0 = λ v. SameBlock l v d in
                let t : c.same.result ≡ true = c.same.ensures.1 (found ∙ subst P is same ∙ sym own) in
                let f : c.same.result ≡ false = c.if-same.false in
                let z : ⊥ = cc in z
            | inr o ↦ elim o [
              | inl less ↦ stays_open l (length xs) c.requires.laid_out d e k c.requires.may_declare inside.leads.declares.may
                  known.1.leads.declares.may less known.0 same nests known.1.inner
              | inr more ↦ (let z : ⊥ = omega arith in z)
            ]
          ];
      known = λ x e. cc;
    }

pub loop-at-preserved : goal.loop-at-preserved
loop-at-preserved c =
    let xs = c.args.identifiers.now in
    let l = layout_of xs in
    let names = numerals c.args.names.now in
    let d = c.args.d in
    let k = c.in-Some.e in
    let known = c.loop-at.invariant.known k c.in-Some.is in
    let around = c.args.links.now.around.items in
    let own : c.block-own.result ≡ block_of (l.role d) = c.block-own.ensures ∙ ap block_of c.role_at.ensures in
    let found : c.block-found.result ≡ block_of (l.role k) = c.block-found.ensures ∙ ap block_of c.role_at-in-Some.ensures in
    record {
      left = λ e lt inside same. walk_left l (length xs) names (names d) d around c.loop-at.at _ _ k c.requires.linked.linked c.in-Some.is c.index.ensures
          c.loop-at.invariant.known e inside
          (over_apart l (length xs) c.requires.laid_out k e d (let less : k < d = known.0 in omega arith) c.requires.in_range c.requires.may_declare same)
          (c.loop-at.invariant.left e lt inside same)
          (λ is.
          let P : ℕ → Type 0 = λ v. SameBlock l v d in
          let t : c.same.result ≡ true = c.same.ensures.1 (found ∙ subst P is same ∙ sym own) in
          let f : c.same.result ≡ false = c.if-same.false in cc);
      known = walk_known l (length xs) names (names d) d around c.loop-at.at _ _ k c.requires.linked.linked c.in-Some.is c.index.ensures
          c.loop-at.invariant.known;
    }

pub loop-at-smaller : goal.loop-at-smaller
loop-at-smaller c =
    let xs = c.args.identifiers.now in
    let l = layout_of xs in
    let names = numerals c.args.names.now in
    let d = c.args.d in
    walk_ends l (length xs) names (names d) d c.args.links.now.around.items c.loop-at.at _ _ c.in-Some.e c.requires.linked.linked c.in-Some.is c.index.ensures
    c.loop-at.invariant.known

pub returns-then-same : goal.returns-then-same
returns-then-same c =
    let l = layout_of c.args.identifiers.now in
    let known = c.loop-at.invariant.known c.in-Some.e c.in-Some.is in
    let own : c.block-own.result ≡ block_of (l.role c.args.d) = c.block-own.ensures ∙ ap block_of c.role_at.ensures in
    let found : c.block-found.result ≡ block_of (l.role c.in-Some.e) = c.block-found.ensures ∙ ap block_of c.role_at-in-Some.ensures in
    (known.0, known.1.leads, known.1.named, sym found ∙ c.same.ensures.0 c.if-same.true ∙ own)

pub returns : goal.returns
returns c = λ e lt leads named same.
    let l = layout_of c.args.identifiers.now in
    let B : Block → Type 0 = λ b. Nests b Package in
    let Q : Option ℕ → Type 0 = λ a. IsLeft a e in
    subst Q c.in_default.is (c.loop-at.invariant.left e lt (record { leads = leads; named = named; inner = subst B (sym same) c.requires.inner }) same)
