-- The answers to the goals of `inner_blocks::nearest_inside`.
use Rattle.std.proofs.Common.{ℕ, ◌≡◌, ◌<◌, arith, length, subst, true, false, Option}
use Rattle.go_scope.specs.Bindings.{InScope}
use Rattle.go_scope.specs.Numbering.{numerals}
use Rattle.go_scope.specs.Table.{layout_of}
use Rattle.go_scope.proofs.Binding.{last_nearest}
use Rattle.go_scope.proofs.Following.{over_unseen, seen_behind}
use Rattle.go_scope.proofs.Linking.{last_within, last_opened}
use Rattle.go_scope.proofs.Tables.{may_in_range}
use Rattle.go_scope.proofs.Walking.{IsLeft, last_known, last_left, walk_left, walk_known, walk_ends}
use Rattle.go_scope.proofs.inner_blocks.nearest_inside.Goals as goal

pub index-at-requires : goal.index-at-requires
index-at-requires c =
    let within : c.number_at.result < length c.args.links.now.last.items =
    last_within c.args.identifiers.now c.args.names.now c.args.u c.args.links.now c.requires.linked c.requires.numbered c.requires.in_range c.number_at.result
    c.number_at.ensures in
    omega arith

pub loop-at-init : goal.loop-at-init
loop-at-init c =
    let xs = c.args.identifiers.now in
    let l = layout_of xs in
    let names = numerals c.args.names.now in
    let u = c.args.u in
    let opened = last_opened xs c.args.names.now u c.args.links.now c.requires.linked c.requires.numbered c.requires.in_range c.number_at.result
    c.number_at.ensures c.index-at.result.now _ c.index-at.ensures in
    record {
      left = λ e lt k seen. last_left l (length xs) names (names u) u _ opened e lt k (over_unseen l (length xs) u e u (omega arith) c.requires.in_range seen);
      known = last_known l (length xs) names (names u) u _ opened;
    }

pub in_scope-requires-clause-first : goal.in_scope-requires-clause-first
in_scope-requires-clause-first c =
    let less : c.in-Some.d < c.args.u = (c.loop-at.invariant.known c.in-Some.d c.in-Some.is).0 in
    let within : c.args.u < length c.args.identifiers.now = c.requires.in_range in
    omega arith

pub index-at-requires-in-Some : goal.index-at-requires-in-Some
index-at-requires-in-Some c =
    let less : c.in-Some.d < c.args.u = (c.loop-at.invariant.known c.in-Some.d c.in-Some.is).0 in
    let sized : length c.args.links.now.around.items ≡ c.args.u = c.requires.linked.linked.sized in
    omega arith

pub loop-at-preserved : goal.loop-at-preserved
loop-at-preserved c =
    let xs = c.args.identifiers.now in
    let l = layout_of xs in
    let names = numerals c.args.names.now in
    let u = c.args.u in
    let d = c.in-Some.d in
    let known = c.loop-at.invariant.known d c.in-Some.is in
    let around = c.args.links.now.around.items in
    record {
      left = λ e lt inside seen. walk_left l (length xs) names (names u) u around c.loop-at.at _ _ d c.requires.linked.linked c.in-Some.is
          c.index-at-in-Some.ensures
          c.loop-at.invariant.known e inside
          (over_unseen l (length xs) d e u (let less : d < u = known.0 in omega arith) c.requires.in_range seen)
          (c.loop-at.invariant.left e lt inside seen)
          (λ is.
          let P : ℕ → Type 0 = λ v. InScope l v u in
          let t : c.in_scope.result ≡ true = c.in_scope.ensures.1 (subst P is seen) in
          let f : c.in_scope.result ≡ false = c.if-in_scope.false in cc);
      known = walk_known l (length xs) names (names u) u around c.loop-at.at _ _ d c.requires.linked.linked c.in-Some.is c.index-at-in-Some.ensures
          c.loop-at.invariant.known;
    }

pub loop-at-smaller : goal.loop-at-smaller
loop-at-smaller c =
    let xs = c.args.identifiers.now in
    let l = layout_of xs in
    let names = numerals c.args.names.now in
    let u = c.args.u in
    walk_ends l (length xs) names (names u) u c.args.links.now.around.items c.loop-at.at _ _ c.in-Some.d c.requires.linked.linked c.in-Some.is
    c.index-at-in-Some.ensures
    c.loop-at.invariant.known

pub returns-then-in_scope : goal.returns-then-in_scope
returns-then-in_scope c =
    let xs = c.args.identifiers.now in
    let l = layout_of xs in
    let names = numerals c.args.names.now in
    let u = c.args.u in
    let d = c.in-Some.d in
    let known = c.loop-at.invariant.known d c.in-Some.is in
    last_nearest l (length xs) c.requires.laid_out names (names u) u d (may_in_range xs) known.1 (c.in_scope.ensures.0 c.if-in_scope.true)
    (λ e lt inside seen. let Q : Option ℕ → Type 0 = λ a. IsLeft a e in subst Q c.in-Some.is (c.loop-at.invariant.left e lt inside seen))

pub returns : goal.returns
returns c = λ e s.
    let xs = c.args.identifiers.now in
    let may = s.0.leads.declares.may in
    let less : e < c.args.u = seen_behind (layout_of xs) (length xs) c.requires.laid_out e c.args.u may (may_in_range xs e may) s.1 s.0.inner in
    let Q : Option ℕ → Type 0 = λ a. IsLeft a e in
    subst Q c.in_default.is (c.loop-at.invariant.left e less s.0 s.1)
