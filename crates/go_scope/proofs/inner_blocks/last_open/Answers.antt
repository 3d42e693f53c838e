-- The answers to the goals of `inner_blocks::last_open`.
use Rattle.std.proofs.Common.{ℕ, ◌≡◌, ◌<◌, arith, length, subst, true, false, Option}
use Rattle.go_scope.specs.Numbering.{numerals}
use Rattle.go_scope.specs.OpenBlocks.{IsLastOpen}
use Rattle.go_scope.specs.Table.{layout_of}
use Rattle.go_scope.proofs.Following.{over_from}
use Rattle.go_scope.proofs.Linking.{last_within, last_opened}
use Rattle.go_scope.proofs.Walking.{last_known, drop_over, walk_ends}
use Rattle.go_scope.proofs.inner_blocks.last_open.Goals as goal

pub index-at-requires : goal.index-at-requires
index-at-requires c =
    let within : c.number_at.result < length c.args.links.now.last.items =
    last_within c.args.identifiers.now c.args.names.now c.args.u c.args.links.now c.requires.linked c.requires.numbered c.requires.in_range c.number_at.result
    c.number_at.ensures in
    omega arith

pub loop-at-init : goal.loop-at-init
loop-at-init c =
    last_opened c.args.identifiers.now c.args.names.now c.args.u c.args.links.now c.requires.linked c.requires.numbered c.requires.in_range c.number_at.result
    c.number_at.ensures c.index-at.result.now _ c.index-at.ensures

pub lasts-requires-clause-first : goal.lasts-requires-clause-first
lasts-requires-clause-first c =
    let xs = c.args.identifiers.now in
    let names = numerals c.args.names.now in
    let less : c.in-Some.d < c.args.u = (last_known (layout_of xs) (length xs) names (names c.args.u) c.args.u c.loop-at.at c.loop-at.invariant c.in-Some.d
    c.in-Some.is).0 in
    let within : c.args.u < length xs = c.requires.in_range in
    omega arith

pub index-at-requires-in-Some : goal.index-at-requires-in-Some
index-at-requires-in-Some c =
    let xs = c.args.identifiers.now in
    let names = numerals c.args.names.now in
    let less : c.in-Some.d < c.args.u = (last_known (layout_of xs) (length xs) names (names c.args.u) c.args.u c.loop-at.at c.loop-at.invariant c.in-Some.d
    c.in-Some.is).0 in
    let sized : length c.args.links.now.around.items ≡ c.args.u = c.requires.linked.linked.sized in
    omega arith

pub loop-at-preserved : goal.loop-at-preserved
loop-at-preserved c =
    let xs = c.args.identifiers.now in
    let l = layout_of xs in
    let names = numerals c.args.names.now in
    let u = c.args.u in
    let d = c.in-Some.d in
    let known = last_known l (length xs) names (names u) u c.loop-at.at c.loop-at.invariant d c.in-Some.is in
    drop_over l (length xs) names (names u) u c.args.links.now.around.items c.loop-at.at _ _ d c.requires.linked.linked c.in-Some.is c.index-at-in-Some.ensures
    (over_from l (length xs) c.requires.laid_out d u known.1.leads.declares.may known.0 c.requires.in_range
    (λ end.
    let t : c.lasts.result ≡ true = c.lasts.ensures.1 end in
    let f : c.lasts.result ≡ false = c.if-lasts.false in
    cc))
    c.loop-at.invariant

pub loop-at-smaller : goal.loop-at-smaller
loop-at-smaller c =
    let xs = c.args.identifiers.now in
    let l = layout_of xs in
    let names = numerals c.args.names.now in
    let u = c.args.u in
    walk_ends l (length xs) names (names u) u c.args.links.now.around.items c.loop-at.at _ _ c.in-Some.d c.requires.linked.linked c.in-Some.is
    c.index-at-in-Some.ensures
    (last_known l (length xs) names (names u) u c.loop-at.at c.loop-at.invariant)

pub returns-then-lasts : goal.returns-then-lasts
returns-then-lasts c =
    let xs = c.args.identifiers.now in
    let names = numerals c.args.names.now in
    let P : Option ℕ → Type 0 = λ a. IsLastOpen (layout_of xs) (length xs) names (names c.args.u) c.args.u a in
    subst P c.in-Some.is c.loop-at.invariant

pub returns : goal.returns
returns c =
    let xs = c.args.identifiers.now in
    let names = numerals c.args.names.now in
    let P : Option ℕ → Type 0 = λ a. IsLastOpen (layout_of xs) (length xs) names (names c.args.u) c.args.u a in
    subst P c.in_default.is c.loop-at.invariant
