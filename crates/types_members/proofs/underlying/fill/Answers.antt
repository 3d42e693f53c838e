-- The answers to the goals of `underlying::fill`.
use Rattle.std.proofs.Common.{ℕ, ◌<◌, length, get_or, ap, refl, ◌∙◌, arith}
use Rattle.std.specs.Prelude.{slice_get}
use Rattle.std.proofs.lemmas.Option.{slice_get_within}
use Rattle.types_declared.specs.PackageView.{package_of}
use Rattle.types_members.specs.Steps.{reached_type_at}
use Rattle.types_members.proofs.Filling.{none_filled, next_filled, all_filled}
use Rattle.types_members.proofs.underlying.fill.Goals as goal

pub loop-rank-init : goal.loop-rank-init
loop-rank-init c =
    none_filled (package_of c.args.pkg) c.args.order.now c.in_ok-found.found.items (omega (arith, c.in_ok-found.ensures.size, c.requires.steps.all))
    c.in_ok-found.ensures.none

pub index_mut-requires : goal.index_mut-requires
index_mut-requires c =
    let order = c.args.order.now in
    let i : ℕ = c.loop-rank.rank-index in
    let at = c.requires.order.each i c.loop-rank-test.true in
    let lt : get_or order i 0 < length c.args.steps.now = slice_get_within c.args.steps.now (get_or order i 0) at.0 at.1.0 in
    omega (arith, c.loop-rank.invariant.size, c.requires.steps.all)

pub loop-rank-preserved : goal.loop-rank-preserved
loop-rank-preserved c =
    let steps = c.args.steps.now in
    let order = c.args.order.now in
    let found = c.loop-rank.found.items in
    let i : ℕ = c.loop-rank.rank-index in
    let rank : ℕ = get_or order i 0 in
    let at = c.requires.order.each i c.loop-rank-test.true in
    next_filled (package_of c.args.pkg) steps order i rank at.0 found c.in_ok-own.own c.requires.steps c.requires.order c.loop-rank-test.true refl at.1.0
    (c.in_ok-own.ensures ∙ (ap (reached_type_at (slice_get steps rank)) c.deref.ensures.value ∙ ap (λ o. reached_type_at o found) at.1.0)) c.loop-rank.invariant

pub returns : goal.returns
returns c =
    all_filled (package_of c.args.pkg) c.is_well_formed.ensures c.args.steps.now c.args.order.now c.loop-rank.rank-index c.loop-rank.found.items
    c.requires.steps c.requires.order (omega arith) c.loop-rank.invariant
