-- The answers to the goals of `link_cycles::led_to`.
use Rattle.std.proofs.Common.{rules, ℕ, ◌<◌, length, get_or, arith, refl, subst}
use Rattle.std.specs.Prelude.{Contains, ◌↔◌}
use Rattle.std.proofs.lemmas.List.Elements.{Contains-get_or}
use Rattle.types_declared.specs.Reachability.{HasMark, LinksTo}
use Rattle.types_members.proofs.Marking.{passed_none, passed_mark, passed_row}
use Rattle.types_members.proofs.link_cycles.led_to.Goals as goal

pub loop-to-init : goal.loop-to-init
loop-to-init c =
    passed_none c.row-to-items.result.now (length c.args.links.now) (length c.args.links.now) c.in_ok-marks.marks.items refl
    (c.in_ok-marks.ensures.items_if_clones_equal (search rules))

pub index_mut-requires : goal.index_mut-requires
index_mut-requires c =
    let row = c.row-to-items.result.now in
    let q : ℕ = get_or row c.loop-to.to-index 0 in
    let held : Contains row q = Contains-get_or row c.loop-to.to-index 0 c.loop-to-test.true in
    let leads : LinksTo c.args.links.now c.args.from q = subst (λ xs. Contains xs q) c.row-to-items.ensures held in
    let below : q < length c.args.links.now = c.requires c.args.from q leads in
    omega (arith, c.loop-to.invariant.all)

pub loop-to-preserved : goal.loop-to-preserved
loop-to-preserved c =
    let row = c.row-to-items.result.now in
    let q : ℕ = get_or row c.loop-to.to-index 0 in
    let held : Contains row q = Contains-get_or row c.loop-to.to-index 0 c.loop-to-test.true in
    let leads : LinksTo c.args.links.now c.args.from q = subst (λ xs. Contains xs q) c.row-to-items.ensures held in
    let below : q < length c.args.links.now = c.requires c.args.from q leads in
    passed_mark row c.loop-to.to-index q (length c.args.links.now) c.loop-to.marks.items refl (omega (arith, c.loop-to.invariant.all)) c.loop-to.invariant

pub returns-clause-marked : goal.returns-clause-marked
returns-clause-marked c = λ q.
    subst (λ xs. HasMark c.loop-to.marks.items q ↔ Contains xs q) c.row-to-items.ensures
    (passed_row c.row-to-items.result.now c.loop-to.to-index (length c.args.links.now) c.loop-to.marks.items (omega arith) c.loop-to.invariant q)
