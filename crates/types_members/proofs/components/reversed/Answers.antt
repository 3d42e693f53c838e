-- The answers to the goals of `components::reversed`.
use Rattle.std.proofs.Common.{ℕ, ◌<◌, length, get_or, arith, subst}
use Rattle.std.specs.Prelude.{Contains}
use Rattle.std.proofs.lemmas.List.Elements.{Contains-get_or}
use Rattle.types_declared.specs.Reachability.{LinksTo}
use Rattle.types_members.proofs.Reaching.{turned_none, turned_next}
use Rattle.types_members.proofs.components.reversed.Goals as goal

pub loop-from-init : goal.loop-from-init
loop-from-init c = turned_none c.args.links.now c.in_ok-back.back.items (omega (arith, c.in_ok-back.ensures.size)) c.in_ok-back.ensures.none

pub note-requires : goal.note-requires
note-requires c =
    let row = c.row-to-items.result.now in
    let q : ℕ = get_or row c.loop-to.to-index 0 in
    let held : Contains row q = Contains-get_or row c.loop-to.to-index 0 c.loop-to-test.true in
    let leads : LinksTo c.args.links.now c.loop-from.from q = subst (λ xs. Contains xs q) c.row-to-items.ensures held in
    let below : q < length c.args.links.now = c.requires c.loop-from.from q leads in
    omega (arith, c.loop-to.invariant.size)

pub loop-to-preserved : goal.loop-to-preserved
loop-to-preserved c =
    let row = c.row-to-items.result.now in
    let q : ℕ = get_or row c.loop-to.to-index 0 in
    let held : Contains row q = Contains-get_or row c.loop-to.to-index 0 c.loop-to-test.true in
    let leads : LinksTo c.args.links.now c.loop-from.from q = subst (λ xs. Contains xs q) c.row-to-items.ensures held in
    turned_next c.args.links.now c.loop-to.back.items c.note.new.links.items c.loop-from.from q leads c.in_ok-note.ensures c.loop-to.invariant
