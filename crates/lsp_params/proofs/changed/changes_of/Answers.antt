-- The answers to the goals of `changed::changes_of`.
use Rattle.std.proofs.Common.{◌+◌, drop, subst, sym}
use Rattle.serde_json.specs.View.{items_view}
use Rattle.lsp_params.specs.Changed.{change_view, changes_view}
use Rattle.lsp_params.proofs.Listing.{GoesOn, goes_on_first, none_there, one_more, views_next}
use Rattle.lsp_params.proofs.changed.changes_of.Goals as goal

pub loop-item-init : goal.loop-item-init
loop-item-init c =
    let whole = items_view c.args.items.now in
    subst (λ l. GoesOn whole whole (changes_view l)) (sym c.new-changes.ensures.items) (goes_on_first whole)

pub loop-item-preserved : goal.loop-item-preserved
loop-item-preserved c =
    let left = items_view (drop (c.loop-item.item-index + 1) c.args.items.now) in
    subst (GoesOn (items_view c.args.items.now) left)
    (sym (views_next c.loop-item.changes.items c.push.new.self.items c.in-Some.change c.in_ok-push-in-Some.ensures.items))
    (one_more (items_view c.args.items.now) c.args.items.now c.loop-item.item-index c.item-item.result (changes_view c.loop-item.changes.items)
    c.loop-item.invariant c.loop-item-test.true c.item-item.is (change_view c.in-Some.change) c.in-Some.ensures)

pub returns-in-None : goal.returns-in-None
returns-in-None c =
    none_there (items_view c.args.items.now) c.args.items.now c.loop-item.item-index c.item-item.result (changes_view c.loop-item.changes.items)
    c.loop-item.invariant c.loop-item-test.true c.item-item.is c.in-None.ensures
