-- The answers to the goals of `places::chain_place`.
use Rattle.std.proofs.Math.ListN.{drop_of_length-le}
use Rattle.std.proofs.Common.{◌+◌, ap, sym, ◌∙◌, drop}
use Rattle.types_expr.specs.Places.{place_of_links}
use Rattle.types_expr.specs.Lists.{links_in}
use Rattle.types_expr.proofs.Items.{next_item}
use Rattle.types_expr.proofs.Trees.{place_step}
use Rattle.types_expr.proofs.places.chain_place.Goals as goal

pub loop-link-preserved : goal.loop-link-preserved
unfolding links_in
loop-link-preserved c = ap (λ p. place_of_links c.args.start p (links_in (drop (c.loop-link.link-index + 1) c.args.links.now))) c.place_after_link-place.ensures
    ∙ (sym (place_step c.args.start c.loop-link.place c.link-item.result (links_in (drop (c.loop-link.link-index + 1) c.args.links.now)))
    ∙ (ap (λ xs. place_of_links c.args.start c.loop-link.place (links_in xs)) (sym (next_item _ _ _ c.loop-link-test.true c.link-item.is)) ∙
    c.loop-link.invariant))

pub returns : goal.returns
unfolding place_of_links links_in
returns c = ap (λ xs. place_of_links c.args.start c.loop-link.place (links_in xs)) (sym (drop_of_length-le _ c.loop-link-test.false)) ∙ c.loop-link.invariant
