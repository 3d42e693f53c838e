-- The answers to the goals of `order::order_by_sizes`.
use Rattle.std.proofs.Common.{get_or, rules}
use Rattle.std.proofs.lemmas.List.Sorted.{IsNonDecreasingBy-from_sort_by_key}
use Rattle.workspace_check.proofs.Sizes.{order_is}
use Rattle.workspace_check.proofs.order.order_by_sizes.Goals as goal

pub returns : goal.returns
returns c =
    let sizes = c.in_ok-sizes.sizes.items in
    let sorted = IsNonDecreasingBy-from_sort_by_key (λ n. get_or sizes n 0) _ c.in_ok-sort_by_key.ensures.sorted (λ a r q k. search rules) in
    order_is c.args.graph.now c.len.result sizes c.in_ok-order.order.items _ c.len.ensures c.in_ok-sizes.ensures c.in_ok-order.ensures
    c.in_ok-sort_by_key.ensures.permutation sorted
