-- The answers to the goals of `order::order`.
use Rattle.std.proofs.Common.{subst}
use Rattle.std.specs.Prelude.{IfSome}
use Rattle.workspace_graph.specs.Orders.{IsOrder}
use Rattle.workspace_check.proofs.Sizes.{build_order}
use Rattle.workspace_check.proofs.order.order.Goals as goal

pub returns-in-Some : goal.returns-in-Some
returns-in-Some c =
    let g = c.links.result.now in
    build_order c.args.graph.now g c.links.ensures.links c.in-Some.order.items
    (subst (λ found. IfSome found (λ order. IsOrder g order.items)) c.in-Some.is c.in_ok-found.ensures)
