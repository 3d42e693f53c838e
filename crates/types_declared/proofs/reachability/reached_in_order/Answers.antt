-- The answers to the goals of `reachability::reached_in_order`.
use Rattle.types_declared.specs.Reachability.{HasMark}
use Rattle.types_declared.proofs.ReachableParts.{order_of}
use Rattle.types_declared.proofs.reachability.reached_in_order.Goals as goal

pub returns : goal.returns
returns c =
    order_of c.args.links.now (HasMark c.args.begins.now) c.in_ok-spread.spread.found.items c.in_ok-spread.spread.marks.items c.in_ok-spread.ensures.listed
    c.in_ok-spread.ensures.ordered
    c.in_ok-spread.ensures.reached
