-- The answers to the goals of `order::numbers`.
use Rattle.workspace_graph.proofs.OrderedPackages.{ListsBelow-yes}
use Rattle.workspace_check.proofs.order.numbers.Goals as goal

pub loop-number-preserved : goal.loop-number-preserved
loop-number-preserved c = rw c.in_ok-push.ensures.items
    (ListsBelow-yes (λ n. Unit {0}) c.loop-number.numbers.items c.loop-number.number c.loop-number.invariant tt)
