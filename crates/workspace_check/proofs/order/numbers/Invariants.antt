-- The invariants of the loops of `order::numbers`.
use Rattle.workspace_graph.specs.Imports.{ListsBelow}
use Rattle.workspace_check.proofs.order.numbers.Given as goal

abbrev pub invariant-loop-number : goal.invariant-loop-number
invariant-loop-number l = ListsBelow (λ n. Unit {0}) l.number l.numbers.items
