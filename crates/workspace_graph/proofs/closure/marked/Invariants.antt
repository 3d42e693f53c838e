-- The marked packages below the number that comes next.
use Rattle.workspace_graph.specs.Search.{ListsMarked}
use Rattle.workspace_graph.proofs.closure.marked.Given as goal

abbrev pub invariant-loop-number : goal.invariant-loop-number
invariant-loop-number l = ListsMarked l.marks l.number l.list.items
