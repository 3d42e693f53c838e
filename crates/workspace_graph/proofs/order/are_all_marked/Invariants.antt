-- Those that were passed are marked.
use Rattle.std.proofs.Common.{ℕ, ◌<◌}
use Rattle.workspace_graph.specs.Search.{IsMarked}
use Rattle.workspace_graph.proofs.order.are_all_marked.Given as goal

abbrev pub invariant-loop-mark : goal.invariant-loop-mark
invariant-loop-mark l = (k : ℕ) → k < l.mark-index → IsMarked l.marks k
