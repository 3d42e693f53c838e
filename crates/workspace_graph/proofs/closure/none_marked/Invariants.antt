-- No package that was passed is marked.
use Rattle.std.proofs.Common.{ℕ, ◌<◌, get_or}
use Rattle.workspace_graph.specs.Search.{IsMarked}
use Rattle.workspace_graph.proofs.closure.none_marked.Given as goal

abbrev pub invariant-loop-number : goal.invariant-loop-number
invariant-loop-number l = (k : ℕ) → k < l.number-index → IsMarked l.marks (get_or l.numbers k 0) → ⊥
