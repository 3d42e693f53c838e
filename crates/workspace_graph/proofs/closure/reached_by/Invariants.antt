-- What the marked ones of the packages that were passed reach is marked.
use Rattle.workspace_graph.specs.Search.{AreReached}
use Rattle.workspace_graph.proofs.closure.reached_by.Given as goal

abbrev pub invariant-loop-start : goal.invariant-loop-start
invariant-loop-start l = AreReached l.links l.starts l.start l.marks.items
