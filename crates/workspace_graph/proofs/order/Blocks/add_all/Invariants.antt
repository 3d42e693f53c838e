-- The packages listed so far.
use Rattle.workspace_graph.specs.Orders.{AreListed}
use Rattle.workspace_graph.proofs.order.Blocks.add_all.Given as goal

abbrev pub invariant-loop-root : goal.invariant-loop-root
invariant-loop-root l = AreListed l.imports l.self
