-- The marks are of all packages; each step leaves fewer.
use Rattle.std.proofs.Common.{◌≡◌, length}
use Rattle.workspace_graph.specs.Orders.{steps_left}
use Rattle.workspace_graph.proofs.depth_first.DepthFirst.walk.Given as goal

abbrev pub invariant-loop-top : goal.invariant-loop-top
invariant-loop-top l = length l.self.marks.items ≡ length l.links

abbrev pub decreases-loop-top : goal.decreases-loop-top
decreases-loop-top l = steps_left l.self.marks.items l.self.path.items
