-- The marks are of all packages.
use Rattle.std.proofs.Common.{◌≡◌, length}
use Rattle.workspace_graph.proofs.depth_first.last_left_first.Given as goal

abbrev pub invariant-loop-start : goal.invariant-loop-start
invariant-loop-start l = length l.walk.marks.items ≡ length l.links
