-- The files at the paths that were passed are left out.
use Rattle.std.proofs.Common.{take}
use Rattle.workspace_graph.specs.Borrows.{names}
use Rattle.refactor_part.specs.LeftOut.{LeavesOut}
use Rattle.refactor_part.proofs.part.without.Given as goal

abbrev pub invariant-loop-path : goal.invariant-loop-path
invariant-loop-path l = LeavesOut (names (take l.path-index l.paths)) l.files l.left
