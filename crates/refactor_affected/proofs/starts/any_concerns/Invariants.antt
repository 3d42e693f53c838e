-- No path that was passed concerns the move.
use Rattle.workspace_graph.specs.ImportPaths.{bytes_of_paths}
use Rattle.refactor_affected.specs.Starts.{ConcernsMove}
use Rattle.refactor_affected.proofs.Starting.{LeavesEach}
use Rattle.refactor_affected.proofs.starts.any_concerns.Given as goal

abbrev pub invariant-loop-path : goal.invariant-loop-path
invariant-loop-path l =
    LeavesEach (ConcernsMove l.graph l.moved.from.now l.moved.to.now) (bytes_of_paths l.paths.keys) (bytes_of_paths l.path-iterator)
