-- The packages of the paths that were passed were added.
use Rattle.workspace_graph.specs.Graphs.{paths_of}
use Rattle.workspace_graph.specs.ImportPaths.{bytes_of_paths}
use Rattle.workspace_graph.proofs.Collected.{AreLeft}
use Rattle.workspace_graph.proofs.rows.fill_numbers.Given as goal

abbrev pub invariant-loop-path : goal.invariant-loop-path
invariant-loop-path l = AreLeft (paths_of l.packages) (bytes_of_paths l.paths.keys) (bytes_of_paths l.path-iterator) l.row.items
