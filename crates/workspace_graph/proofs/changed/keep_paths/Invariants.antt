-- The packages that were passed keep their paths.
use Rattle.std.proofs.Common.{take}
use Rattle.std.specs.List.{All}
use Rattle.workspace_graph.specs.Changed.{KeepsPath}
use Rattle.workspace_graph.specs.Graphs.{paths_of}
use Rattle.workspace_graph.proofs.changed.keep_paths.Given as goal

abbrev pub invariant-loop-package : goal.invariant-loop-package
invariant-loop-package l = All (KeepsPath (paths_of l.before)) (take l.package-index l.fresh)
