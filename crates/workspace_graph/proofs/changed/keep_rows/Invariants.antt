-- The packages that were passed keep their rows.
use Rattle.std.proofs.Common.{take}
use Rattle.std.specs.List.{All}
use Rattle.workspace_graph.specs.Changed.{HasRow}
use Rattle.workspace_graph.specs.Graphs.{paths_of}
use Rattle.workspace_graph.proofs.changed.keep_rows.Given as goal

abbrev pub invariant-loop-package : goal.invariant-loop-package
invariant-loop-package l = All (HasRow (paths_of l.packages) l.links) (take l.package-index l.fresh)
