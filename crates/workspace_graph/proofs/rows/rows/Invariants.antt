-- The rows of the packages that were passed.
use Rattle.std.proofs.Common.{take}
use Rattle.std.specs.List.{AllZip}
use Rattle.workspace_graph.specs.Graphs.{paths_of}
use Rattle.workspace_graph.specs.Rows.{IsRow}
use Rattle.workspace_graph.proofs.rows.rows.Given as goal

abbrev pub invariant-loop-package : goal.invariant-loop-package
invariant-loop-package l = AllZip (λ p row. IsRow (paths_of l.packages) p.trees.items row) (take l.package-index l.packages) l.rows
