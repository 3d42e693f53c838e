-- The paths of the imports that were passed are among the others.
use Rattle.std.proofs.Common.{ℕ, List, take}
use Rattle.std.specs.List.{Contains}
use Rattle.workspace_graph.specs.ImportPaths.{AnyIsOfPath, bytes_of_paths}
use Rattle.workspace_graph.proofs.renewed_imports.are_among.Given as goal

abbrev pub invariant-loop-import : goal.invariant-loop-import
invariant-loop-import l = (q : List ℕ) → AnyIsOfPath (take l.import-index l.come) q → Contains (bytes_of_paths l.paths.keys) q
