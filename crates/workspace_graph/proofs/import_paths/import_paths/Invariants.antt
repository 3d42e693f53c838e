-- The paths that the files that were passed import.
use Rattle.std.proofs.Common.{take}
use Rattle.workspace_graph.specs.ImportPaths.{ListsPaths, AnyImports}
use Rattle.workspace_graph.proofs.import_paths.import_paths.Given as goal

abbrev pub invariant-loop-file : goal.invariant-loop-file
invariant-loop-file l = ListsPaths (AnyImports (take l.file-index l.files)) l.paths.keys
