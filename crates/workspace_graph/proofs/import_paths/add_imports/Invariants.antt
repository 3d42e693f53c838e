-- The invariants of the loops of `import_paths::add_imports`.
use Rattle.std.proofs.Common.{take}
use Rattle.workspace_graph.specs.ImportPaths.{AddsPaths, AnyIsOfPath}
use Rattle.workspace_graph.proofs.import_paths.add_imports.Given as goal

abbrev pub invariant-loop-import : goal.invariant-loop-import
invariant-loop-import l = AddsPaths (AnyIsOfPath (take l.import-index l.imports)) l.initial.paths.keys l.paths.keys
