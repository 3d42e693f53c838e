-- The paths of the imports that were passed are still imported.
use Rattle.std.proofs.Common.{take}
use Rattle.workspace_graph.specs.Drafts.{Survive}
use Rattle.workspace_graph.specs.ImportPaths.{AnyIsOfPath}
use Rattle.workspace_graph.proofs.renewed_imports.are_kept.Given as goal

abbrev pub invariant-loop-import : goal.invariant-loop-import
invariant-loop-import l = Survive (AnyIsOfPath (take l.import-index l.gone)) l.come l.files
