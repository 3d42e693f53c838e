-- The folders of the paths that were passed are there.
use Rattle.std.proofs.Common.{take}
use Rattle.workspace_graph.specs.Borrows.{names}
use Rattle.workspace_graph.specs.ChangedFiles.{HaveFolders}
use Rattle.workspace_graph.proofs.folders.folders_of.Given as goal

abbrev pub invariant-loop-path : goal.invariant-loop-path
invariant-loop-path l = HaveFolders (names (take l.path-index l.paths)) (names l.folders.keys)
