-- The packages among the folders that were passed are marked.
use Rattle.std.proofs.Common.{take}
use Rattle.workspace_graph.specs.Borrows.{names}
use Rattle.build_carry.specs.Changes.{MarkFolders}
use Rattle.build_carry.proofs.folders.folder_marks.Given as goal

abbrev pub invariant-loop-folder : goal.invariant-loop-folder
invariant-loop-folder l = MarkFolders l.graph (names (take l.folder-index l.folders)) l.marks.items
