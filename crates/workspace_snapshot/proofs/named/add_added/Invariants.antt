-- The paths of the files that were passed were added.
use Rattle.std.proofs.Common.{take}
use Rattle.workspace_graph.specs.Borrows.{names}
use Rattle.workspace_snapshot.specs.Named.{AddsEachPath, IsPathOfAdded}
use Rattle.workspace_snapshot.proofs.named.add_added.Given as goal

abbrev pub invariant-loop-file : goal.invariant-loop-file
invariant-loop-file l = AddsEachPath (IsPathOfAdded (take l.file-index l.added)) (names l.initial.paths.items) (names l.paths.items)
