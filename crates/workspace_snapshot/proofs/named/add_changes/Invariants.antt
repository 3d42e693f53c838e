-- The paths of the changes that were passed were added.
use Rattle.std.proofs.Common.{take}
use Rattle.workspace_graph.specs.Borrows.{names}
use Rattle.workspace_snapshot.specs.Named.{AddsEachPath, IsPathOfChanges}
use Rattle.workspace_snapshot.proofs.named.add_changes.Given as goal

abbrev pub invariant-loop-change : goal.invariant-loop-change
invariant-loop-change l = AddsEachPath (IsPathOfChanges (take l.change-index l.changes)) (names l.initial.paths.items) (names l.paths.items)
