-- `changed` has the folders of the files that differ, among those that were passed.
use Rattle.std.proofs.Common.{take}
use Rattle.workspace_graph.specs.Borrows.{names}
use Rattle.build_carry.proofs.ChangedFiles.{AreNoted}
use Rattle.build_carry.proofs.change_marks.changed_among.Given as goal

abbrev pub invariant-loop-path : goal.invariant-loop-path
invariant-loop-path l = AreNoted l.before l.after (names (take l.path-index l.paths)) (names l.changed.items)
