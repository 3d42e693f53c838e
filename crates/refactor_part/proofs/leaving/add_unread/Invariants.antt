-- The paths of the files that were passed were added.
use Rattle.std.proofs.Common.{◌≡◌, ◌++◌, map, take}
use Rattle.workspace_graph.specs.Borrows.{names}
use Rattle.refactor_part.specs.LeftOut.{path_of_unread}
use Rattle.refactor_part.proofs.leaving.add_unread.Given as goal

abbrev pub invariant-loop-file : goal.invariant-loop-file
invariant-loop-file l = names l.paths.items ≡ names l.initial.paths.items ++ map path_of_unread (take l.file-index l.files)
