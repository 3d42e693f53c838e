-- What is at the paths that were passed is set.
use Rattle.std.proofs.Common.{take}
use Rattle.workspace_graph.specs.Drafts.{SetsFiles}
use Rattle.workspace_graph.specs.Borrows.{names}
use Rattle.workspace_graph.proofs.drafts.set_all.Given as goal

abbrev pub invariant-loop-path : goal.invariant-loop-path
invariant-loop-path l = SetsFiles l.known.files.now (names (take l.path-index l.paths)) l.initial.drafts.items l.drafts.items
