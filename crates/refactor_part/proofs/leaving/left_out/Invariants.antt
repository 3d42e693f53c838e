-- What is left out of the packages that were passed.
use Rattle.workspace_check.specs.KnownFindings.{verdicts_by}
use Rattle.workspace_graph.specs.Borrows.{names}
use Rattle.refactor_part.specs.LeftOut.{AreFirstLeftOut}
use Rattle.refactor_part.proofs.leaving.left_out.Given as goal

abbrev pub invariant-loop-number : goal.invariant-loop-number
invariant-loop-number l = AreFirstLeftOut l.graph (verdicts_by l.table) l.number (names l.left.folders.items) (names l.left.paths.items)
