-- The packages that were passed.
use Rattle.workspace_graph.specs.Borrows.{names}
use Rattle.build_carry.specs.Changes.{ListsDiffering}
use Rattle.build_carry.proofs.differing.differing.Given as goal

abbrev pub invariant-loop-number : goal.invariant-loop-number
invariant-loop-number l = ListsDiffering l.before l.after l.number (names l.folders.items)
