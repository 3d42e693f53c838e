-- The packages that were passed.
use Rattle.workspace_graph.specs.Borrows.{names}
use Rattle.build_carry.specs.Changes.{ListsComing}
use Rattle.build_carry.proofs.differing.differing_folders.Given as goal

abbrev pub invariant-loop-number : goal.invariant-loop-number
invariant-loop-number l = ListsComing l.before l.after l.number (names l.folders.items)
