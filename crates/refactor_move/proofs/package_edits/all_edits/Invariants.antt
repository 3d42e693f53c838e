-- What the loop of `package_edits::all_edits` keeps: the edits of the packages that were passed are known.
use Rattle.refs_binding.specs.Workspaces.{known_in}
use Rattle.refactor_move.specs.Steps.{KnowsEdits}
use Rattle.refactor_move.proofs.package_edits.all_edits.Given as goal

abbrev pub invariant-loop-number : goal.invariant-loop-number
invariant-loop-number l = KnowsEdits l.workspace.graph (known_in l.workspace.findings) l.of.moved.now l.number l.edits
