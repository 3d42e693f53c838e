-- The packages that were passed and import the path.
use Rattle.workspace_graph.specs.Growth.{ImportsAt}
use Rattle.workspace_graph.specs.Imports.{ListsBelow}
use Rattle.workspace_graph.proofs.grown.importing.Given as goal

abbrev pub invariant-loop-number : goal.invariant-loop-number
invariant-loop-number l = ListsBelow (ImportsAt l.grown.packages.now l.path) l.number l.list.items
