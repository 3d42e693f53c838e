-- Those that were passed, without that one.
use Rattle.workspace_graph.proofs.BelowAlone.{IsWithout}
use Rattle.workspace_graph.proofs.closure.without.Given as goal

abbrev pub invariant-loop-number : goal.invariant-loop-number
invariant-loop-number l = IsWithout l.numbers l.one l.number-index l.rest.items
