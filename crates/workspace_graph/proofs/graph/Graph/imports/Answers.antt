-- The row of a package, in the words of the workspace.
use Rattle.std.proofs.Common.{arith}
use Rattle.workspace_graph.proofs.ByPath.{imports_are}
use Rattle.workspace_graph.proofs.graph.Graph.imports.Goals as goal

pub returns-clause-imports : goal.returns-clause-imports
returns-clause-imports c =
    λ p at. rw c.imports.ensures (imports_are c.args.self.now c.links.result.now c.links.ensures.links c.args.number p at)

pub returns-clause-rising : goal.returns-clause-rising
returns-clause-rising c = rw c.imports.ensures (c.links.ensures.rising c.args.number (omega (arith, c.requires, c.links.ensures.links.size)))
