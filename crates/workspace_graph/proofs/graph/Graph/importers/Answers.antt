-- The importers of a package, in the words of the workspace.
use Rattle.workspace_graph.proofs.ByPath.{importers_are}
use Rattle.workspace_graph.proofs.KeptImporters.{all_rising}
use Rattle.workspace_graph.proofs.graph.Graph.importers.Goals as goal

pub returns-clause-importers : goal.returns-clause-importers
returns-clause-importers c =
    λ p at. importers_are c.args.self.now c.links.result.now c.links.ensures.links c.args.number p c.importers.result.now at c.importers.ensures.importers

pub returns-clause-rising : goal.returns-clause-rising
returns-clause-rising c = c.importers.ensures.rising (all_rising c.links.result.now c.links.ensures.rising)
