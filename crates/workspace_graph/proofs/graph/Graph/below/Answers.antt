-- What a package builds on, and what leads back to it, in the words of the workspace.
use Rattle.std.proofs.lemmas.Result.{IfOk-weaker}
use Rattle.workspace_graph.proofs.ByPath.{back_are, below_is}
use Rattle.workspace_graph.proofs.graph.Graph.below.Goals as goal

pub below-requires : goal.below-requires
below-requires c = rw c.links.ensures.links.size c.requires

pub returns-clause-built_on : goal.returns-clause-built_on
returns-clause-built_on c =
    IfOk-weaker c.below.result _ _
    (λ found is p at. below_is c.args.self.now c.links.result.now c.links.ensures.links c.args.number p found.built_on at is) c.below.ensures.built_on

pub returns-clause-rising : goal.returns-clause-rising
returns-clause-rising c = IfOk-weaker c.below.result _ _ (λ found is. is.rising) c.below.ensures.built_on

pub returns-clause-back : goal.returns-clause-back
returns-clause-back c =
    IfOk-weaker c.below.result _ _
    (λ found is p at. back_are c.args.self.now c.links.result.now c.links.ensures.links c.args.number p found.back.items at is) c.below.ensures.back
