-- What a package builds on, in the words of the workspace.
use Rattle.std.specs.List.Sorted.{IsStrictlyIncreasing}
use Rattle.std.proofs.lemmas.Result.{IfOk-weaker}
use Rattle.workspace_graph.specs.Graphs.{ListsPackages, OfPackage}
use Rattle.workspace_graph.specs.Closures.{IsBuiltOnList}
use Rattle.workspace_graph.specs.Reaching.{BuildsOn}
use Rattle.workspace_graph.proofs.ByPath.{below_is}
use Rattle.workspace_graph.proofs.graph.Graph.built_on.Goals as goal

pub built_on-requires : goal.built_on-requires
built_on-requires c = rw c.links.ensures.links.size c.requires

pub returns-clause-below : goal.returns-clause-below
returns-clause-below c =
    let w = c.args.self.now in
    let g = c.links.result.now in
    let number = c.args.number in
    IfOk-weaker c.built_on.result (IsBuiltOnList g number) (λ below. OfPackage w number (λ p. ListsPackages w (BuildsOn w p) below))
    (λ below is p at. below_is w g c.links.ensures.links number p below at is) c.built_on.ensures

pub returns-clause-rising : goal.returns-clause-rising
returns-clause-rising c =
    IfOk-weaker c.built_on.result (IsBuiltOnList c.links.result.now c.args.number) IsStrictlyIncreasing (λ below is. is.rising) c.built_on.ensures
