-- The closure of a package, in the words of the workspace.
use Rattle.std.proofs.lemmas.Result.{IfOk-weaker}
use Rattle.workspace_graph.specs.Graphs.{ListsPackages, OfPackage}
use Rattle.workspace_graph.specs.Imports.{IsClosure}
use Rattle.workspace_graph.specs.Packages.{IsInClosure}
use Rattle.workspace_graph.proofs.ByPath.{closure_is}
use Rattle.workspace_graph.proofs.graph.Graph.closure.Goals as goal

pub closure-requires : goal.closure-requires
closure-requires c = rw c.links.ensures.links.size c.requires

pub returns-clause-closure : goal.returns-clause-closure
returns-clause-closure c =
    let w = c.args.self.now in
    let g = c.links.result.now in
    let number = c.args.number in
    IfOk-weaker c.closure.result (IsClosure g number) (λ closure. OfPackage w number (λ p. ListsPackages w (IsInClosure w p) closure))
    (λ closure is p at. closure_is w g c.links.ensures.links number p closure at is) c.closure.ensures.closure
