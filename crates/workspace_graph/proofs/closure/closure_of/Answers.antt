-- What is marked is what the package reaches, and it is the closure.
use Rattle.std.proofs.Common.{Bool, List, length, subst}
use Rattle.std.proofs.lemmas.Result.{IfOk-weaker}
use Rattle.workspace_graph.specs.Search.{ListsMarked}
use Rattle.workspace_graph.specs.Closures.{IsClosureList}
use Rattle.workspace_graph.proofs.Closed.{closed_is}
use Rattle.workspace_graph.proofs.closure.closure_of.Goals as goal

pub returns : goal.returns
returns c =
    let g = c.args.imports.now in
    IfOk-weaker c.marked.result (ListsMarked c.deref.result.now (length c.deref.result.now)) (IsClosureList g c.args.number)
    (λ numbers held. closed_is g c.args.number c.in_ok-reached.reached.items numbers c.in_ok-reached.ensures.reached
    (subst (λ (ms : List Bool). ListsMarked ms (length ms) numbers) c.deref.ensures.value held)) c.marked.ensures
