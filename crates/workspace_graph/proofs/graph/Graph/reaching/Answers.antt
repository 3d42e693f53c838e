-- The packages that reach marked ones, in the words of the workspace.
use Rattle.std.proofs.Common.{sym, ◌∙◌}
use Rattle.std.proofs.lemmas.Result.{IfOk-weaker}
use Rattle.workspace_graph.specs.Reaching.{ReachingMarks}
use Rattle.workspace_graph.specs.Search.{AreReaching}
use Rattle.workspace_graph.proofs.ByPath.{reaching_are}
use Rattle.workspace_graph.proofs.graph.Graph.reaching.Goals as goal

pub reaching-requires : goal.reaching-requires
reaching-requires c = c.requires ∙ sym c.links.ensures.links.size

pub returns : goal.returns
returns c =
    let w = c.args.self.now in
    let g = c.links.result.now in
    let marks = c.args.marks.now in
    IfOk-weaker c.reaching.result (λ found. AreReaching g marks found.items) (λ found. ReachingMarks w marks found.items)
    (λ found are. reaching_are w g c.links.ensures.links marks found.items are) c.reaching.ensures
