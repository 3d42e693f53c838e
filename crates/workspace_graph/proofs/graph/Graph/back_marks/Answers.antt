-- What leads back to a package, in the words of the workspace.
use Rattle.std.proofs.lemmas.Result.{IfOk-weaker}
use Rattle.workspace_graph.specs.Graphs.{OfPackage}
use Rattle.workspace_graph.specs.Reaching.{AreBackMarks}
use Rattle.workspace_graph.specs.Search.{UnmarksBelow}
use Rattle.workspace_graph.proofs.ByPath.{back_are}
use Rattle.workspace_graph.proofs.graph.Graph.back_marks.Goals as goal

pub back_marks-requires : goal.back_marks-requires
back_marks-requires c = rw c.links.ensures.links.size c.requires

pub returns : goal.returns
returns c =
    let w = c.args.self.now in
    let g = c.links.result.now in
    let number = c.args.number in
    IfOk-weaker c.back_marks.result (λ marks. UnmarksBelow g number marks.items) (λ marks. OfPackage w number (λ p. AreBackMarks w p marks.items))
    (λ marks are p at. back_are w g c.links.ensures.links number p marks.items at are.back) c.back_marks.ensures
