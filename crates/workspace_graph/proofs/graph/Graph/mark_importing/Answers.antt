-- The packages that import one, in the words of the workspace.
use Rattle.std.proofs.Common.{sym, ◌∙◌}
use Rattle.std.proofs.lemmas.Result.{on_ok_weaker}
use Rattle.workspace_graph.proofs.ByPath.{above_are, importing_are}
use Rattle.workspace_graph.proofs.graph.Graph.mark_importing.Goals as goal

pub mark_importing-requires : goal.mark_importing-requires
mark_importing-requires c = record {
  number = rw c.links.ensures.links.size c.requires.number;
  size = c.requires.size ∙ sym c.links.ensures.links.size;
  above = above_are c.args.self.now c.links.result.now c.links.ensures.links c.args.marks.now.items c.requires.above;
}

pub returns : goal.returns
returns c =
    on_ok_weaker c.mark_importing.result
    (λ are q at. importing_are c.args.self.now c.links.result.now c.links.ensures.links c.args.number q at c.args.marks.now.items
    c.mark_importing.new.marks.items are) c.mark_importing.ensures
