-- A search along importers finds what reaches the marked ones.
use Rattle.std.proofs.Common.{length, ap, sym, subst, ◌∙◌}
use Rattle.std.proofs.lemmas.Result.{IfOk-weaker}
use Rattle.workspace_graph.specs.Imports.{LinkTable}
use Rattle.workspace_graph.specs.Search.{AreReached, AreReaching}
use Rattle.workspace_graph.proofs.Reached.{noted_linked, are_reaching}
use Rattle.workspace_graph.proofs.import_links.ImportLinks.reaching.Goals as goal

pub reached_by-requires : goal.reached_by-requires
reached_by-requires c =
    let g = c.self.inside.imports in
    let noted = c.self.inside.importers in
    record {
      linked = noted_linked g noted c.self.invariant.linked c.self.invariant.importers;
      size = c.requires ∙ sym (c.self.invariant.importers.size ∙ ap length c.self.view_is);
    }

pub returns : goal.returns
returns c =
    let g = c.self.inside.imports in
    let noted = c.self.inside.importers in
    let marks = c.args.marks.now in
    IfOk-weaker c.reached_by.result (λ found. AreReached c.self.inside.importers marks (length c.self.inside.importers) found.items)
    (λ found. AreReaching c.args.self.now marks found.items)
    (λ found are. subst (λ (h : LinkTable). AreReaching h marks found.items) c.self.view_is
    (are_reaching g noted c.self.invariant.linked c.self.invariant.importers marks found.items (c.requires ∙ sym (ap length c.self.view_is)) are))
    c.reached_by.ensures
