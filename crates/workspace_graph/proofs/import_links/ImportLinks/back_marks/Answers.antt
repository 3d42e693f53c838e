-- What is found of these links.
use Rattle.std.proofs.Common.{◌<◌, length, sym, subst}
use Rattle.std.proofs.lemmas.Result.{IfOk-weaker}
use Rattle.workspace_graph.specs.Imports.{LinkTable}
use Rattle.workspace_graph.specs.Search.{UnmarksBelow}
use Rattle.workspace_graph.proofs.import_links.ImportLinks.back_marks.Goals as goal

pub back_marks-requires : goal.back_marks-requires
back_marks-requires c = record {
  linked = c.self.invariant.linked;
  back = c.self.invariant.importers;
  number = subst (λ (g : LinkTable). c.args.number < length g) (sym c.self.view_is) c.requires;
}

pub returns : goal.returns
returns c =
    let number = c.args.number in
    IfOk-weaker c.back_marks.result (λ marks. UnmarksBelow c.self.inside.imports number marks.items) (λ marks. UnmarksBelow c.args.self.now number marks.items)
    (λ marks is. subst (λ (g : LinkTable). UnmarksBelow g number marks.items) c.self.view_is is) c.back_marks.ensures
