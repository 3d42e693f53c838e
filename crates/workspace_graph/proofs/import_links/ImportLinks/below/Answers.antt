-- What is found of these links.
use Rattle.std.proofs.Common.{◌<◌, length, sym, subst}
use Rattle.std.proofs.lemmas.Result.{IfOk-weaker}
use Rattle.workspace_graph.specs.Imports.{LinkTable}
use Rattle.workspace_graph.specs.Closures.{IsBuiltOnList}
use Rattle.workspace_graph.specs.Search.{MarksWayBack}
use Rattle.workspace_graph.proofs.import_links.ImportLinks.below.Goals as goal

pub below-requires : goal.below-requires
below-requires c = record {
  linked = c.self.invariant.linked;
  back = c.self.invariant.importers;
  number = subst (λ (g : LinkTable). c.args.number < length g) (sym c.self.view_is) c.requires;
}

pub returns-clause-built_on : goal.returns-clause-built_on
returns-clause-built_on c =
    IfOk-weaker c.below.result _ _ (λ found is. subst (λ (g : LinkTable). IsBuiltOnList g c.args.number found.built_on) c.self.view_is is)
    c.below.ensures.built_on

pub returns-clause-back : goal.returns-clause-back
returns-clause-back c =
    IfOk-weaker c.below.result _ _ (λ found is. subst (λ (g : LinkTable). MarksWayBack g c.args.number found.back.items) c.self.view_is is) c.below.ensures.back
