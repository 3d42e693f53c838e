-- The closure that is found.
use Rattle.std.proofs.Common.{◌<◌, length, sym, subst}
use Rattle.std.specs.List.Sorted.{IsStrictlyIncreasing}
use Rattle.std.proofs.lemmas.Result.{IfOk-weaker}
use Rattle.workspace_graph.specs.Imports.{LinkTable, IsClosure}
use Rattle.workspace_graph.specs.Closures.{IsClosureList}
use Rattle.workspace_graph.proofs.import_links.ImportLinks.closure.Goals as goal

pub closure_of-requires : goal.closure_of-requires
closure_of-requires c = record {
  linked = c.self.invariant.linked;
  number = subst (λ (g : LinkTable). c.args.number < length g) (sym c.self.view_is) c.requires;
}

pub returns-clause-closure : goal.returns-clause-closure
returns-clause-closure c =
    let number = c.args.number in
    IfOk-weaker c.closure_of.result (IsClosureList c.self.inside.imports number) (IsClosure c.args.self.now number)
    (λ closure is. subst (λ (g : LinkTable). IsClosure g number closure) c.self.view_is is.reached) c.closure_of.ensures

pub returns-clause-rising : goal.returns-clause-rising
returns-clause-rising c =
    IfOk-weaker c.closure_of.result (IsClosureList c.self.inside.imports c.args.number) IsStrictlyIncreasing (λ closure is. is.rising) c.closure_of.ensures
