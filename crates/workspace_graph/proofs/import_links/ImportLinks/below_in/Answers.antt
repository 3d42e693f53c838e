-- Where no importer is in the closure, the closure without the package, and its own mark.
use Rattle.std.proofs.Common.{ℕ, ◌<◌, sym, subst}
use Rattle.std.specs.List.{Contains}
use Rattle.std.proofs.lemmas.Result.{IfOk-weaker}
use Rattle.workspace_graph.specs.Imports.{Imports}
use Rattle.workspace_graph.proofs.Filled.{ok_both}
use Rattle.workspace_graph.proofs.BelowAlone.{back_alone, built_on_rest}
use Rattle.workspace_graph.proofs.import_links.ImportLinks.below_in.Goals as goal

pub rest_of-requires : goal.rest_of-requires
rest_of-requires c = record {
  number = subst (λ (n : ℕ). c.args.number < n) (sym c.len.ensures) c.requires.number;
  rising = c.requires.rising;
}

pub returns-clause-built_on : goal.returns-clause-built_on
returns-clause-built_on c =
    let g = c.args.self.now in
    let number = c.args.number in
    let closure = c.args.closure.now in
    let none : (r : ℕ) → Imports g r number → Contains closure r → ⊥ = λ r imports has.
    c.share_none.ensures c.if-not-share_none.false r ((c.importers.ensures.importers r).1 imports) has in
    ok_both c.rest_of.result
    (λ found each up. built_on_rest g number (Contains closure) c.requires.closure c.requires.number none found.built_on each up) c.rest_of.ensures.each
    c.rest_of.ensures.rising

pub returns-clause-back : goal.returns-clause-back
returns-clause-back c =
    let g = c.args.self.now in
    let number = c.args.number in
    let closure = c.args.closure.now in
    let none : (r : ℕ) → Imports g r number → Contains closure r → ⊥ = λ r imports has.
    c.share_none.ensures c.if-not-share_none.false r ((c.importers.ensures.importers r).1 imports) has in
    IfOk-weaker c.rest_of.result _ _
    (λ found marks. back_alone g number (Contains closure) c.requires.closure c.requires.number none found.back.items marks) c.rest_of.ensures.back
