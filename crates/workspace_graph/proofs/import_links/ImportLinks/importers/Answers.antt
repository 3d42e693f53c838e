-- The importers that were noted.
use Rattle.std.proofs.Common.{ℕ, sym, subst}
use Rattle.std.specs.List.Sorted.{IsStrictlyIncreasing}
use Rattle.workspace_graph.specs.Imports.{LinkTable, AreImporters, row_of}
use Rattle.workspace_graph.proofs.KeptImporters.{importers_of_all}
use Rattle.workspace_graph.proofs.import_links.ImportLinks.importers.Goals as goal

pub returns-clause-importers : goal.returns-clause-importers
returns-clause-importers c =
    let g = c.self.inside.imports in
    let noted = c.self.inside.importers in
    let number = c.args.number in
    let row = c.row.ensures in
    subst (λ (h : LinkTable). AreImporters h number c.row.result.now) c.self.view_is
    (subst (AreImporters g number) (sym row) (importers_of_all g noted c.self.invariant.importers number))

pub returns-clause-rising : goal.returns-clause-rising
returns-clause-rising c = λ ups.
    let noted = c.self.inside.importers in
    let number = c.args.number in
    let row = c.row.ensures in
    subst IsStrictlyIncreasing (sym row)
    (c.self.invariant.importers.rising (subst (λ (h : LinkTable). (p : ℕ) → IsStrictlyIncreasing (row_of h p)) (sym c.self.view_is) ups) number)
