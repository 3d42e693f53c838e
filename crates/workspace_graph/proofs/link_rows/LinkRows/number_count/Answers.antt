-- The rows lie one behind another, from the first bound to the last.
use Rattle.std.proofs.Common.{◌≡◌, List, length, ap, ◌∙◌, arith, get_or}
use Rattle.std.specs.List.{sum_by}
use Rattle.std.proofs.lemmas.Grind.{get_or_default_zero}
use Rattle.workspace_graph.specs.Imports.{LinkTable}
use Rattle.workspace_graph.specs.LinkRows.{last_bound}
use Rattle.workspace_graph.proofs.RowCounts.{all_counted}
use Rattle.workspace_graph.proofs.link_rows.LinkRows.number_count.Goals as goal

pub returns : goal.returns
returns c =
    let bs = c.self.inside.bounds.items in
    let counted = all_counted bs c.self.inside.numbers.items c.self.invariant in
    let same = ap (λ (g : LinkTable). sum_by (λ row. length row) g) c.self.view_is in
    let first : c.index.result.now ≡ get_or bs 0 0 = c.index.ensures ∙ get_or_default_zero bs 0 c.index.result.now c.self.invariant.some in
    let last : c.last_of.result ≡ last_bound bs = c.last_of.ensures ∙ ap last_bound c.deref.ensures.value in
    omega (arith, counted, same, first, last)
