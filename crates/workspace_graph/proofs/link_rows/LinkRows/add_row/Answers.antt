-- One more row behind the last bound.
use Rattle.std.proofs.Common.{◌≡◌, ◌++◌, ℕ, List, length, take, ap, ◌∙◌}
use Rattle.workspace_graph.specs.LinkRows.{last_bound, rows_of}
use Rattle.workspace_graph.proofs.LinkRows.{row_ends}
use Rattle.workspace_graph.proofs.link_rows.LinkRows.add_row.Goals as goal

pub returns : goal.returns
returns c =
    let bs = c.self.inside.bounds.items in
    let ns = c.self.inside.numbers.items in
    let row : List ℕ = c.args.row.now in
    let new = c.push_all.new.numbers.items in
    let last : c.last_of.result ≡ last_bound bs = c.last_of.ensures ∙ ap last_bound c.deref.ensures.value in
    let kept : new ≡ take (last_bound bs) ns ++ row =
    c.in_ok-push_all.ensures.added ∙ ap (λ (l : List ℕ). l ++ row) (c.truncate.ensures.items ∙ ap (λ k. take k ns) last) in
    let end : c.len.result ≡ length new = c.len.ensures ∙ c.push_all.new.numbers.ok.0 in
    ap (λ (l : List ℕ). rows_of l new) c.in_ok-push.ensures.items
    ∙ row_ends bs ns new row c.args.self.now c.len.result c.self.invariant c.self.view_is kept end
