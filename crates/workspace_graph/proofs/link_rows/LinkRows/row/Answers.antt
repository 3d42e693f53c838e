-- The row stands between its bounds.
use Rattle.std.proofs.Common.{◌+◌, ℕ, List, ap, sym, ◌∙◌}
use Rattle.std.specs.List.{slice_range}
use Rattle.std.proofs.Common.{get_or}
use Rattle.workspace_graph.specs.Imports.{row_of}
use Rattle.workspace_graph.proofs.LinkRows.{bounds_fit, bounds_rise, number_within, row_between}
use Rattle.workspace_graph.proofs.link_rows.LinkRows.row.Goals as goal

pub part_at-requires : goal.part_at-requires
part_at-requires c =
    let bs = c.self.inside.bounds.items in
    let ns = c.self.inside.numbers.items in
    let i = c.args.number in
    let lt = number_within bs ns c.args.self.now i c.self.view_is c.requires in
    record {
      number = rw c.deref.ensures.value lt;
      rising = rw c.deref.ensures.value (bounds_rise bs ns i c.self.invariant lt);
      within = rw (c.deref.ensures.value, c.deref-2.ensures.value) (bounds_fit bs ns (i + 1) c.self.invariant lt);
    }

pub returns : goal.returns
returns c =
    let bs = c.self.inside.bounds.items in
    let ns = c.self.inside.numbers.items in
    let i = c.args.number in
    let lt = number_within bs ns c.args.self.now i c.self.view_is c.requires in
    c.part_at.ensures ∙ (ap (λ (l : List ℕ). slice_range c.deref-2.result.now (get_or l i 0) (get_or l (i + 1) 0)) c.deref.ensures.value
    ∙ (ap (λ (l : List ℕ). slice_range l (get_or bs i 0) (get_or bs (i + 1) 0)) c.deref-2.ensures.value
    ∙ (sym (row_between bs ns i lt) ∙ ap (λ g. row_of g i) c.self.view_is)))
