-- What is marked from no mark on is what the package reaches.
use Rattle.std.proofs.Common.{rules, ◌≡◌, ℕ, false, replicate, length, ap, subst, ◌∙◌}
use Rattle.std.proofs.lemmas.List.{length-replicate}
use Rattle.workspace_graph.proofs.Reached.{marks_reached, none_closed, none_in, reached_alone}
use Rattle.workspace_graph.proofs.closure.reached_from.Goals as goal

pub visit-requires : goal.visit-requires
visit-requires c =
    let g = c.args.imports.now in
    let marks = c.in_ok-marks.marks.items in
    let is : marks ≡ replicate (length g) false = subst (λ (n : ℕ). c.in_ok-marks.marks.items ≡ replicate n false) c.len.ensures
    (c.in_ok-marks.ensures.items_if_clones_equal (search rules)) in
    record {
      linked = c.requires.linked;
      size = ap length is ∙ length-replicate (length g) false;
      start = c.requires.number;
    }

pub returns : goal.returns
returns c =
    let g = c.args.imports.now in
    let number = c.args.number in
    let first = c.in_ok-marks.marks.items in
    let marks = c.visit.new.marks.items in
    let found = c.in_ok-visit.field-0.items in
    let is : first ≡ replicate (length g) false = subst (λ (n : ℕ). c.in_ok-marks.marks.items ≡ replicate n false) c.len.ensures
    (c.in_ok-marks.ensures.items_if_clones_equal (search rules)) in
    let none = none_in first (length g) is in
    record {
      size = c.in_ok-visit.ensures.finds.size ∙ ap length is ∙ length-replicate (length g) false;
      reached = reached_alone g number first marks none (marks_reached g number first found marks c.in_ok-visit.ensures (none_closed g first none));
    }
