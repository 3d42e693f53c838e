-- From no mark on just those are marked that import the package.
use Rattle.std.proofs.Common.{rules, ◌≡◌, inl, inr, false, replicate, length, ap, ◌∙◌}
use Rattle.std.proofs.lemmas.List.{length-replicate}
use Rattle.workspace_graph.proofs.Reached.{none_in}
use Rattle.workspace_graph.proofs.graph.Graph.importing.Goals as goal

pub mark_importing-requires : goal.mark_importing-requires
mark_importing-requires c =
    let marks = c.in_ok-marks.marks.items in
    let is : marks ≡ replicate c.len.result false = c.in_ok-marks.ensures.items_if_clones_equal (search rules) in
    record {
      number = c.requires;
      size = ap length is ∙ length-replicate c.len.result false ∙ c.len.ensures;
      above = λ i j p q at there imports marked. absurd (none_in marks c.len.result is j marked);
    }

pub returns : goal.returns
returns c = λ q at.
    let marks = c.in_ok-marks.marks.items in
    let is : marks ≡ replicate c.len.result false = c.in_ok-marks.ensures.items_if_clones_equal (search rules) in
    let are = c.in_ok-mark_importing.ensures q at in
    record {
      size = are.size ∙ ap length is ∙ length-replicate c.len.result false ∙ c.len.ensures;
      each = λ i p there. (
        λ m. elim ((are.each i p there).0 m) [ inl none ↦ absurd (none_in marks c.len.result is i none) | inr back ↦ back ],
        λ back. (are.each i p there).1 (inr back),
      );
    }
