-- The answers to the goals of `reuse::PassedPackages::new`.
use Rattle.std.proofs.Common.{rules, ◌≡◌, false, replicate, length, ap, ◌∙◌}
use Rattle.std.proofs.lemmas.List.{length-replicate}
use Rattle.workspace_graph.proofs.Reached.{none_in}
use Rattle.workspace_check.proofs.reuse.PassedPackages.new.Goals as goal

pub returns-clause-none : goal.returns-clause-none
returns-clause-none c = none_in c.in_ok-marks.marks.items c.len.result (c.in_ok-marks.ensures.items_if_clones_equal (search rules))

pub returns-clause-stirs : goal.returns-clause-stirs
returns-clause-stirs c =
    let marks = c.in_ok-marks.marks.items in
    let affected = c.in_ok-affected.affected.items in
    let is : marks ≡ replicate c.len.result false = c.in_ok-marks.ensures.items_if_clones_equal (search rules) in
    let also : affected ≡ replicate c.len-2.result false = c.in_ok-affected.ensures.items_if_clones_equal (search rules) in
    record {
      size = ap length is ∙ length-replicate c.len.result false ∙ c.len.ensures;
      all = ap length also ∙ length-replicate c.len-2.result false ∙ c.len-2.ensures;
      above = λ i j p q at there imports marked. absurd (none_in affected c.len-2.result also j marked);
    }
