-- A tree, or a file without one.
use Rattle.std.proofs.Common.{not, ◌||◌, sym, ap, ◌∙◌}
use Rattle.workspace_graph.specs.Changed.{has_some}
use Rattle.workspace_graph.proofs.ChangedPackages.{vec_some}
use Rattle.workspace_graph.proofs.changed.has_file.Goals as goal

pub returns-then-not-is_empty : goal.returns-then-not-is_empty
returns-then-not-is_empty c =
    let p = c.args.one.now in
    sym (ap (λ b. b || has_some p.faulty.items) (sym (vec_some p.trees c.is_empty.result c.is_empty.ensures) ∙ ap not c.if-not-is_empty.true))

pub returns : goal.returns
returns c =
    let p = c.args.one.now in
    vec_some p.faulty c.is_empty-2.result c.is_empty-2.ensures
    ∙ sym (ap (λ b. b || has_some p.faulty.items) (sym (vec_some p.trees c.is_empty.result c.is_empty.ensures) ∙ ap not c.if-not-is_empty.false))
