-- The answers to the goals of `moves::Moves::number_of`.
use Rattle.std.proofs.Common.{sym, ap, subst, ◌∙◌, rules}
use Rattle.std.specs.List.Sorted.{IsStrictlySortedBy}
use Rattle.std.proofs.lemmas.Fn.{always_returns_same}
use Rattle.base_files.specs.Workspace.{path_cmp}
use Rattle.base_edits.specs.EditSet.{paths_of, change_in, change_of}
use Rattle.base_edits.proofs.Searched.{none_is, search_cmp}
use Rattle.base_edits.proofs.Ending.{change_number}
use Rattle.base_edits.proofs.moves.Moves.number_of.Goals as goal

pub returns-in-Ok : goal.returns-in-Ok
returns-in-Ok c =
    let same = c.changed-changed.ensures.changed in
    change_number c.self.inside.edits.now c.args.self.now c.changed-changed.result.now c.args.path.now c.in-Ok.number same c.self.view_is
    (subst (λ l. IsStrictlySortedBy path_cmp (paths_of l)) (sym same) c.changed-changed.ensures.set.by_path) c.in-Ok.ensures.bound
    (c.in-Ok.ensures.position (search_cmp c.args.path.now) (always_returns_same _ _ _ (λ a r f k. (search rules, search rules))))

pub returns-in-Err : goal.returns-in-Err
returns-in-Err c =
    let same = c.changed-changed.ensures.changed in
    ap (λ s. change_of s c.args.path.now) (sym c.self.view_is) ∙ ap (λ l. change_in l c.args.path.now) (sym same)
    ∙ sym (none_is c.changed-changed.result.now c.args.path.now c.in-Err.field-0 (subst (λ l. IsStrictlySortedBy path_cmp (paths_of l))
    (sym same) c.changed-changed.ensures.set.by_path)
    (c.in-Err.ensures.position (search_cmp c.args.path.now) (always_returns_same _ _ _ (λ a r f k. (search rules, search rules)))))
