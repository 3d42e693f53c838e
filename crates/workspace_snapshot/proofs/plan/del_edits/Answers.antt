-- One file that is dropped.
use Rattle.std.proofs.Common.{◌∷◌, [], ◌++◌, List, ap, ◌∙◌}
use Rattle.base_edits.specs.declared.change.FileChange.{FileChange}
use Rattle.workspace_snapshot.proofs.OneFile.{del_set_from}
use Rattle.workspace_snapshot.proofs.plan.del_edits.Goals as goal

pub new-requires-2 : goal.new-requires-2
new-requires-2 c =
    del_set_from c.args.path.now c.push.new.self.items c.new.result.items
    (c.in_ok-push.ensures.items ∙ ap (λ (xs : List FileChange). xs ++ c.in_ok-dropping.field-0 ∷ []) c.new-changed.ensures.items ∙
    ap (λ (x : FileChange). x ∷ []) c.in_ok-dropping.ensures)
    c.new.ensures.items
