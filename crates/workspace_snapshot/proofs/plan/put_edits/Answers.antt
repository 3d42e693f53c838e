-- A file that is added, and maybe one that is dropped.
use Rattle.std.proofs.Common.{◌∷◌, [], ◌++◌, ℕ, List, ap, ◌∙◌}
use Rattle.workspace_snapshot.proofs.OneFile.{put_set_from}
use Rattle.workspace_snapshot.proofs.plan.put_edits.Goals as goal

pub new-requires : goal.new-requires
new-requires c =
    put_set_from c.args.files.now c.args.path c.args.text c.in_ok-changed.changed.items c.push.new.self.items c.in_ok-changed.ensures
    (c.in_ok-push.ensures.items ∙ ap (λ (xs : List (List ℕ × List ℕ)). xs ++ (c.args.path, c.args.text) ∷ []) c.new-added.ensures.items)
