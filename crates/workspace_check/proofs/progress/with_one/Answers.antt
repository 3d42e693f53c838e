-- The answers to the goals of `progress::with_one`.
use Rattle.std.proofs.Common.{ℕ, List, [], ◌∷◌, ◌++◌, ap, ◌∙◌}
use Rattle.workspace_check.proofs.progress.with_one.Goals as goal

pub returns : goal.returns
returns c = c.in_ok-push.ensures.items ∙ ap (λ (l : List ℕ). l ++ c.args.one ∷ []) c.in_ok-all.ensures.items
