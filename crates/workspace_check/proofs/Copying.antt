-- A copy of known verdicts with more places is right too.
use Rattle.std.proofs.Common.{◌≡◌, inl, inr, List, [], ◌∷◌, ◌++◌, sym, subst, ◌∙◌}
use Rattle.std.specs.Prelude.{Option, Some, None, slice_get}
use Rattle.std.proofs.lemmas.Option.{none-some, slice_get_within}
use Rattle.types_declared.proofs.DeclaredPaths.{get_before}
use Rattle.workspace_check.specs.declared.known.KnownVerdict.{KnownVerdict}
use Rattle.workspace_check.specs.Found.{HoldSameVerdicts}
use Rattle.workspace_check.proofs.Taking.{before_or_last}

pub same_verdicts : (old : List (Option KnownVerdict)) → HoldSameVerdicts old old
same_verdicts old n one = (λ is. is, λ is. is)

-- A place without a verdict is added.
pub same_padded : (old more new : List (Option KnownVerdict)) → new ≡ more ++ None ∷ [] → HoldSameVerdicts old more → HoldSameVerdicts old new
same_padded old more new e h n one = (
  λ is. elim (before_or_last more None n (Some one) (subst (λ l. slice_get l n ≡ Some (Some one)) e is)) [
    | inl before ↦ (h n one).0 before
    | inr last ↦ absurd (none-some one last.1)
  ],
  λ is.
      let there = (h n one).1 is in
      subst (λ l. slice_get l n ≡ Some (Some one)) (sym e) (get_before more None n (slice_get_within more n (Some one) there) ∙ there),
)
