-- Finding the value at a path after a value was set.
use Rattle.std.proofs.Common.{◌≡◌, ℕ, inl, inr, cond, List, Some, ap, ◌∙◌}
use Rattle.std.specs.Ordering.{eq_by_cmp, is_eq}
use Rattle.std.specs.Cmp.{tied_itself}
use Rattle.std.specs.FinMap.{find, put}
use Rattle.std.specs.FinMap.Entries.{find-put}
use Rattle.std.proofs.lemmas.Bool.{cases_Bool}
use Rattle.base_files.specs.Workspace.{path_cmp}
use Rattle.base_files.proofs.WorkspaceLaws.{path_cmp_total, path_cmp_exact}
use Rattle.base_files.proofs.Standing.{tied}

module _ {X : Type 0} (path : List ℕ) (v : X) (es : List (List ℕ × X)) where
  pub found_put : find path_cmp path (put path_cmp path v es) ≡ Some v
  found_put =
      find-put path_cmp path_cmp_total path path v es
      ∙ ap (λ r. cond (is_eq r) (Some v) (find path_cmp path es)) (tied_itself path_cmp_total path)

  pub others_put : (other : List ℕ) → (other ≡ path → ⊥) → find path_cmp other (put path_cmp path v es) ≡ find path_cmp other es
  others_put other ne = elim (cases_Bool (eq_by_cmp path_cmp other path)) [
    | inl same ↦ absurd (ne (path_cmp_exact other path (tied (path_cmp other path) same)))
    | inr apart ↦ find-put path_cmp path_cmp_total other path v es ∙ ap (λ b. cond b (Some v) (find path_cmp other es)) apart
  ]
