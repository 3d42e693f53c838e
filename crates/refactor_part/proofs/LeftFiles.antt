-- Files that are left out of a workspace one by one.
use Rattle.std.proofs.Common.{◌≡◌, ◌⊎◌, ℕ, inl, inr, Bool, true, false, cond, List, [], ◌∷◌, ◌++◌, None, refl, sym, ap, subst, ◌∙◌}
use Rattle.std.specs.Prelude.{Contains}
use Rattle.std.specs.Cmp.{Equal-is, tied_itself}
use Rattle.std.specs.FinMap.{entries, get, remove, get-remove}
use Rattle.std.specs.Ordering.{eq_by_cmp, is_eq}
use Rattle.std.proofs.lemmas.List.Elements.{Contains-append_left, Contains-append_right, Contains-append_cases}
use Rattle.std.proofs.lemmas.Bool.{true≢false}
use Rattle.base_lemmas.proofs.Elements.{nothing_in, first_in, first_or_later}
use Rattle.base_files.specs.Workspace.{Workspace, path_cmp}
use Rattle.base_files.proofs.WorkspaceLaws.{path_cmp_total, path_cmp_exact}
use Rattle.workspace_check.specs.Verdicts.{Verdicts}
use Rattle.refactor_part.specs.FaultlessPart.{is_of_faulty}
use Rattle.refactor_part.specs.LeftOut.{AreOfFaulty, LeavesOut}

-- ---- left out
pub leaves_none : (w left : Workspace) → left ≡ w → LeavesOut [] w left
leaves_none w left same = record { out = λ path has. absurd (nothing_in path has); kept = λ path out. ap (λ x. get x path) same }

module _ (w left : Workspace) (passed : List (List ℕ)) (path : List ℕ) (next : Workspace) (removed : next ≡ remove left path) (h : LeavesOut passed w left)
  where
    at : (q : List ℕ) → get next q ≡ cond (eq_by_cmp path_cmp q path) None (get left q)
    at q = ap (λ x. get x q) removed ∙ get-remove path_cmp_total left path q

    none_both : (b : Bool) (q : List ℕ) → get left q ≡ None → cond b None (get left q) ≡ None
    none_both true q e = refl
    none_both false q e = e

    tied : (q : List ℕ) → path ≡ q → eq_by_cmp path_cmp q path ≡ true
    tied q same = subst (λ x. eq_by_cmp path_cmp q x ≡ true) (sym same) (ap is_eq (tied_itself path_cmp_total q))

    kept_by : (q : List ℕ) → (path ≡ q → ⊥) → (b : Bool) → eq_by_cmp path_cmp q path ≡ b → cond b None (get left q) ≡ get left q
    kept_by q other true e = absurd (other (sym (path_cmp_exact q path ((Equal-is (path_cmp q path)).0 e))))
    kept_by q other false e = refl

    pub leaves_more : LeavesOut (passed ++ path ∷ []) w next
    leaves_more = record {
      out = λ q has. at q ∙ elim (Contains-append_cases passed (path ∷ []) q has) [
        | inl before ↦ none_both (eq_by_cmp path_cmp q path) q (h.out q before)
        | inr own ↦ elim (first_or_later path [] q own) [
          | inl same ↦ ap (λ b. cond b None (get left q)) (tied q same)
          | inr none ↦ absurd (nothing_in q none)
        ]
      ];
      kept = λ q out.
          at q ∙ kept_by q (λ same. out (Contains-append_right passed (path ∷ []) q (subst (Contains (path ∷ [])) same (first_in path []))))
          (eq_by_cmp path_cmp q path) refl
          ∙ h.kept q (λ before. out (Contains-append_left passed (path ∷ []) q before));
    }
