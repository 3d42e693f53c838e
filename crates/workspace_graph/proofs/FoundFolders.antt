-- A folder has a Go file exactly if it is among the folders of Go files.
use Rattle.std.proofs.Common.{◌≡◌, ℕ, Bool, true, false, ◌&&◌, ◌||◌, List, [], ◌∷◌, map, filter, cond}
use Rattle.std.proofs.Common.{refl, sym, ap, ◌∙◌, arith, ◌==◌}
use Rattle.std.specs.Cmp.{tied_itself}
use Rattle.std.specs.Cmp.Lexicographic.{pointwise, bytes_decides}
use Rattle.std.specs.List.{Contains, list_any}
use Rattle.std.specs.Ordering.{eq_by_cmp, is_eq}
use Rattle.std.proofs.lemmas.Bool.{true≢false, false_from_ne_true}
use Rattle.base_files.specs.Path.{folder}
use Rattle.base_files.specs.Packages.{is_go, files_in}
use Rattle.base_files.specs.Workspace.{path_cmp}
use Rattle.base_files.proofs.WorkspaceLaws.{path_cmp_total}
use Rattle.workspace_graph.specs.Changed.{has_some}
use Rattle.workspace_graph.proofs.PackagePaths.{go_folders, exact_names}

-- ---- whether a folder has a Go file
pub first_of : {X : Type 0} (xs : List X) → has_some xs ≡ true → (x : X) × Contains xs x
first_of [] h = absurd (true≢false (sym h))
first_of (x ∷ xs) h = (x, (0, omega arith, refl))

pub folder_found : (q : List ℕ) (es : List (List ℕ × List ℕ)) → list_any (eq_by_cmp path_cmp q) (go_folders es) ≡ has_some (files_in q es)
folder_found q [] = refl
folder_found q (e ∷ es) =
    let names = filter is_go (map (λ (d : List ℕ × List ℕ). d.0) es) in
    let same = pointwise ◌==◌ (folder e.0) q in
    elim (is_go e.0) as (λ b. list_any (eq_by_cmp path_cmp q) (map folder (cond b (e.0 ∷ names) names)) ≡ has_some
    (cond (b && same) (e ∷ files_in q es) (files_in q es))) [
      | true ↦ elim same as (λ t. same ≡ t → (eq_by_cmp path_cmp q (folder e.0) || list_any (eq_by_cmp path_cmp q) (go_folders es)) ≡ has_some
          (cond t (e ∷ files_in q es) (files_in q es))) [
            | true ↦ λ is. ap (λ b. b || list_any (eq_by_cmp path_cmp q) (go_folders es)) (tied ((bytes_decides (folder e.0) q).0 is))
            | false ↦ λ is. ap (λ b. b || list_any (eq_by_cmp path_cmp q) (go_folders es))
                (false_from_ne_true _ (λ t. true≢false (sym ((bytes_decides (folder e.0) q).1 (sym (exact_names q (folder e.0) t))) ∙ is))) ∙ folder_found q es
          ] refl
      | false ↦ folder_found q es
    ]
  where
    tied : folder e.0 ≡ q → eq_by_cmp path_cmp q (folder e.0) ≡ true
    tied is = ap (eq_by_cmp path_cmp q) is ∙ ap is_eq (tied_itself path_cmp_total q)
