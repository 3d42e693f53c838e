-- Where two workspaces have the same Go files in a folder, its package has the same files in both.
use Rattle.std.proofs.Common.{◌≡◌, ℕ, Bool, true, false, List, [], ◌∷◌, filter, cond, Option, Some, None, refl, sym, ap, subst, ◌∙◌, ◌==◌, T}
use Rattle.std.specs.Cmp.{Equal-is}
use Rattle.std.specs.Cmp.Lexicographic.{pointwise, bytes_decides}
use Rattle.std.specs.FinMap.{entries, entries_sorted, entries-from_sorted, find, from_sorted, get, get-entries, get-from_sorted, is_sorted, same_map}
use Rattle.std.specs.FinMap.Entries.{below_all}
use Rattle.std.specs.List.{Contains}
use Rattle.std.specs.Ordering.{eq_by_cmp, is_lt}
use Rattle.std.proofs.lemmas.Bool.{and_from, and_parts}
use Rattle.base_files.specs.Path.{folder}
use Rattle.base_files.specs.Packages.{is_go, is_of_package, package_files}
use Rattle.base_files.specs.Workspace.{Workspace, path_cmp}
use Rattle.base_files.proofs.WorkspaceLaws.{path_cmp_total, path_cmp_exact}
use Rattle.workspace_graph.specs.SameGoFiles.{DiffersOnlyIn}

abbrev Files : Type 0
Files = List (List ℕ × List ℕ)

-- ---- the files that pass a test of their paths
module _ (test : List ℕ → Bool) where
  abbrev passed : Files → Files
  passed es = filter (λ e. test e.0) es

  below_passed : (k : List ℕ) (es : Files) → below_all path_cmp k es ≡ true → below_all path_cmp k (passed es) ≡ true
  below_passed k [] h = refl
  below_passed k (e ∷ es) h =
      let parts = and_parts (is_lt (path_cmp k e.0)) (below_all path_cmp k es) h in
      elim (test e.0) as (λ b. below_all path_cmp k (cond b (e ∷ passed es) (passed es)) ≡ true) [
        | true ↦ and_from _ _ parts.0 (below_passed k es parts.1)
        | false ↦ below_passed k es parts.1
      ]

  pub sorted_passed : (es : Files) → is_sorted path_cmp es ≡ true → is_sorted path_cmp (passed es) ≡ true
  sorted_passed [] h = refl
  sorted_passed (e ∷ es) h =
      let parts = and_parts (below_all path_cmp e.0 es) (is_sorted path_cmp es) h in
      elim (test e.0) as (λ b. is_sorted path_cmp (cond b (e ∷ passed es) (passed es)) ≡ true) [
        | true ↦ and_from _ _ (below_passed e.0 es parts.0) (sorted_passed es parts.1)
        | false ↦ sorted_passed es parts.1
      ]

  either_way : (b : Bool) (o : Option (List ℕ)) → o ≡ cond b o o
  either_way true o = refl
  either_way false o = refl

  -- what is found among them
  found_passed : (q : List ℕ) (es : Files) → find path_cmp q (passed es) ≡ cond (test q) (find path_cmp q es) None
  found_passed q [] = either_way (test q) None
  found_passed q (e ∷ es) =
      elim (eq_by_cmp path_cmp q e.0) as (λ t. eq_by_cmp path_cmp q e.0 ≡ t →
      find path_cmp q (passed (e ∷ es)) ≡ cond (test q) (cond t (Some e.1) (find path_cmp q es)) None) [
        | true ↦ λ tied.
            let same : q ≡ e.0 = path_cmp_exact q e.0 ((Equal-is (path_cmp q e.0)).0 tied) in
            subst (λ b. find path_cmp q (passed (e ∷ es)) ≡ cond b (Some e.1) None) (sym (ap test same))
            (elim (test e.0) as (λ b. test e.0 ≡ b → find path_cmp q (cond b (e ∷ passed es) (passed es)) ≡ cond b (Some e.1) None) [
              | true ↦ λ is. ap (λ t. cond t (Some e.1) (find path_cmp q (passed es))) tied
              | false ↦ λ is. found_passed q es ∙ ap (λ b. cond b (find path_cmp q es) None) (ap test same ∙ is)
            ] refl)
        | false ↦ λ apart.
            elim (test e.0) as (λ b. find path_cmp q (cond b (e ∷ passed es) (passed es)) ≡ cond (test q) (find path_cmp q es) None) [
              | true ↦ ap (λ t. cond t (Some e.1) (find path_cmp q (passed es))) apart ∙ found_passed q es
              | false ↦ found_passed q es
            ]
      ] refl

  T_to : (b : Bool) → b ≡ true → T b
  T_to b is = subst T (sym is) tt

  T_from : (b : Bool) → T b → b ≡ true
  T_from true h = refl
  T_from false h = absurd h

  module _ (v w : Workspace) (same : (q : List ℕ) → test q ≡ true → get w q ≡ get v q) where
    ordered : (x : Workspace) → T (is_sorted path_cmp (passed (entries x)))
    ordered x = T_to _ (sorted_passed (entries x) (T_from _ (entries_sorted x)))

    at : (x : Workspace) (q : List ℕ) → get (from_sorted {R = path_cmp} (passed (entries x))) q ≡ cond (test q) (get x q) None
    at x q =
        get-from_sorted path_cmp (passed (entries x)) q (ordered x)
        ∙ found_passed q (entries x)
        ∙ ap (λ o. cond (test q) o None) (sym (get-entries x q))

    agree : (q : List ℕ) → cond (test q) (get w q) None ≡ cond (test q) (get v q) None
    agree q = elim (test q) as (λ b. test q ≡ b → cond b (get w q) None ≡ cond b (get v q) None) [
      | true ↦ λ is. same q is
      | false ↦ λ is. refl
    ] refl

    pub one_list : passed (entries w) ≡ passed (entries v)
    one_list =
        sym (entries-from_sorted path_cmp (passed (entries w)) (ordered w))
        ∙ ap entries (same_map path_cmp_total path_cmp_exact (from_sorted (passed (entries w))) (from_sorted (passed (entries v)))
        (λ q. at w q ∙ agree q ∙ sym (at v q)))
        ∙ entries-from_sorted path_cmp (passed (entries v)) (ordered v)

-- two workspaces with the same Go files in a folder have the same files of its package
pub same_in : (v w : Workspace) (p : List ℕ) → ((path : List ℕ) → is_go path ≡ true → folder path ≡ p → get w path ≡ get v path) →
    package_files w p ≡ package_files v p
same_in v w p same = one_list (is_of_package p) v w (λ q is.
    let parts = and_parts (is_go q) (pointwise ◌==◌ (folder q) p) is in
    same q parts.0 ((bytes_decides (folder q) p).0 parts.1))

-- two workspaces that differ only in some folders have the same files in any other
pub same_files : (folders : List (List ℕ)) (v w : Workspace) → DiffersOnlyIn folders v w → (p : List ℕ) → (Contains folders p → ⊥) →
    package_files w p ≡ package_files v p
same_files folders v w same p apart = same_in v w p (λ q go e. same q go (λ has. apart (subst (Contains folders) e has)))
