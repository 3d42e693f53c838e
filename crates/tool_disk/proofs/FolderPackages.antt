-- A Go file of each package, as files come.
use Rattle.std.proofs.Common.{◌≡◌, ◌==◌, ◌↔◌, ◌+◌, ◌≤◌, ◌||◌, ◌&&◌, ◌++◌, ◌∷◌, [], ℕ, Bool, true, false, List, cond, length, not, refl, sym, ap, ◌∙◌, arith}
use Rattle.std.specs.Cmp.{tied_itself}
use Rattle.std.specs.Cmp.Lexicographic.{pointwise, bytes_decides}
use Rattle.std.specs.FinMap.{insert}
use Rattle.std.specs.List.{list_any}
use Rattle.std.specs.Ordering.{eq_by_cmp, is_eq}
use Rattle.std.proofs.lemmas.Bool.{true≢false}
use Rattle.std.proofs.lemmas.List.{length_push}
use Rattle.std.proofs.lemmas.List.Folds.{list_any-append}
use Rattle.base_files.specs.Packages.{is_go, package_paths}
use Rattle.base_files.specs.Path.{folder}
use Rattle.base_files.specs.Workspace.{Workspace, path_cmp}
use Rattle.base_files.specs.declared.limits.Limits.{Limits}
use Rattle.base_files.proofs.WorkspaceLaws.{path_cmp_total}
use Rattle.workspace_graph.proofs.PackagePaths.{exact_names}
use Rattle.workspace_parsing.proofs.PutPackages.{among_after, count_after, packages_stay}
use Rattle.workspace_snapshot.specs.Fits.{FilesFit, FitsLimits}
use Rattle.tool_disk.specs.Puts.{AreInPackages, is_first_in, is_folder_of}

-- two ways to compare paths
same_bytes : (f q : List ℕ) → pointwise ◌==◌ f q ≡ eq_by_cmp path_cmp q f
same_bytes f q =
    elim (pointwise ◌==◌ f q) as (λ b. pointwise ◌==◌ f q ≡ b → b ≡ eq_by_cmp path_cmp q f) [
      | true ↦ λ is. sym (ap (eq_by_cmp path_cmp q) ((bytes_decides f q).0 is) ∙ ap is_eq (tied_itself path_cmp_total q))
      | false ↦ λ is. (elim (eq_by_cmp path_cmp q f) as (λ t. eq_by_cmp path_cmp q f ≡ t → false ≡ t) [
        | true ↦ λ tied. absurd (true≢false (sym ((bytes_decides f q).1 (sym (exact_names q f tied))) ∙ is))
        | false ↦ λ apart. refl
      ] refl)
    ] refl

-- the files that are kept of packages after a file was set
abbrev pub kept_after : (kept : List (List ℕ)) → (path : List ℕ) → List (List ℕ)
kept_after kept path = cond (is_first_in kept path) (kept ++ path ∷ []) kept

-- one file more, or none
one_more : (b : Bool) (kept : List (List ℕ)) (path : List ℕ) → length (cond b (kept ++ path ∷ []) kept) ≡ length kept + cond b 1 0
one_more true kept path = length_push kept path
one_more false kept path = omega arith

or_swap : (a b : Bool) → (a || (b || false)) ≡ (b || a)
or_swap true true = refl
or_swap true false = refl
or_swap false true = refl
or_swap false false = refl

or_same : (a b : Bool) → (b ≡ true → a ≡ true) → a ≡ (b || a)
or_same true true h = refl
or_same true false h = refl
or_same false true h = absurd (true≢false (sym (h refl)))
or_same false false h = refl

module _ (w : Workspace) (kept : List (List ℕ)) (path text : List ℕ) (counted : length kept ≡ length (package_paths w)) (are : AreInPackages kept w) where
  -- whether the folder of the file had another one
  old : Bool
  old = is_folder_of kept (folder path)

  pub count_kept : length (kept_after kept path) ≡ length (package_paths (insert w path text))
  count_kept =
      elim (is_go path) as (λ b. is_go path ≡ b → length (cond (b && not (is_folder_of kept (folder path))) (kept ++ path ∷ []) kept) ≡
      length (package_paths (insert w path text))) [
        | true ↦ λ go.
            let n = length (package_paths w) in
            (elim (is_folder_of kept (folder path)) as (λ t. is_folder_of kept (folder path) ≡ t → length (cond (not t) (kept ++ path ∷ []) kept) ≡
            cond t n (n + 1)) [
              | true ↦ λ is. counted
              | false ↦ λ is. length_push kept path ∙ ap (λ (k : ℕ). k + 1) counted
            ] refl)
            ∙ ap (λ t. cond t n (n + 1)) (are (folder path))
            ∙ sym (count_after w path text go)
        | false ↦ λ other. counted ∙ sym (ap length (packages_stay w path text other))
      ] refl

  pub as_many : length kept + cond (is_first_in kept path) 1 0 ≡ length (package_paths (insert w path text))
  as_many = sym (one_more (is_first_in kept path) kept path) ∙ count_kept

  -- the limits are kept exactly if the files keep theirs, and there is room for a package that is new
  pub fits_after : (limits : Limits) (files : Workspace) (is_new : Bool) → files ≡ insert w path text → is_new ≡ is_first_in kept path →
      FitsLimits limits files ↔ (FilesFit limits files × (length kept + cond is_new 1 0 ≤ limits.packages))
  fits_after limits files is_new is new =
      let many : length kept + cond is_new 1 0 ≡ length (package_paths files) =
      ap (λ b. length kept + cond b 1 0) new ∙ as_many ∙ sym (ap (λ f. length (package_paths f)) is) in
      (λ h. (h.files, omega (arith, many, h.packages)), λ h. record { files = h.0; packages = omega (arith, many, h.1) })

  -- the folder of a file that was kept, or of the one that was set
  among_kept : (q : List ℕ) → is_folder_of kept (folder path) ≡ true → pointwise ◌==◌ (folder path) q ≡ true → is_folder_of kept q ≡ true
  among_kept q is same = ap (is_folder_of kept) (sym ((bytes_decides (folder path) q).0 same)) ∙ is

  pub in_packages_kept : AreInPackages (kept_after kept path) (insert w path text)
  in_packages_kept q =
      elim (is_go path) as (λ b. is_go path ≡ b → is_folder_of (cond (b && not (is_folder_of kept (folder path))) (kept ++ path ∷ []) kept) q ≡
      list_any (eq_by_cmp path_cmp q) (package_paths (insert w path text))) [
        | true ↦ λ go.
            (elim (is_folder_of kept (folder path)) as (λ t. is_folder_of kept (folder path) ≡ t → is_folder_of (cond (not t) (kept ++ path ∷ []) kept) q ≡
            (pointwise ◌==◌ (folder path) q || is_folder_of kept q)) [
              | true ↦ λ is. or_same (is_folder_of kept q) (pointwise ◌==◌ (folder path) q) (among_kept q is)
              | false ↦ λ is. list_any-append (λ p. pointwise ◌==◌ (folder p) q) kept (path ∷ [])
                  ∙ or_swap (is_folder_of kept q) (pointwise ◌==◌ (folder path) q)
            ] refl)
            ∙ ap (λ b. b || is_folder_of kept q) (same_bytes (folder path) q)
            ∙ ap (λ b. eq_by_cmp path_cmp q (folder path) || b) (are q)
            ∙ sym (among_after w path text go q)
        | false ↦ λ other. are q ∙ sym (ap (list_any (eq_by_cmp path_cmp q)) (packages_stay w path text other))
      ] refl
