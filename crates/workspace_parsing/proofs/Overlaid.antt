-- The files of a workspace, with those of another one set at their paths.
use Rattle.std.proofs.Common.{◌≡◌, ℕ, ◌∷◌, [], true, List, Option, Some, None, cond, refl, sym, ap, ◌∙◌}
use Rattle.std.specs.FinMap.{entries, entries_sorted, find, get, get-entries, get-insert, insert, is_sorted}
use Rattle.std.specs.FinMap.Entries.{below_all}
use Rattle.std.specs.Ordering.{is_eq, is_lt}
use Rattle.std.specs.declared.cmp.Ordering.TheVariants.{Less, Equal, Greater}
use Rattle.std.proofs.lemmas.Bool.{and_parts}
use Rattle.base_lemmas.proofs.Tests.{less_from_test, true_from_T}
use Rattle.base_files.specs.Packages.{package_paths}
use Rattle.base_files.specs.Path.{folder}
use Rattle.base_files.specs.Workspace.{Workspace, path_cmp}
use Rattle.base_files.proofs.WorkspaceLaws.{path_cmp_total, path_cmp_exact}
use Rattle.base_edits.specs.Made.{with_files}
use Rattle.workspace_graph.specs.SameGoFiles.{AreSameIn, DiffersOnlyIn}
use Rattle.workspace_graph.proofs.ChangedFiles.{has_package}
use Rattle.workspace_parsing.specs.Overlaid.{ShareNoPackage}

-- a path before all of these files is that of none
pub none_below : (path : List ℕ) (es : List (List ℕ × List ℕ)) → below_all path_cmp path es ≡ true → find path_cmp path es ≡ None
none_below path [] below = refl
none_below path (e ∷ es) below =
    let parts = and_parts (is_lt (path_cmp path e.0)) (below_all path_cmp path es) below in
    ap (λ r. cond (is_eq r) (Some e.1) (find path_cmp path es)) (less_from_test (path_cmp path e.0) parts.0) ∙ none_below path es parts.1

-- what is found, or else what was there
abbrev first_some : Option (List ℕ) → Option (List ℕ) → Option (List ℕ)
first_some (Some text) there = Some text
first_some None there = there

-- what stands at a path then
set_each : (es : List (List ℕ × List ℕ)) (w : Workspace) (q : List ℕ) → is_sorted path_cmp es ≡ true →
    get (with_files es w) q ≡ first_some (find path_cmp q es) (get w q)
set_each [] w q sorted = refl
set_each (e ∷ es) w q sorted =
    let parts = and_parts (below_all path_cmp e.0 es) (is_sorted path_cmp es) sorted in
    set_each es (insert w e.0 e.1) q parts.1
    ∙ ap (first_some (find path_cmp q es)) (get-insert path_cmp_total w e.0 e.1 q)
    ∙ elim (path_cmp q e.0) as (λ r. path_cmp q e.0 ≡ r → first_some (find path_cmp q es) (cond (is_eq r) (Some e.1) (get w q)) ≡
    first_some (cond (is_eq r) (Some e.1) (find path_cmp q es)) (get w q)) [
      | Less ↦ λ less. refl
      | Equal ↦ λ tied. ap (λ found. first_some found (Some e.1))
          (ap (λ p. find path_cmp p es) (path_cmp_exact q e.0 tied) ∙ none_below e.0 es parts.0)
      | Greater ↦ λ behind. refl
    ] refl

module _ (below above files : Workspace) (apart : ShareNoPackage above below) (is : files ≡ with_files (entries above) below) where
  at : (q : List ℕ) → get files q ≡ first_some (get above q) (get below q)
  at q =
      ap (λ (m : Workspace). get m q) is
      ∙ set_each (entries above) below q (true_from_T _ (entries_sorted above))
      ∙ ap (λ found. first_some found (get below q)) (sym (get-entries above q))

  pub differs_above : DiffersOnlyIn (package_paths above) below files
  differs_above path go out =
      at path ∙ elim (get above path) as (λ o. get above path ≡ o → first_some o (get below path) ≡ get below path) [
        | Some text ↦ λ there. absurd (out (has_package above path text go there))
        | None ↦ λ none. refl
      ] refl

  pub same_above : AreSameIn (package_paths above) above files
  same_above path go has =
      at path ∙ elim (get above path) as (λ o. first_some o (get below path) ≡ o) [
        | Some text ↦ refl
        | None ↦ elim (get below path) as (λ o. get below path ≡ o → o ≡ None) [
          | Some text ↦ λ there. absurd (apart (folder path) has (has_package below path text go there))
          | None ↦ λ none. refl
        ] refl
      ]
