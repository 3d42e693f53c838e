-- The packages with some numbers are those of a workspace that has just their files.
use Rattle.std.proofs.Common.{◌≡◌, ℕ, Bool, true, false, List, refl, sym, ap, subst, ◌∙◌, ◌==◌}
use Rattle.std.specs.Cmp.Lexicographic.{pointwise, bytes_decides}
use Rattle.std.specs.FinMap.{entries, contains_key-keys}
use Rattle.std.specs.List.{Contains, list_any}
use Rattle.std.specs.List.Sorted.{IsStrictlySortedBy}
use Rattle.std.specs.Ordering.{eq_by_cmp}
use Rattle.std.proofs.lemmas.Bool.{true≢false, and_parts, false_from_ne_true}
use Rattle.std.proofs.lemmas.Map.Views.{Contains-from_any}
use Rattle.base_files.specs.Path.{folder}
use Rattle.base_files.specs.Packages.{is_go, is_of_package, folders, package_paths, package_files, files_in}
use Rattle.base_files.specs.Workspace.{Workspace, path_cmp}
use Rattle.workspace_graph.specs.Changed.{has_some}
use Rattle.workspace_graph.proofs.ByPath.{at_contains}
use Rattle.workspace_graph.proofs.FoundFolders.{first_of, folder_found}
use Rattle.workspace_graph.proofs.PackagePaths.{go_folders, has_folder, exact_names, paths_are}
use Rattle.workspace_graph.proofs.SameFiles.{one_list}
use Rattle.workspace_graph.proofs.StayingPackages.{any_of}
use Rattle.build_unit.specs.Parts.{HasNumberIn, HasFilesOf}

module _ (w part : Workspace) (numbers : List ℕ) (has : HasFilesOf w numbers part) where
  pub same_package : (q : List ℕ) → HasNumberIn w numbers q → package_files part q ≡ package_files w q
  same_package q numbered = one_list (is_of_package q) w part (λ path is.
      let parts = and_parts (is_go path) (pointwise ◌==◌ (folder path) q) is in
      has.same path parts.0 (subst (HasNumberIn w numbers) (sym ((bytes_decides (folder path) q).0 parts.1)) numbered))

  -- paths in order that are those of the packages with the numbers
  module _ (paths : List (List ℕ)) (sorted : IsStrictlySortedBy path_cmp paths) (each : (q : List ℕ) → Contains paths q → HasNumberIn w numbers q)
      (all : (q : List ℕ) → HasNumberIn w numbers q → Contains paths q) where
    abbrev among : List ℕ → List (List ℕ) → Bool
    among q ks = list_any (eq_by_cmp path_cmp q) ks

    there : (q : List ℕ) → HasNumberIn w numbers q → among q (go_folders (entries part)) ≡ true
    there q numbered =
        folder_found q (entries part) ∙ ap has_some (same_package q numbered) ∙ sym (folder_found q (entries w))
        ∙ sym (has_folder w q) ∙ contains_key-keys (folders w) q ∙ any_of q (package_paths w) (at_contains w numbered.number q numbered.has_path)

    found : (q : List ℕ) → among q (go_folders (entries part)) ≡ true → among q paths ≡ true
    found q is =
        let file = first_of (files_in q (entries part)) (sym (folder_found q (entries part)) ∙ is) in
        any_of q paths (all q (has.others q file.0 file.1))

    pub part_paths : paths ≡ package_paths part
    part_paths = sym (paths_are part paths sorted (λ q. elim (among q paths) as (λ b. among q paths ≡ b → b ≡ among q (go_folders (entries part))) [
      | true ↦ λ is. sym (there q (each q (Contains-from_any exact_names q paths is)))
      | false ↦ λ is. sym (false_from_ne_true _ (λ go. true≢false (sym (found q go) ∙ is)))
    ] refl))
