-- The files and packages of a workspace after an edit set that leaves each file at its path and adds none.
use Rattle.std.proofs.Common.{◌≡◌, ℕ, ◌&&◌, Bool, true, false, List, [], ◌∷◌, ◌++◌, map, filter, cond, Option, Some, None, refl, ap, ◌∙◌}
use Rattle.std.specs.List.{Contains, filter_map, cons_option}
use Rattle.std.specs.FinMap.{entries, entries_sorted, from_entries, is_sorted, keys}
use Rattle.std.specs.FinMap.Entries.{below_all}
use Rattle.std.specs.Option.{option_map}
use Rattle.std.specs.Ordering.{is_lt}
use Rattle.std.proofs.Math.Path.{ap₂}
use Rattle.base_lemmas.proofs.Tests.{true_from_T}
use Rattle.base_files.specs.Path.{folder}
use Rattle.base_files.specs.Packages.{is_go, is_of_package, package_files, package_paths}
use Rattle.base_files.specs.Workspace.{Workspace, path_cmp}
use Rattle.base_files.proofs.WorkspaceLaws.{entries_in_order}
use Rattle.base_edits.specs.Edits.{edited_text}
use Rattle.base_edits.specs.EditSet.{FileChanges, path_by, change_of, file_by, file_after, files_after, edited}
use Rattle.base_edits.specs.Moved.{edits_by}
use Rattle.base_edits.specs.declared.change.FileChange.{FileChange}
use Rattle.base_edits.specs.declared.change.Fate.TheVariants.{Stays}
use Rattle.base_edits.proofs.Changes.{change_found}

-- a file, as path and text, at its path with its edited text
abbrev pub new_entry : FileChanges → List ℕ × List ℕ → List ℕ × List ℕ
new_entry s e = (e.0, edited_text (edits_by (change_of s e.0)) e.1)

-- lists of files so made

all_given : {X Y : Type 0} (h : X → Option Y) (g : X → Y) → ((x : X) → h x ≡ Some (g x)) → (xs : List X) → filter_map h xs ≡ map g xs
all_given h g is [] = refl
all_given h g is (x ∷ xs) = ap₂ (λ o ys. cons_option o ys) (is x) (all_given h g is xs)

below_kept : (s : FileChanges) (k : List ℕ) (es : List (List ℕ × List ℕ)) → below_all path_cmp k (map (new_entry s) es) ≡ below_all path_cmp k es
below_kept s k [] = refl
below_kept s k (e ∷ es) = ap (λ b. is_lt (path_cmp k e.0) && b) (below_kept s k es)

sorted_kept : (s : FileChanges) (es : List (List ℕ × List ℕ)) → is_sorted path_cmp (map (new_entry s) es) ≡ is_sorted path_cmp es
sorted_kept s [] = refl
sorted_kept s (e ∷ es) = ap₂ (λ a b. a && b) (below_kept s e.0 es) (sorted_kept s es)

filtered : (s : FileChanges) (test : List ℕ → Bool) (es : List (List ℕ × List ℕ)) →
    filter (λ e. test e.0) (map (new_entry s) es) ≡ map (new_entry s) (filter (λ e. test e.0) es)
filtered s test [] = refl
filtered s test (e ∷ es) =
    elim (test e.0) as (λ b. cond b (new_entry s e ∷ filter (λ d. test d.0) (map (new_entry s) es)) (filter (λ d. test d.0) (map (new_entry s) es)) ≡
    map (new_entry s) (cond b (e ∷ filter (λ d. test d.0) es) (filter (λ d. test d.0) es))) [
      | true ↦ ap (λ ds. new_entry s e ∷ ds) (filtered s test es)
      | false ↦ filtered s test es
    ]

same_paths : (s : FileChanges) (es : List (List ℕ × List ℕ)) → map (λ (e : List ℕ × List ℕ). e.0) (map (new_entry s) es) ≡ map (λ (e : List ℕ × List ℕ). e.0) es
same_paths s [] = refl
same_paths s (e ∷ es) = ap (λ ps. e.0 ∷ ps) (same_paths s es)

module _ (s : FileChanges) (none_added : s.added ≡ []) (stay : (c : FileChange) → Contains s.changed c → c.fate ≡ Stays) (w : Workspace) where
  by_change : (e : List ℕ × List ℕ) (o : Option FileChange) → change_of s e.0 ≡ o → file_by o e ≡ Some (e.0, edited_text (edits_by o) e.1)
  by_change e None is = refl
  by_change e (Some c) is =
      ap (λ fate. option_map {U = List ℕ × List ℕ} (λ p. (p, edited_text c.edits e.1)) (path_by fate e.0)) (stay c (change_found s.changed e.0 c is).0)

  stays_there : (e : List ℕ × List ℕ) → file_after s e ≡ Some (new_entry s e)
  stays_there e = by_change e (change_of s e.0) refl

  all_after : files_after s w ≡ map (new_entry s) (entries w)
  all_after = ap (λ added. added ++ filter_map (file_after s) (entries w)) none_added ∙ all_given (file_after s) (new_entry s) stays_there (entries w)

  pub entries_edited : entries (edited s w) ≡ map (new_entry s) (entries w)
  entries_edited =
      ap (λ es. entries (from_entries {R = path_cmp} es)) all_after
      ∙ entries_in_order (map (new_entry s) (entries w)) (sorted_kept s (entries w) ∙ true_from_T _ (entries_sorted w))

  -- the files of a package are its old ones, in their order, with edited texts
  pub files_edited : (p : List ℕ) → package_files (edited s w) p ≡ map (new_entry s) (package_files w p)
  files_edited p = ap (λ es. filter (λ (e : List ℕ × List ℕ). is_of_package p e.0) es) entries_edited ∙ filtered s (is_of_package p) (entries w)

  -- and the packages are the same
  pub paths_edited : package_paths (edited s w) ≡ package_paths w
  paths_edited =
      ap (λ es. keys (from_entries {R = path_cmp} (map (λ path. (folder path, tt)) (filter is_go (map (λ (e : List ℕ × List ℕ). e.0) es))))) entries_edited
      ∙ ap (λ ps. keys (from_entries {R = path_cmp} (map (λ path. (folder path, tt)) (filter is_go ps)))) (same_paths s (entries w))
