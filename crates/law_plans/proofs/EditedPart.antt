-- Edits of the part, made in the part and in the whole workspace: where no other Go file comes to a package of the edited part, each package
-- of it has the same closure in both.
use Rattle.std.proofs.Common.{◌≡◌, ℕ, inl, inr, true, List, [], Option, None, Some, refl, sym, ap, subst}
use Rattle.std.specs.Prelude.{Contains, IsSome, unwrap_or, ◌==◌}
use Rattle.std.specs.Cmp.Lexicographic.{pointwise, bytes_decides}
use Rattle.std.specs.FinMap.{entries, get}
use Rattle.std.specs.Option.{option_map}
use Rattle.std.proofs.lemmas.Bool.{and_from, and_parts}
use Rattle.std.proofs.lemmas.Option.{same_Some}
use Rattle.base_files.specs.Path.{folder}
use Rattle.base_files.specs.Packages.{is_go, is_of_package, package_paths, package_files}
use Rattle.base_files.specs.Workspace.{Workspace}
use Rattle.base_edits.specs.Edits.{edited_text}
use Rattle.base_edits.specs.EditSet.{FileChanges, change_of, file_after, file_by, edited}
use Rattle.base_edits.specs.Fits.{path_after, path_by_change}
use Rattle.base_edits.specs.Moved.{moved}
use Rattle.base_edits.specs.declared.change.FileChange.{FileChange}
use Rattle.base_edits.proofs.Entries.{entry_of, get_entry, some_is, value_of}
use Rattle.base_edits.proofs.FilesAfter.{IsOldFile, comes_from}
use Rattle.base_lemmas.proofs.Elements.{nothing_in}
use Rattle.workspace_graph.proofs.ByPath.{has_file}
use Rattle.workspace_check.specs.Closures.{HasSameClosure}
use Rattle.workspace_check.specs.FaultLists.{ListsFaults}
use Rattle.workspace_check.specs.Verdicts.{Verdicts, AreVerdicts}
use Rattle.workspace_check.proofs.Closed.{to_package}
use Rattle.workspace_check.proofs.Members.{passes, passed}
use Rattle.refs_lookup.specs.Reached.{IsReached, start, imported, HasSameReached}
use Rattle.refs_lookup.proofs.Reached.{same_closure}
use Rattle.refactor_part.specs.FaultlessPart.{faultless_part}
use Rattle.refactor_part.proofs.GoodImports.{imported_package}
use Rattle.refactor_part.proofs.PartClosures.{each_fine}
use Rattle.refactor_part.proofs.PartEdits.{AreApart, has_old, within}
use Rattle.refactor_part.proofs.PartFiles.{stays_there}

-- a Go file of a folder is one of the package there
pub go_file : (w : Workspace) (path text : List ℕ) → get w path ≡ Some text → is_go path ≡ true → Contains (package_files w (folder path)) (path, text)
go_file w path text has go =
    let of : is_of_package (folder path) path ≡ true = and_from (is_go path) (pointwise ◌==◌ (folder path) (folder path)) go
    ((bytes_decides (folder path) (folder path)).1 refl) in
    passed (λ d. is_of_package (folder path) d.0) (entries w) (path, text) of (entry_of w path text has)

-- what a file of a package is
pub record IsGoFile (w : Workspace) (q : List ℕ) (e : List ℕ × List ℕ) : Type 0 where
  pub go : is_go e.0 ≡ true
  pub in_folder : folder e.0 ≡ q
  pub has : get w e.0 ≡ Some e.1

pub file_is : (w : Workspace) (q : List ℕ) (e : List ℕ × List ℕ) → Contains (package_files w q) e → IsGoFile w q e
file_is w q e c =
    let file = passes (λ d. is_of_package q d.0) (entries w) e c in
    let parts = and_parts (is_go e.0) (pointwise ◌==◌ (folder e.0) q) file.0 in
    record { go = parts.0; in_folder = (bytes_decides (folder e.0) q).0 parts.1; has = get_entry w e file.1 }

pub is_file : (w : Workspace) (q : List ℕ) (e : List ℕ × List ℕ) → IsGoFile w q e → Contains (package_files w q) e
is_file w q e is = subst (λ f. Contains (package_files w f) e) is.in_folder (go_file w e.0 e.1 is.has is.go)

-- a file at its path after the edits
pub after_at : (s : FileChanges) (old before new : List ℕ) → path_after s old ≡ Some new → (text : List ℕ) × (file_after s (old, before) ≡ Some (new, text))
after_at s old before new goes = by_change (change_of s old) goes
  where
    by_change : (o : Option FileChange) → path_by_change o old ≡ Some new → (text : List ℕ) × (file_by o (old, before) ≡ Some (new, text))
    by_change None h = (before, ap (λ (p : List ℕ). Some (p, before)) (same_Some old new h))
    by_change (Some c) h = (edited_text c.edits before, ap (option_map {U = List ℕ × List ℕ} (λ p. (p, edited_text c.edits before))) h)

-- what a file of the edited files was before
pub was_before : (w : Workspace) (s : FileChanges) (none : s.added ≡ []) (path text : List ℕ) → get (edited s w) path ≡ Some text → IsOldFile s w path text
was_before w s none path text has = elim (comes_from s w path text has) [
  | inl new ↦ absurd (nothing_in (path, text) (subst (λ l. Contains l (path, text)) none new))
  | inr old ↦ old
]

module _ (w : Workspace) (known : Verdicts) (s : FileChanges) (none : s.added ≡ []) (apart : AreApart s w) where
  abbrev part : Workspace
  part = faultless_part w known

  -- no two files of the part come to one path
  pub part_apart : AreApart s part
  part_apart one other path a b = apart one other path (up one a.0, a.1) (up other b.0, b.1)
    where
      up : (q : List ℕ) → IsSome (get part q) → IsSome (get w q)
      up q has = let t = value_of (get part q) has in some_is (get w q) t.0 (stays_there w known q t.0 t.1).1

  -- a file of the part, after the edits
  pub edited_file : (old before new : List ℕ) → get part old ≡ Some before → path_after s old ≡ Some new →
      (text : List ℕ) × (get (edited s part) new ≡ Some text)
  edited_file old before new has goes =
      let t = after_at s old before new goes in (t.0, has_old s part none part_apart new t.0 (old, before, has, t.1))

  -- the package to which a Go file of the part goes
  pub goes_on : (q : List ℕ) (e : List ℕ × List ℕ) → Contains (package_files part q) e → (new : List ℕ) → path_after s e.0 ≡ Some new → is_go new ≡ true →
      (offset : ℕ) → Contains (package_paths (edited s part)) (folder (moved s (record { path = e.0; offset = offset })).path)
  goes_on q e c new goes go offset =
      let file = file_is part q e c in
      let t = edited_file e.0 e.1 new file.has goes in
      subst (λ (o : Option (List ℕ)). Contains (package_paths (edited s part)) (folder (unwrap_or o e.0))) (sym goes)
      (has_file (edited s part) (folder new) (new, t.0) (go_file (edited s part) new t.0 t.1 go))

  -- a file of the edited part is one of the edited whole
  pub there : (q : List ℕ) (e : List ℕ × List ℕ) → Contains (package_files (edited s part) q) e → Contains (package_files (edited s w) q) e
  there q e c =
      let file = file_is (edited s part) q e c in
      is_file (edited s w) q e (record { go = file.go; in_folder = file.in_folder; has = within w known s none apart e.0 e.1 file.has })

  -- no other Go file comes to a package of the edited part
  abbrev pub NoneComes : Type 0
  NoneComes = (q : List ℕ) → Contains (package_paths (edited s part)) q → (e : List ℕ × List ℕ) → Contains (package_files (edited s w) q) e →
      Contains (package_files (edited s part) q) e

  module _ (back : NoneComes) (after : Verdicts) (right : AreVerdicts (edited s part) after) (sound : ListsFaults (edited s part) []) where
    reached_package : (p q : List ℕ) → Contains (package_paths (edited s part)) p → IsReached (edited s part) p q → Contains (package_paths (edited s part)) q
    reached_package p _ has start = has
    reached_package p q has (imported {r = r} closed imports) =
        imported_package (edited s part) after right r q (each_fine (edited s part) after right sound r (to_package (edited s part) p r closed)) imports

    same_reached : (p : List ℕ) → Contains (package_paths (edited s part)) p → HasSameReached (edited s part) (edited s w) p
    same_reached p has q reached e = (there q e, back q (reached_package p q has reached) e)

    pub kept_closure : (p : List ℕ) → Contains (package_paths (edited s part)) p → HasSameClosure (edited s part) (edited s w) p
    kept_closure p has = same_closure (edited s part) (edited s w) p (same_reached p has)
