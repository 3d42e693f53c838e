-- Edits keep the closure of a package if they leave each file as it is that the closure reaches.
use Rattle.std.proofs.Common.{◌≡◌, ℕ, true, List, [], Some, sym, ap, subst, ◌∙◌}
use Rattle.std.specs.Prelude.{Contains}
use Rattle.std.specs.FinMap.{get}
use Rattle.std.proofs.lemmas.Option.{same_Some}
use Rattle.base_files.specs.Packages.{is_go, package_paths, package_files}
use Rattle.base_files.specs.Path.{folder}
use Rattle.base_files.specs.Workspace.{Workspace}
use Rattle.base_edits.specs.EditSet.{FileChanges, file_after, edited}
use Rattle.workspace_graph.specs.Packages.{IsInClosure, itself, through}
use Rattle.workspace_check.specs.Closures.{HasSameClosure}
use Rattle.workspace_check.proofs.Closed.{in_closure_then}
use Rattle.refs_lookup.specs.Reached.{IsReached, start, imported, HasSameReached}
use Rattle.refs_lookup.proofs.Reached.{same_closure}
use Rattle.refactor_part.proofs.PartEdits.{AreApart, has_old}
use Rattle.law_plans.proofs.EditedPart.{file_is, is_file, was_before}

-- a package that is reached is in the closure
pub reached_closed : (w : Workspace) (p q : List ℕ) → IsReached w p q → Contains (package_paths w) q → IsInClosure w p q
reached_closed w p _ start has = itself has
reached_closed w p q (imported {r = r} c i) has = in_closure_then w p r q c (through i (itself has))

-- Each Go file of the folder keeps its path and text.
abbrev pub StaysWhole : Workspace → FileChanges → (q : List ℕ) → Type 0
StaysWhole w s q = (path text : List ℕ) → get w path ≡ Some text → folder path ≡ q → is_go path ≡ true → file_after s (path, text) ≡ Some (path, text)

-- A Go file that comes to the folder was there.
abbrev pub NoneComesTo : Workspace → FileChanges → (q : List ℕ) → Type 0
NoneComesTo w s q = (old before path text : List ℕ) → get w old ≡ Some before → file_after s (old, before) ≡ Some (path, text) → folder path ≡ q →
    is_go path ≡ true → old ≡ path

module _ (w : Workspace) (s : FileChanges) (none : s.added ≡ []) (apart : AreApart s w) (p : List ℕ)
    (stay : (q : List ℕ) → IsReached w p q → StaysWhole w s q) (none_comes : (q : List ℕ) → IsReached w p q → NoneComesTo w s q) where
  kept_file : (q : List ℕ) → IsReached w p q → (e : List ℕ × List ℕ) → Contains (package_files w q) e → Contains (package_files (edited s w) q) e
  kept_file q r e c =
      let file = file_is w q e c in
      is_file (edited s w) q e (record {
        go = file.go;
        in_folder = file.in_folder;
        has = has_old s w none apart e.0 e.1 (e.0, e.1, file.has, stay q r e.0 e.1 file.has file.in_folder file.go);
      })

  old_file : (q : List ℕ) → IsReached w p q → (e : List ℕ × List ℕ) → Contains (package_files (edited s w) q) e → Contains (package_files w q) e
  old_file q r e c =
      let file = file_is (edited s w) q e c in
      let o = was_before w s none e.0 e.1 file.has in
      let at : o.0 ≡ e.0 = none_comes q r o.0 o.1 e.0 e.1 o.2 o.3 file.in_folder file.go in
      let old : get w e.0 ≡ Some o.1 = subst (λ x. get w x ≡ Some o.1) at o.2 in
      let whole = stay q r e.0 o.1 old file.in_folder file.go in
      let made : file_after s (e.0, o.1) ≡ Some (e.0, e.1) = subst (λ x. file_after s (x, o.1) ≡ Some (e.0, e.1)) at o.3 in
      let text : o.1 ≡ e.1 = ap (λ (d : List ℕ × List ℕ). d.1) (same_Some (e.0, o.1) (e.0, e.1) (sym whole ∙ made)) in
      is_file w q e (record { go = file.go; in_folder = file.in_folder; has = subst (λ t. get w e.0 ≡ Some t) text old })

  same_reached : HasSameReached w (edited s w) p
  same_reached q r e = (kept_file q r e, old_file q r e)

  pub keeps_closure : HasSameClosure w (edited s w) p
  keeps_closure = same_closure w (edited s w) p same_reached
