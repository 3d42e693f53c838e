-- Edits of the part that leave each file at its path: no other file comes to a package of the edited part.
use Rattle.std.proofs.Common.{◌≡◌, ℕ, false, List, [], Option, None, Some, refl, sym, ap, subst, ◌∙◌}
use Rattle.std.specs.Prelude.{Contains}
use Rattle.std.specs.FinMap.{get}
use Rattle.std.proofs.lemmas.Option.{same_Some}
use Rattle.base_files.specs.Packages.{package_paths}
use Rattle.base_files.specs.Workspace.{Workspace}
use Rattle.base_edits.specs.EditSet.{FileChanges, change_of, edited, path_by}
use Rattle.base_edits.specs.Fits.{path_after, path_by_change}
use Rattle.base_edits.specs.declared.change.FileChange.{FileChange}
use Rattle.base_edits.specs.declared.change.Fate.TheVariants.{Stays}
use Rattle.base_edits.proofs.Changes.{change_found}
use Rattle.base_edits.proofs.FilesAfter.{gets}
use Rattle.workspace_check.specs.Verdicts.{Verdicts, AreVerdicts}
use Rattle.workspace_check.proofs.PackageFiles.{package_file}
use Rattle.refactor_part.specs.FaultlessPart.{faultless_part}
use Rattle.refactor_part.proofs.PartEdits.{AreApart, has_old}
use Rattle.refactor_part.proofs.PartFiles.{fine_package, same_package}
use Rattle.law_plans.proofs.EditedPart.{NoneComes, file_is, is_file, goes_on, part_apart, was_before}
use Rattle.law_plans.proofs.SoundAfter.{EachGoes}

module _ (s : FileChanges) (stay : (c : FileChange) → Contains s.changed c → c.fate ≡ Stays) where
  by_change : (old : List ℕ) (o : Option FileChange) → change_of s old ≡ o → path_by_change o old ≡ Some old
  by_change old None e = refl
  by_change old (Some c) e = ap (λ f. path_by f old) (stay c (change_found s.changed old c e).0)

  pub path_stays : (old : List ℕ) → path_after s old ≡ Some old
  path_stays old = by_change old (change_of s old) refl

  pub same_path : (old new : List ℕ) → path_after s old ≡ Some new → old ≡ new
  same_path old new goes = same_Some old new (sym (path_stays old) ∙ goes)

module _ (w : Workspace) (known : Verdicts) (s : FileChanges) (none : s.added ≡ []) (apart : AreApart s w)
    (stay : (c : FileChange) → Contains s.changed c → c.fate ≡ Stays) where
  abbrev part : Workspace
  part = faultless_part w known

  -- a package of the edited part is one of the part
  fine_there : (q : List ℕ) → Contains (package_paths (edited s part)) q → (known q).faulty ≡ false
  fine_there q has =
      let c = package_file (edited s part) q has in
      let e = c.0 in
      let file = file_is (edited s part) q e c.1 in
      let o = was_before part s none e.0 e.1 file.has in
      let at : o.0 ≡ e.0 = same_path s stay o.0 e.0 (gets s part e.0 e.1 o).1 in
      fine_package w known q (e.0, o.1) (is_file part q (e.0, o.1) (record {
        go = file.go;
        in_folder = file.in_folder;
        has = subst (λ p. get part p ≡ Some o.1) at o.2;
      }))

  pub none_comes_staying : NoneComes w known s none apart
  none_comes_staying q has e c =
      let file = file_is (edited s w) q e c in
      let o = was_before w s none e.0 e.1 file.has in
      let at : o.0 ≡ e.0 = same_path s stay o.0 e.0 (gets s w e.0 e.1 o).1 in
      let old = is_file w q (e.0, o.1) (record { go = file.go; in_folder = file.in_folder; has = subst (λ p. get w p ≡ Some o.1) at o.2 }) in
      let own = file_is part q (e.0, o.1) (subst (λ es. Contains es (e.0, o.1)) (sym (same_package w known q (fine_there q has))) old) in
      is_file (edited s part) q e (record {
        go = file.go;
        in_folder = file.in_folder;
        has = has_old s part none (part_apart w known s none apart) e.0 e.1 (o.0, o.1, subst (λ p. get part p ≡ Some o.1) (sym at) own.has, o.3);
      })

  pub each_goes_staying : (back : NoneComes w known s none apart) (right : AreVerdicts w known) → EachGoes w known right s none apart back
  each_goes_staying back right q e c offset = goes_on w known s none apart q e c e.0 (path_stays s stay e.0) (file_is part q e c).go offset
