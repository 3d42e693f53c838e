-- A rename leaves each file at its path.
use Rattle.std.proofs.Common.{ℕ, ◌≡◌, List, Option, Some, None, ap, refl}
use Rattle.std.specs.Prelude.{unwrap_or}
use Rattle.base_files.specs.Workspace.{Workspace}
use Rattle.base_files.specs.declared.place.Place.{Place}
use Rattle.base_edits.specs.EditSet.{FileChanges, change_of, path_by}
use Rattle.base_edits.specs.Fits.{path_by_change}
use Rattle.base_edits.specs.RevisionsOfEdits.{revision_of}
use Rattle.base_edits.specs.declared.change.FileChange.{FileChange}
use Rattle.base_edits.specs.declared.change.Fate.{Fate}
use Rattle.base_edits.specs.declared.change.Fate.TheVariants.{Stays as InPlace}
use Rattle.base_edits.proofs.Changes.{change_found}
use Rattle.workspace_check.specs.Verdicts.{Verdicts}
use Rattle.refs_binding.specs.declared.declaration.Declaration.{Declaration}
use Rattle.law_renamed_workspaces.specs.Renames.{IsRename}

by_stays : (f : Fate) (path : List ℕ) → f ≡ InPlace → unwrap_or (path_by f path) path ≡ path
by_stays f path e = ap (λ g. unwrap_or (path_by g path) path) e

module _ (w : Workspace) (known : Verdicts) (d : Declaration) (name : List ℕ) (s : FileChanges) (rename : IsRename w known d name s) where
  by_change : (path : List ℕ) (o : Option FileChange) → change_of s path ≡ o → unwrap_or (path_by_change o path) path ≡ path
  by_change path None e = refl
  by_change path (Some c) e = by_stays c.fate path (rename.edits.edits.only c (change_found s.changed path c e).0).stays

  pub keeps_path : (place : Place) → ((revision_of w s).moved place).path ≡ place.path
  keeps_path place = by_change place.path (change_of s place.path) refl
