-- What `prepare` makes of an edit set.
use Rattle.std.specs.Prelude.{◌≡◌}
use Rattle.base_files.specs.Workspace.{Workspace}
use Rattle.base_edits.specs.EditSet.{FileChanges, edited}
use Rattle.base_edits.specs.Inverse.{IsInverse}
use Rattle.base_edits.specs.declared.prepared.Prepared.{Prepared}

-- `prepared` has the files after the edit set, and the inverse that leads back to the files before.
pub record IsPrepared (s : FileChanges) (before : Workspace) (prepared : Prepared) : Type 0 where
  pub made : prepared.files ≡ edited s before
  pub back : IsInverse prepared.inverse prepared.files before
