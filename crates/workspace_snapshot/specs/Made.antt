-- Changes whose files are what their edit sets make of the base.
use Rattle.std.specs.Prelude.{◌≡◌}
use Rattle.base_edits.specs.EditSet.{edited}
use Rattle.base_edits.specs.Fits.{Fits}
use Rattle.workspace_snapshot.specs.declared.change.Change.{Change}

-- The edit set of the change fits its base, and makes of the base the files of the change.
pub record IsMadeByEdits (change : Change) : Type 0 where
  pub fits : Fits change.edits change.base
  pub files : change.files ≡ edited change.edits change.base
