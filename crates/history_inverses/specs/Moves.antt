-- How a history moves the files of a workspace.
use Rattle.std.specs.Prelude.{◌≡◌}
use Rattle.base_files.specs.Workspace.{Workspace}
use Rattle.base_edits.specs.EditSet.{FileChanges, edited}
use Rattle.base_edits.specs.Inverse.{IsInverse}
use Rattle.history_inverses.specs.Inverses.{Inverses, StepsBack, StepsForth}

-- the nearest inverse behind makes the new files, and the one that is then the nearest ahead leads from them to the old files
pub record MovesBack (old : Inverses) (before : Workspace) (new : Inverses) (after : Workspace) : Type 0 where
  pub redo : FileChanges
  pub steps : StepsBack old redo new
  pub files : after ≡ edited steps.way before
  pub forth : IsInverse redo after before

-- the nearest inverse ahead makes the new files, and the one that is then the nearest behind leads from them to the old files
pub record MovesForth (old : Inverses) (before : Workspace) (new : Inverses) (after : Workspace) : Type 0 where
  pub undo : FileChanges
  pub steps : StepsForth old undo new
  pub files : after ≡ edited steps.way before
  pub back : IsInverse undo after before
