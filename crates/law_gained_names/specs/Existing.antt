-- The edits of renames exist.
use Rattle.std.specs.Prelude.{ℕ, List}
use Rattle.base_files.specs.Workspace.{Workspace}
use Rattle.base_edits.specs.EditSet.{FileChanges}
use Rattle.base_edits.specs.Fits.{Fits}
use Rattle.workspace_check.specs.declared.findings.Findings.{Findings}
use Rattle.workspace_check.specs.Verdicts.{Verdicts}
use Rattle.refs_binding.specs.declared.declaration.Declaration.{Declaration}
use Rattle.refs_binding.specs.Workspaces.{IsFaultless, known_in}
use Rattle.refactor_rename.specs.RenameEdits.{AreRenameEdits}

-- Edits that give the declaration `d`, and all of the set, the name `name`, and that fit the workspace.
pub record HasRenameEdits (w : Workspace) (known : Verdicts) (d : Declaration) (set : List Declaration) (name : List ℕ) : Type 0 where
  pub changes : FileChanges
  pub edits : AreRenameEdits w known d set name changes
  pub fit : Fits changes w

-- In a workspace without faults there are such edits for each declaration, each set and each name.
abbrev pub RenameEditsExist : Type 0
RenameEditsExist = (w : Workspace) (found : Findings) → IsFaultless w found → (d : Declaration) (set : List Declaration) (name : List ℕ) →
    HasRenameEdits w (known_in found) d set name
