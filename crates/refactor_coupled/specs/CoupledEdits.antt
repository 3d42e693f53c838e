-- The edits that rename a declaration and what is renamed with it.
use Rattle.std.specs.Prelude.{ℕ, List}
use Rattle.base_files.specs.Workspace.{Workspace}
use Rattle.base_edits.specs.EditSet.{FileChanges}
use Rattle.workspace_check.specs.Verdicts.{Verdicts}
use Rattle.refs_binding.specs.declared.declaration.Declaration.{Declaration}
use Rattle.refs_binding.specs.Uses.{IsCheckedPackage}
use Rattle.refactor_rename.specs.RenameEdits.{AreRenameEdits}
use Rattle.refactor_coupled.specs.Coupling.{IsRenamedSet}

-- The edit set gives `d`, and what is renamed with it, the name `name`.
pub record AreCoupledEdits (w : Workspace) (known : Verdicts) (d : Declaration) (set : List Declaration) (name : List ℕ) (s : FileChanges) : Type 0 where
  pub is_set : IsRenamedSet (IsCheckedPackage w known) d set
  pub edits : AreRenameEdits w known d set name s
