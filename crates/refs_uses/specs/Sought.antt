-- A declaration whose uses are listed.
use Rattle.base_files.specs.Workspace.{Workspace}
use Rattle.go_scope.specs.Named.{name_value}
use Rattle.workspace_check.specs.Verdicts.{Verdicts}
use Rattle.refs_binding.specs.Workspaces.{IsHome, IsExportedUnder}
use Rattle.refs_uses.specs.Importing.{AreImporting}
use Rattle.refs_uses.specs.MemberNames.{IsNameFound}
use Rattle.refs_uses.specs.declared.may_use.Sought.{Sought}

-- The names, the package number and the marks in `sought` are those of its declaration.
pub record IsSought (w : Workspace) (known : Verdicts) (sought : Sought) : Type 0 where
  pub name : IsExportedUnder w known sought.declaration.now (name_value sought.name)
  pub member : IsNameFound w known sought.declaration.now (name_value sought.member)
  pub home : IsHome w sought.declaration.now sought.home
  pub importing : AreImporting w sought.home sought.importing.now
