-- The places of the identifiers of a workspace.
use Rattle.std.specs.Prelude.{ℕ}
use Rattle.base_files.specs.Workspace.{Workspace}
use Rattle.base_files.specs.declared.place.Place.{Place}
use Rattle.types_declared.specs.Package.{Package}
use Rattle.workspace_check.specs.Verdicts.{Verdicts}
use Rattle.refs_binding.specs.Identifiers.{BeginsAt}
use Rattle.refs_binding.specs.Uses.{IsCheckedPackage}

-- An identifier of some package begins at the place. It is no import's path literal.
pub record IsIdentifierAt (w : Workspace) (known : Verdicts) (place : Place) : Type 0 where
  pub used_in : Package
  pub is_package : IsCheckedPackage w known used_in
  pub user : ℕ
  pub begins : BeginsAt used_in place.path place.offset user
