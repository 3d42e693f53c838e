-- A declaration that the identifier at a place is bound to.
use Rattle.base_files.specs.Workspace.{Workspace}
use Rattle.base_files.specs.declared.place.Place.{Place}
use Rattle.workspace_check.specs.Verdicts.{Verdicts}
use Rattle.refs_binding.specs.declared.declaration.Declaration.{Declaration}
use Rattle.refs_binding.specs.Uses.{IsUseOf}

-- An identifier at the place is bound to some declaration of which `P` holds.
pub record IsBoundToOne (w : Workspace) (known : Verdicts) (place : Place) (P : Declaration → Type 0) : Type 0 where
  pub declaration : Declaration
  pub is_use : IsUseOf w known declaration place
  pub holds : P declaration
