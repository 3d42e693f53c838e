-- The uses of several declarations, such as the methods that a rename gives one name.
use Rattle.std.specs.Prelude.{◌↔◌, List, Contains}
use Rattle.std.specs.List.Sorted.{IsStrictlySortedBy}
use Rattle.base_files.specs.Workspace.{Workspace}
use Rattle.base_files.specs.declared.place.Place.{Place}
use Rattle.workspace_check.specs.Verdicts.{Verdicts}
use Rattle.refs_binding.specs.declared.declaration.Declaration.{Declaration}
use Rattle.refs_binding.specs.Places.{place_cmp}
use Rattle.refs_binding.specs.Uses.{IsUseOf}

-- An identifier at the place is bound to one of the declarations.
pub record IsUseOfSome (w : Workspace) (known : Verdicts) (set : List Declaration) (place : Place) : Type 0 where
  pub declaration : Declaration
  pub among : Contains set declaration
  pub is_use : IsUseOf w known declaration place

-- The places are exactly those of the identifiers that are bound to one of the declarations, in order.
pub record ListsUsesOfEach (w : Workspace) (known : Verdicts) (set : List Declaration) (places : List Place) : Type 0 where
  pub in_order : IsStrictlySortedBy place_cmp places
  pub each : (place : Place) → Contains places place ↔ IsUseOfSome w known set place
