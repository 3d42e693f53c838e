-- Fields and methods whose uses are listed together.
use Rattle.std.specs.Prelude.{ℕ, ◌≡◌, List, Option, Some, None, Contains, slice_index_or}
use Rattle.base_files.specs.Workspace.{Workspace}
use Rattle.base_files.specs.declared.place.Place.{Place}
use Rattle.go_scope.specs.declared.model.Position.{Position}
use Rattle.types_expr.specs.declared.symbol.Symbol.{Symbol}
use Rattle.types_declared.specs.Package.{Package}
use Rattle.workspace_check.specs.Verdicts.{Verdicts}
use Rattle.refs_binding.specs.declared.declaration.Declaration.{Declaration}
use Rattle.refs_binding.specs.declared.declaration.Declaration.TheVariants.{Predeclared, Declared, Field, Method}
use Rattle.refs_binding.specs.Binding.{IsFieldAt, IsMethodAt}
use Rattle.refs_binding.specs.Steps.{ArePlaces, AtFound}
use Rattle.refs_uses.specs.MemberNames.{IsNameFound}
use Rattle.refs_uses.specs.declared.own_names.NamePlaces.{NamePlaces}

-- `P` holds of one of the declarations and of the place.
pub record IsPlaceOfSome (set : List Declaration) (P : Declaration → Place → Type 0) (place : Place) : Type 0 where
  pub declaration : Declaration
  pub among : Contains set declaration
  pub holds : P declaration place

-- The declaration that was found is one of the set.
pub record IsBoundToSome (set : List Declaration) (found : Option Declaration) : Type 0 where
  pub declaration : Declaration
  pub among : Contains set declaration
  pub is_found : found ≡ Some declaration

-- If a name was found, for each of the declarations it is the only one that denotes it.
abbrev pub AllHaveName : Workspace → Verdicts → List Declaration → Option (List ℕ) → Type 0
AllHaveName w known set found = (d : Declaration) → Contains set d → IsNameFound w known d found

-- The declaration is a field or a method.
abbrev pub IsFieldOrMethod : Declaration → Type 0
IsFieldOrMethod (Predeclared n) = ⊥
IsFieldOrMethod (Declared path n) = ⊥
IsFieldOrMethod (Field s) = Unit {0}
IsFieldOrMethod (Method s) = Unit {0}

-- Each of the declarations is one.
abbrev pub AllAreMembers : List Declaration → Type 0
AllAreMembers set = (d : Declaration) → Contains set d → IsFieldOrMethod d

-- The lists have the places of the names of the package's fields and methods, by their ranks.
pub record AreNamePlaces (p : Package) (places : NamePlaces) : Type 0 where
  pub fields : ArePlaces (IsFieldAt p) places.fields.items
  pub methods : ArePlaces (IsMethodAt p) places.methods.items

-- The symbol is one of the package, and the identifier that a list has for its rank begins at the place.
abbrev pub IsListedName : Package → List (Option Position) → Symbol → Place → Type 0
IsListedName p places s place = (s.package ≡ p.path) × AtFound p (slice_index_or places s.rank None) place
