-- The bound identifiers of a workspace, each with its declaration.
use Rattle.std.specs.Prelude.{ℕ, ◌↔◌, ◌⊎◌, List, Contains}
use Rattle.std.specs.List.Sorted.{IsSortedBy}
use Rattle.std.specs.Ordering.{is_lt}
use Rattle.base_files.specs.Workspace.{Workspace}
use Rattle.base_files.specs.declared.place.Place.{Place}
use Rattle.types_declared.specs.Package.{Package}
use Rattle.workspace_check.specs.Verdicts.{Verdicts}
use Rattle.refs_binding.specs.declared.bound_identifier.BoundIdentifier.{BoundIdentifier}
use Rattle.refs_binding.specs.declared.declaration.Declaration.{Declaration}
use Rattle.refs_binding.specs.declared.place_key.PlaceKey.{PlaceKey}
use Rattle.refs_binding.specs.Places.{place_cmp}
use Rattle.refs_binding.specs.Steps.{UsesIn, place_of}
use Rattle.refs_binding.specs.Uses.{IsUseOf, IsBoundToDeclaration}
use Rattle.refs_binding.specs.Workspaces.{IsPackageAt}

-- `new` holds the elements of `old` and those that satisfy `P`, and no others.
pub record AddsAll {X : Type 0} (old new : List X) (P : X → Type 0) : Type 0 where
  pub keeps : (x : X) → Contains old x → Contains new x
  pub holds : (x : X) → P x → Contains new x
  pub only : (x : X) → Contains new x → Contains old x ⊎ P x

-- A bound identifier, made of a declaration and a place.
abbrev pub bound_to : Declaration → PlaceKey → BoundIdentifier
bound_to d s = record { spot = s; declaration = d }

-- The place of a bound identifier.
abbrev pub bound_place : BoundIdentifier → Place
bound_place b = place_of b.spot

-- An identifier of the package begins at the place of `b`, and `K` relates it to the declaration of `b`.
abbrev pub BoundIn : Package → (ℕ → Declaration → Type 0) → BoundIdentifier → Type 0
BoundIn p K b = UsesIn p (λ u. K u b.declaration) (bound_place b)

-- `b` is a bound identifier of the package of this number.
pub record IsBoundInPackage (w : Workspace) (known : Verdicts) (number : ℕ) (b : BoundIdentifier) : Type 0 where
  pub used_in : Package
  pub is_package : IsPackageAt w known number used_in
  pub bound : BoundIn used_in (IsBoundToDeclaration w known used_in) b

-- `b` is a bound identifier of some package of the workspace.
abbrev pub IsBound : Workspace → Verdicts → BoundIdentifier → Type 0
IsBound w known b = IsUseOf w known b.declaration (bound_place b)

-- `b` is a bound identifier of a package whose number satisfies `IsOf`.
pub record IsBoundAmong (w : Workspace) (known : Verdicts) (IsOf : ℕ → Type 0) (b : BoundIdentifier) : Type 0 where
  pub number : ℕ
  pub is_of : IsOf number
  pub bound : IsBoundInPackage w known number b

-- The list holds just the bound identifiers of the workspace, sorted by place.
pub record AreBoundIdentifiers (w : Workspace) (known : Verdicts) (list : List BoundIdentifier) : Type 0 where
  pub in_order : IsSortedBy (λ a b. is_lt (place_cmp (bound_place a) (bound_place b))) list
  pub each : (b : BoundIdentifier) → Contains list b ↔ IsBound w known b

-- The list holds just the bound identifiers of the packages whose numbers satisfy `IsOf`, sorted by place.
pub record AreBindingsAmong (w : Workspace) (known : Verdicts) (IsOf : ℕ → Type 0) (list : List BoundIdentifier) : Type 0 where
  pub in_order : IsSortedBy (λ a b. is_lt (place_cmp (bound_place a) (bound_place b))) list
  pub each : (b : BoundIdentifier) → Contains list b ↔ IsBoundAmong w known IsOf b
