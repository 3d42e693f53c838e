-- The places of the declarations of packages, as the program lists them.
use Rattle.std.specs.Prelude.{ℕ, ◌≡◌, List, Option, Some, None, length, slice_get, slice_index_or, MatchOption}
use Rattle.std.specs.Borrow.{Bor}
use Rattle.base_files.specs.Packages.{package_paths}
use Rattle.base_files.specs.Workspace.{Workspace}
use Rattle.base_files.specs.declared.place.Place.{Place}
use Rattle.go_ast.specs.SourceFile.{SourceFile}
use Rattle.go_scope.specs.declared.model.Position.{Position}
use Rattle.types_declared.specs.Package.{Package}
use Rattle.workspace_check.specs.Verdicts.{Verdicts}
use Rattle.refs_binding.specs.declared.declaration.Declaration.{Declaration}
use Rattle.refs_binding.specs.Binding.{IsFieldAt, IsMethodAt}
use Rattle.refs_binding.specs.Workspaces.{IsPackageAt}
use Rattle.refs_binding.specs.DeclaringPlaces.{TokenBegins, TokenAt, IsScopeAt, HasDeclarationAt}
use Rattle.refs_places.specs.declared.declared_places.DeclaredPlaces.{DeclaredPlaces}

-- `found` satisfies `P`, or is `None` and nothing does.
abbrev pub IsChoice : {X : Type 0} → (X → Type 0) → Option X → Type 0
IsChoice {X} P found = MatchOption found ((x : X) → P x → ⊥) (λ x. P x)

-- `found`, a borrow, satisfies `P`, or is `None` and nothing does.
abbrev pub IsChoiceIn : {X : Type 0} → (X → Type 0) → Option (Bor X) → Type 0
IsChoiceIn {X} P found = MatchOption found ((x : X) → P x → ⊥) (λ x. P x.now)

-- The token at a position of the files begins at the place. False without a position.
abbrev pub TokenBeginsAt : List SourceFile → Option Position → Place → Type 0
TokenBeginsAt files None place = ⊥
TokenBeginsAt files (Some at) place = TokenBegins (slice_get files at.file) at.index place

-- `places` has for each position of a list the place of its token.
pub record ArePlacesOf (files : List SourceFile) (positions : List (Option Position)) (places : List (Option Place)) : Type 0 where
  pub size : length places ≡ length positions
  pub each : (k : ℕ) → IsChoice (TokenBeginsAt files (slice_index_or positions k None)) (slice_index_or places k None)

-- The token at a position of the package that satisfies `IsAt` begins at the place.
pub record IsPlacedBy (IsAt : Position → Type 0) (p : Package) (place : Place) : Type 0 where
  pub at : Position
  pub is_at : IsAt at
  pub begins : TokenAt p at place

-- `places` has for each rank the place of what has that rank, or `None` if nothing has.
abbrev pub AreRanked : ((rank : ℕ) → Position → Type 0) → Package → List (Option Place) → Type 0
AreRanked IsAt p places = (rank : ℕ) → IsChoice (IsPlacedBy (IsAt rank) p) (slice_index_or places rank None)

-- `places` are those of all declarations of a package.
pub record AreDeclaredIn (p : Package) (places : DeclaredPlaces) : Type 0 where
  pub names : AreRanked (IsScopeAt p) p places.names.items
  pub fields : AreRanked (IsFieldAt p) p places.fields.items
  pub methods : AreRanked (IsMethodAt p) p places.methods.items

-- `places` are those of all declarations of the package of the number `n`.
pub record AreDeclaredAt (w : Workspace) (known : Verdicts) (n : ℕ) (places : DeclaredPlaces) : Type 0 where
  pub inside : Package
  pub is_package : IsPackageAt w known n inside
  pub declared : AreDeclaredIn inside places

-- `all` has the places of the declarations of each of the first `count` packages.
pub record AreDeclaredBelow (w : Workspace) (known : Verdicts) (count : ℕ) (all : List DeclaredPlaces) : Type 0 where
  pub size : length all ≡ count
  pub each : (n : ℕ) (places : DeclaredPlaces) → slice_get all n ≡ Some places → AreDeclaredAt w known n places

-- `all` has the places of the declarations of each package.
abbrev pub AreAllPlaces : Workspace → Verdicts → List DeclaredPlaces → Type 0
AreAllPlaces w known all = AreDeclaredBelow w known (length (package_paths w)) all

-- `found` is the place of a declaration of the package.
abbrev pub IsPlaceIn : Package → Declaration → Option (Bor Place) → Type 0
IsPlaceIn p d found = IsChoiceIn (HasDeclarationAt p d) found
