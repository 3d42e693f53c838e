-- What the steps of `uses` answer for one package.
use Rattle.std.specs.Prelude.{ℕ, ◌≡◌, ◌⊎◌, ◌↔◌, List, Contains, Option, Some, None, slice_index_or, MatchOption}
use Rattle.base_files.specs.declared.place.Place.{Place}
use Rattle.go_scope.specs.declared.model.Position.{Position}
use Rattle.go_scope.specs.Bindings.{IsBoundTo}
use Rattle.go_scope.specs.Table.{LiesAt}
use Rattle.types_declared.specs.Package.{Package}
use Rattle.types_check.specs.Exports.{DoesExport}
use Rattle.refs_binding.specs.declared.declaration.Declaration.{Declaration}
use Rattle.refs_binding.specs.declared.declaration.Declaration.TheVariants.{Predeclared, Declared, Field, Method}
use Rattle.refs_binding.specs.declared.place_key.PlaceKey.{PlaceKey}
use Rattle.types_info.specs.QualifiedIdentifiers.{IsQualifiedByPath}
use Rattle.refs_binding.specs.Binding.{BindsByScope, BindsByMember, DeclaresMember, IsNameOf, IsFieldAt, IsMethodAt}
use Rattle.refs_binding.specs.Identifiers.{BeginsAt}

-- The place of a `PlaceKey`.
abbrev pub place_of : PlaceKey → Place
place_of s = record { path = s.path; offset = s.offset }

-- `new` holds the places of `old` and those that satisfy `P`, and no others.
pub record AddsPlaces (old new : List PlaceKey) (P : Place → Type 0) : Type 0 where
  pub keeps : (s : PlaceKey) → Contains old s → Contains new s
  pub holds : (s : PlaceKey) → P (place_of s) → Contains new s
  pub only : (s : PlaceKey) → Contains new s → Contains old s ⊎ P (place_of s)

-- An identifier that satisfies `K` begins at the place.
abbrev pub UsesIn : Package → (ℕ → Type 0) → Place → Type 0
UsesIn p K place = (u : ℕ) × (BeginsAt p place.path place.offset u × K u)

-- The identifier at this position begins at the place.
abbrev pub AtToken : Package → Position → Place → Type 0
AtToken p at = UsesIn p (LiesAt p.layout at)

-- The identifier at the position that was found begins at the place. False if none was found.
abbrev pub AtFound : Package → Option Position → Place → Type 0
AtFound p None place = ⊥
AtFound p (Some at) place = AtToken p at place

-- The declaration that was found satisfies `K`; if none was found, no declaration does.
abbrev pub IsDeclarationResult : (Declaration → Type 0) → Option Declaration → Type 0
IsDeclarationResult K found = MatchOption found ((d : Declaration) → K d → ⊥) (λ d. K d)

-- The number of a declaration in the table of a package, or `None` if the package's scopes bind no identifier to it.
abbrev pub IsNumberOf : Package → Declaration → Option ℕ → Type 0
IsNumberOf p d number =
    MatchOption number ((u : ℕ) → BindsByScope p u d → ⊥) (λ n. (u : ℕ) → BindsByScope p u d ↔ IsBoundTo p.layout p.names u n)

-- The name under which the package exports its declaration `d`, or `None` if it does not.
abbrev pub IsExportedBy : Package → ℕ → Option (List ℕ) → Type 0
IsExportedBy p d name = MatchOption name (DoesExport p d → ⊥) (λ n. DoesExport p d × (p.names d ≡ n))

-- `u` is `N` in a qualified identifier `q.N`, where `q` names the package of the declaration, which exports it under the name `N`.
abbrev pub QualifiesAs : Package → Declaration → Option (List ℕ) → ℕ → Type 0
QualifiesAs p d None u = ⊥
QualifiesAs p (Predeclared n) (Some name) u = ⊥
QualifiesAs p (Declared path n) (Some name) u = IsQualifiedByPath p u path × (p.names u ≡ name)
QualifiesAs p (Field s) (Some name) u = ⊥
QualifiesAs p (Method s) (Some name) u = ⊥

-- The position of the name of the member of each rank, or `None` if no such member counts.
abbrev pub ArePlaces : ((rank : ℕ) → Position → Type 0) → List (Option Position) → Type 0
ArePlaces IsAt places = (rank : ℕ) → MatchOption (slice_index_or places rank None) ((at : Position) → IsAt rank at → ⊥) (λ at. IsAt rank at)

-- `u` is the declaring identifier of a field of the package.
abbrev pub DeclaresField : Package → ℕ → Declaration → Type 0
DeclaresField p u (Predeclared n) = ⊥
DeclaresField p u (Declared path n) = ⊥
DeclaresField p u (Field s) = (s.package ≡ p.path) × IsNameOf (IsFieldAt p) p u s.rank
DeclaresField p u (Method s) = ⊥

-- `u` is the declaring identifier of a method of the package.
abbrev pub DeclaresMethod : Package → ℕ → Declaration → Type 0
DeclaresMethod p u (Predeclared n) = ⊥
DeclaresMethod p u (Declared path n) = ⊥
DeclaresMethod p u (Field s) = ⊥
DeclaresMethod p u (Method s) = (s.package ≡ p.path) × IsNameOf (IsMethodAt p) p u s.rank

-- `u` is bound to the declaration `d`, as far as one package shows it. `name` is the name under which `d` is exported, if it is.
pub data BindsIn (p : Package) (d : Declaration) (name : Option (List ℕ)) (u : ℕ) : Type 0 where
  by_scope : BindsByScope p u d → BindsIn p d name u
  by_package : QualifiesAs p d name u → BindsIn p d name u
  by_member : BindsByMember p u d → BindsIn p d name u
  by_name : DeclaresMember p u d → BindsIn p d name u
