-- The first interface whose implementing types a rename changes, by lookups under its two names.
use Rattle.std.specs.Prelude.{ℕ, ◌≡◌, ◌⊎◌, ◌↔◌, Bool, true, false, List, Option, Some, None, option_map, slice_get, ⊤}
use Rattle.std.specs.declared.cmp.Ordering.TheVariants.{Less}
use Rattle.base_files.specs.declared.place.Place.{Place}
use Rattle.go_ast.specs.SourceFile.{SourceFile}
use Rattle.types_expr.specs.declared.symbol.Symbol.{Symbol}
use Rattle.types_expr.specs.declared.world.Definitions.{Definitions}
use Rattle.types_expr.specs.Types.{PlainType}
use Rattle.types_expr.specs.World.{Definition, Implements}
use Rattle.types_declared.specs.Package.{Package, declared_types, type_place}
use Rattle.refs_binding.specs.DeclaringPlaces.{InPackage}
use Rattle.refs_binding.specs.Places.{place_cmp}
use Rattle.refs_binding.specs.Uses.{IsCheckedPackage}
use Rattle.refs_binding.specs.WorkspaceFindings.{WorkspaceFindings}
use Rattle.refs_binding.specs.Workspaces.{known_in}
use Rattle.refs_places.specs.DeclaredPlaces.{TokenBeginsAt}
use Rattle.refactor_coupled.specs.Implementing.{MayHaveMethods}
use Rattle.refactor_coupled.specs.Obstacles.{IsInterfaceNamedAt}
use Rattle.refactor_coupled.specs.RenamedTypes.{SetRename, moves_received, moves_written, renamed_definitions}
use Rattle.refactor_coupled.specs.RenamedTypesView.{any_turns, definitions_in, interface_of, rename_of, types_of}
use Rattle.refactor_coupled.specs.declared.renamed_types.RenamedTypes.{RenamedTypes}

-- Between the two, some types begin or cease to implement the interface of the type definition that is named at the place.
pub record TurnsBetween (IsPackage : Package → Type 0) (before after : Symbol → Definition) (place : Place) : Type 0 where
  pub interface : Symbol
  pub named : IsInterfaceNamedAt IsPackage interface place
  pub of : PlainType
  pub may_have : MayHaveMethods IsPackage of
  pub turned : ¬ (Implements before of interface ↔ Implements after of interface)

-- The rename does so in the workspace.
abbrev pub TurnsUnder : WorkspaceFindings → SetRename → Place → Type 0
TurnsUnder w r place = TurnsBetween (IsCheckedPackage w.graph (known_in w.findings)) (definitions_in (types_of w)) (renamed_definitions r (definitions_in
    (types_of w))) place

-- The first place of which that is so, or `None` where there is none.
abbrev pub IsFirstTurn : WorkspaceFindings → SetRename → Option Place → Type 0
IsFirstTurn w r None = (place : Place) → TurnsUnder w r place → ⊥
IsFirstTurn w r (Some place) = TurnsUnder w r place × ((other : Place) → place_cmp other place ≡ Less → TurnsUnder w r other → ⊥)

-- No definition of which the rename moves a member has one of the new name. So it is where the rename loses and captures nothing.
pub record NamesAreFree (definition : Symbol → Definition) (r : SetRename) : Type 0 where
  pub fields : (s : Symbol) → moves_written r (definition s) ≡ true → (definition s).field r.new ≡ None
  pub methods : (s : Symbol) → moves_received r (definition s) ≡ true → (definition s).method r.new ≡ None

-- Then this is what is told.
abbrev pub TellsFirstTurn : WorkspaceFindings → SetRename → Option Place → Type 0
TellsFirstTurn w r told = NamesAreFree (definitions_in (types_of w)) r → IsFirstTurn w r told

-- How it is found

-- whether the rename turns an interface for a type of the list, if there is an interface
abbrev pub turns_if : Definitions → SetRename → (called : List Symbol) → (interface : Option Symbol) → Bool
turns_if ds r called None = false
turns_if ds r called (Some interface) = any_turns ds r called interface

-- whether it does so to the interface that is the underlying type of a type definition
abbrev pub named_turns : Definitions → SetRename → (called : List Symbol) → (named : Symbol) → Bool
named_turns ds r called named = turns_if ds r called (interface_of (definitions_in ds named).underlying)

-- The name of the type definition of this rank in the files begins at the place.
abbrev pub IsTypeNameIn : List SourceFile → (rank : ℕ) → Place → Type 0
IsTypeNameIn files rank place = TokenBeginsAt files (option_map type_place (slice_get (declared_types files) rank)) place

-- The name of the type definition of this symbol begins at the place.
abbrev pub IsTypeNameAt : (Package → Type 0) → Symbol → Place → Type 0
IsTypeNameAt IsPackage s place = InPackage IsPackage s.package (λ p. IsTypeNameIn p.files s.rank place)

-- The place comes before the first one that was found, or none was found.
abbrev pub IsBeforeFirst : Place → Option Place → Type 0
IsBeforeFirst place None = ⊤
IsBeforeFirst place (Some first) = place_cmp place first ≡ Less

-- The first place found so far stays, or becomes an earlier one of which `P` holds. `P` holds of no place before it.
pub record KeepsFirstOf (P : Place → Type 0) (old new : Option Place) : Type 0 where
  pub from : (place : Place) → new ≡ Some place → (old ≡ Some place) ⊎ P place
  pub none_before : (place : Place) → P place → IsBeforeFirst place new → ⊥
  pub kept : (place : Place) → IsBeforeFirst place new → IsBeforeFirst place old

abbrev pub KeepsFirst : Place → (old new : Option Place) → Type 0
KeepsFirst place old new = KeepsFirstOf (λ other. other ≡ place) old new

abbrev pub KeepsFound : (found old new : Option Place) → Type 0
KeepsFound found old new = KeepsFirstOf (λ place. found ≡ Some place) old new

-- The place is that of the name of a type definition whose interface turns.
pub record IsTurnedName (w : WorkspaceFindings) (t : RenamedTypes) (called : List Symbol) (named : Symbol) (place : Place) : Type 0 where
  pub turns : named_turns t.types.now (rename_of t.rename) called named ≡ true
  pub at : IsTypeNameAt (IsCheckedPackage w.graph (known_in w.findings)) named place

abbrev pub KeepsTurned : WorkspaceFindings → RenamedTypes → (called : List Symbol) → (named : Symbol) → (old new : Option Place) → Type 0
KeepsTurned w t called named old new = KeepsFirstOf (IsTurnedName w t called named) old new
