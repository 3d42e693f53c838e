-- The type definitions of a workspace before a change, and under the names that a change gives their members. IsPackage: the packages of the
-- workspace before the change.
use Rattle.std.specs.Prelude.{ℕ, ◌≡◌, ◌↔◌, List, Option, Some, None, slice_get}
use Rattle.types_expr.specs.declared.symbol.Symbol.{Symbol}
use Rattle.types_expr.specs.Types.{PlainType, Defined, Pointer, WrittenAs}
use Rattle.types_expr.specs.World.{Definition, Field, Method, Implements}
use Rattle.types_expr.specs.WorldView.{no_definition}
use Rattle.types_declared.specs.Laid.{is_exported}
use Rattle.types_declared.specs.Package.{Package, PlacedType, package_types, symbol_in}
use Rattle.types_declared.specs.Definitions.{IsDefinition, IsUnderlyingOf, IsFoundSignature, HasForm, is_on_pointer}
use Rattle.base_edits.specs.Revisions.{Revision}
use Rattle.refactor_conflict.specs.MembersAfter.{IsFirstField, IsFirstMethod}

-- The symbol is that of a type definition of the workspace.
pub record IsTypeSymbol (IsPackage : Package → Type 0) (s : Symbol) : Type 0 where
  pub inside : Package
  pub is_package : IsPackage inside
  pub rank : ℕ
  pub definition : PlacedType
  pub has_rank : slice_get (package_types inside) rank ≡ Some definition
  pub is_symbol : s ≡ symbol_in inside rank

-- The function gives for each symbol of a type definition one of which `K` holds, and for each other symbol no definition.
pub record GiveEach (IsPackage : Package → Type 0) (K : Package → (rank : ℕ) → Definition → Type 0) (definition : Symbol → Definition) : Type 0 where
  pub each : (p : Package) → IsPackage p → (rank : ℕ) (d : PlacedType) → slice_get (package_types p) rank ≡ Some d → K p rank (definition (symbol_in p rank))
  pub others : (s : Symbol) → (IsTypeSymbol IsPackage s → ⊥) → definition s ≡ no_definition s

-- The function gives each type definition of each package, whether or not the packages import each other.
abbrev pub AreAllDefinitions : (Package → Type 0) → (Symbol → Definition) → Type 0
AreAllDefinitions IsPackage definition = GiveEach IsPackage IsDefinition definition

-- After the change

-- What the definition writes under this name after the change: a field, or a method that an interface asks for. Types stay, and of two of one
-- name the first counts.
abbrev pub IsWrittenAfter : Revision → Package → (definition : ℕ) → (name : List ℕ) → Option Field → Type 0
IsWrittenAfter r p definition name None = (rank : ℕ) (first : IsFirstField r p definition name rank) (form : WrittenAs) →
    HasForm p first.has.field.file first.has.field.form form → ⊥
IsWrittenAfter r p definition name (Some x) = (first : IsFirstField r p definition name x.symbol.rank) ×
    (HasForm p first.has.field.file first.has.field.form x.form × (x.symbol ≡ symbol_in p x.symbol.rank) × (x.exported ≡ is_exported name))

-- The method of the definition that counts under this name after the change.
abbrev pub IsMethodFoundAfter : (Package → Type 0) → Revision → Package → (definition : ℕ) → (name : List ℕ) → Option Method → Type 0
IsMethodFoundAfter IsPackage r p definition name None = (rank : ℕ) → IsFirstMethod IsPackage r p definition name rank → ⊥
IsMethodFoundAfter IsPackage r p definition name (Some x) = (first : IsFirstMethod IsPackage r p definition name x.symbol.rank) ×
    (IsFoundSignature p first.has.has.method x.signature × (x.on_pointer ≡ is_on_pointer first.has.has.of_type.receiver)
    × (x.symbol ≡ symbol_in p x.symbol.rank) × (x.exported ≡ is_exported name))

-- `d` is the type definition of this rank after the change: its underlying type stays, and its members have their new names.
pub record HasMembersAfter (IsPackage : Package → Type 0) (r : Revision) (p : Package) (rank : ℕ) (d : Definition) : Type 0 where
  pub underlying : IsUnderlyingOf p rank d.underlying
  pub written : (name : List ℕ) → IsWrittenAfter r p rank name (d.field name)
  pub methods : (name : List ℕ) → IsMethodFoundAfter IsPackage r p rank name (d.method name)

-- The function gives each type definition as it is after the change.
abbrev pub AreDefinitionsAfter : (Package → Type 0) → Revision → (Symbol → Definition) → Type 0
AreDefinitionsAfter IsPackage r definition = GiveEach IsPackage (HasMembersAfter IsPackage r) definition

-- Types with methods

-- The type is T or `*T`, where T is a type definition of the workspace. No other type has methods.
pub data MayHaveMethods (IsPackage : Package → Type 0) : PlainType → Type 0 where
  value : {s : Symbol} → IsTypeSymbol IsPackage s → MayHaveMethods IsPackage (Defined s)
  behind_star : {s : Symbol} → IsTypeSymbol IsPackage s → MayHaveMethods IsPackage (Pointer (Defined s))

-- The change makes T or `*T`, for some T, implement the interface that it didn't, or no longer implement it.
pub record TurnsImplementing (IsPackage : Package → Type 0) (r : Revision) (interface : Symbol) : Type 0 where
  pub before : Symbol → Definition
  pub are_before : AreAllDefinitions IsPackage before
  pub after : Symbol → Definition
  pub are_after : AreDefinitionsAfter IsPackage r after
  pub of : PlainType
  pub may_have : MayHaveMethods IsPackage of
  pub turned : ¬ (Implements before of interface ↔ Implements after of interface)
