-- The underlying types of a package's definitions, and the fields and methods that count, as the program has them.
use Rattle.std.specs.Prelude.{ℕ, ◌≡◌, ◌<◌, ◌↔◌, Bool, List, Option, None, length, option_map, slice_index_or, MatchOption}
use Rattle.types_expr.specs.Types.{Defined}
use Rattle.types_expr.specs.Types as types
use Rattle.types_expr.specs.declared.world.Underlying.{Underlying}
use Rattle.types_expr.specs.WorldView.{underlying_of}
use Rattle.types_declared.specs.Package.{Package, PlacedFunction, package_types, package_functions, symbol_in}
use Rattle.types_declared.specs.Definitions.{HasUnderlying, PlacedField, package_fields, IsCountingField, IsMethodOf, IsCountingMethod}
use Rattle.types_declared.specs.Reachability.{HasMark}

-- found is the underlying type of the definition of this rank, or none where it has none
abbrev pub IsUnderlyingFound : Package → ℕ → Option types.Underlying → Type 0
IsUnderlyingFound p rank found =
    MatchOption found ((u : types.Underlying) → HasUnderlying p (Defined (symbol_in p rank)) u → ⊥) (λ u. HasUnderlying p (Defined (symbol_in p rank)) u)

-- found has the underlying type of each definition of the package, by rank
pub record AreUnderlying (p : Package) (found : List (Option Underlying)) : Type 0 where
  pub all : length found ≡ length (package_types p)
  pub each : (rank : ℕ) → rank < length (package_types p) → IsUnderlyingFound p rank (option_map underlying_of (slice_index_or found rank None))

-- the field of this rank counts
pub record CountsAsField (p : Package) (rank : ℕ) : Type 0 where
  pub definition : ℕ
  pub name : List ℕ
  pub field : PlacedField
  pub counting : IsCountingField p definition name rank field

-- the list marks exactly the fields of the package that count, by rank
pub record AreCountingFields (p : Package) (marks : List Bool) : Type 0 where
  pub all : length marks ≡ length (package_fields p)
  pub each : (rank : ℕ) → rank < length (package_fields p) → HasMark marks rank ↔ CountsAsField p rank

-- the function of this rank is a method of the definition
pub record IsMethodOn (p : Package) (rank definition : ℕ) : Type 0 where
  pub name : List ℕ
  pub method : PlacedFunction
  pub is_method : IsMethodOf p definition name rank method

-- owners has for each function of the package the definition of which it is a method, or none
pub record AreOwners (p : Package) (owners : List (Option ℕ)) : Type 0 where
  pub all : length owners ≡ length (package_functions p)
  pub each : (rank : ℕ) → rank < length (package_functions p) →
      MatchOption (slice_index_or owners rank None) ((d : ℕ) → IsMethodOn p rank d → ⊥) (λ d. IsMethodOn p rank d)

-- the function of this rank is a method that counts
pub record CountsAsMethod (p : Package) (rank : ℕ) : Type 0 where
  pub definition : ℕ
  pub name : List ℕ
  pub method : PlacedFunction
  pub counting : IsCountingMethod p definition name rank method

-- the list marks exactly the functions of the package that are methods that count, by rank
pub record AreCountingMethods (p : Package) (marks : List Bool) : Type 0 where
  pub all : length marks ≡ length (package_functions p)
  pub each : (rank : ℕ) → rank < length (package_functions p) → HasMark marks rank ↔ CountsAsMethod p rank
