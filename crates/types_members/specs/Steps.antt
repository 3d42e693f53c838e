-- The way from a type definition to its underlying type, one step at a time.
use Rattle.std.specs.Prelude.{ℕ, suc, ◌≡◌, ◌<◌, Bool, true, false, List, Option, Some, None, length, option_map, slice_get, slice_index_or}
use Rattle.std.specs.Global.{Vec}
use Rattle.go_ast.specs.Tree.{TypeTree, Other}
use Rattle.types_expr.specs.Types.{PlainType, Defined}
use Rattle.types_expr.specs.Types as types
use Rattle.types_expr.specs.declared.world.Underlying.{Underlying}
use Rattle.types_expr.specs.WorldView.{underlying_of}
use Rattle.types_members.specs.declared.underlying.NameStep.{NameStep}
use Rattle.types_members.specs.declared.underlying.NameStep.TheVariants.{Ends, Continues, Nothing}
use Rattle.types_declared.specs.Package.{Package, PlacedType, package_types, symbol_in}
use Rattle.types_declared.specs.Written.{DenotesType}
use Rattle.types_declared.specs.Definitions.{HasUnderlying}
use Rattle.types_declared.specs.Reachability.{LinksTo}

-- the definition from has as its body a type expression that names the definition to, as in `type A B`
pub record NamesDefinition (p : Package) (from to : ℕ) : Type 0 where
  pub definition : PlacedType
  pub has_rank : slice_get (package_types p) from ≡ Some definition
  pub tree : TypeTree
  pub written : definition.spec.body ≡ Other tree
  pub names : DenotesType p definition.file tree (Defined (symbol_in p to))

-- the step from the type t: to its underlying type, to the definition of the package that it is, or nowhere
abbrev pub IsStepFrom : Package → PlainType → NameStep → Type 0
IsStepFrom p t (Ends u) = HasUnderlying p t (underlying_of u)
IsStepFrom p t (Continues to) = (t ≡ Defined (symbol_in p to)) × (to < length (package_types p))
IsStepFrom p t Nothing = (u : types.Underlying) → HasUnderlying p t u → ⊥

-- the step from a definition whose body is this type expression
abbrev pub IsStepBy : Package → ℕ → TypeTree → NameStep → Type 0
IsStepBy p file tree (Ends u) = (t : PlainType) × (DenotesType p file tree t × HasUnderlying p t (underlying_of u))
IsStepBy p file tree (Continues to) = DenotesType p file tree (Defined (symbol_in p to)) × (to < length (package_types p))
IsStepBy p file tree Nothing = (t : PlainType) (u : types.Underlying) → DenotesType p file tree t → HasUnderlying p t u → ⊥

-- the step from the definition of this rank
abbrev pub IsStep : Package → ℕ → NameStep → Type 0
IsStep p rank (Ends u) = HasUnderlying p (Defined (symbol_in p rank)) (underlying_of u)
IsStep p rank (Continues to) = NamesDefinition p rank to × (to < length (package_types p))
IsStep p rank Nothing = (u : types.Underlying) → HasUnderlying p (Defined (symbol_in p rank)) u → ⊥

-- steps has the steps from the definitions of the package, by rank
pub record AreSteps (p : Package) (steps : List NameStep) : Type 0 where
  pub all : length steps ≡ length (package_types p)
  pub each : (rank : ℕ) (s : NameStep) → slice_get steps rank ≡ Some s → IsStep p rank s

-- the links lead exactly from each definition to those whose step continues to it
pub record AreStepLinks (steps : List NameStep) (links : List (Vec ℕ)) : Type 0 where
  pub size : length links ≡ suc (length steps)
  pub holds : (to rank : ℕ) → slice_get steps rank ≡ Some (Continues to) → LinksTo links to rank
  pub only : (to rank : ℕ) → LinksTo links to rank → slice_get steps rank ≡ Some (Continues to)

-- whether a step ends at an underlying type
abbrev pub is_last_step : NameStep → Bool
is_last_step (Ends u) = true
is_last_step (Continues to) = false
is_last_step Nothing = false

-- the order contains the definition of this rank
abbrev pub IsInOrder : List ℕ → ℕ → Type 0
IsInOrder order rank = (i : ℕ) × ((i < length order) × (slice_index_or order i 0 ≡ rank))

-- the step ends, or continues to a definition that comes before index i in the order
abbrev pub ComesAfterTarget : NameStep → List ℕ → ℕ → Type 0
ComesAfterTarget (Ends u) order i = Unit {0}
ComesAfterTarget (Continues to) order i = (j : ℕ) × ((j < i) × (slice_index_or order j 0 ≡ to))
ComesAfterTarget Nothing order i = ⊥

-- The order contains exactly the definitions from which steps lead to an end, each after the one that its step continues to.
pub record IsStepOrder (steps : List NameStep) (order : List ℕ) : Type 0 where
  pub each : (i : ℕ) → i < length order → (s : NameStep) × ((slice_get steps (slice_index_or order i 0) ≡ Some s) × ComesAfterTarget s order i)
  pub ends : (rank : ℕ) (u : Underlying) → slice_get steps rank ≡ Some (Ends u) → IsInOrder order rank
  pub continues : (rank to : ℕ) → slice_get steps rank ≡ Some (Continues to) → IsInOrder order to → IsInOrder order rank

-- the underlying type that a step leads to, by those already found
abbrev pub reached_type : NameStep → List (Option Underlying) → Option types.Underlying
reached_type (Ends u) found = Some (underlying_of u)
reached_type (Continues to) found = option_map underlying_of (slice_index_or found to None)
reached_type Nothing found = None

-- the underlying type that a step, if there is one, leads to, by those already found
abbrev pub reached_type_at : Option NameStep → List (Option Underlying) → Option types.Underlying
reached_type_at None found = None
reached_type_at (Some s) found = reached_type s found
