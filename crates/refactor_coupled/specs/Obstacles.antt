-- What stands against a rename: the first conflict, or the first interface whose implementing types would change.
use Rattle.std.specs.Prelude.{ℕ, ◌≡◌, ◌↔◌, Bool, Option, Some, None, slice_get}
use Rattle.std.specs.declared.cmp.Ordering.TheVariants.{Less}
use Rattle.base_files.specs.Workspace.{Workspace}
use Rattle.base_files.specs.declared.place.Place.{Place}
use Rattle.base_edits.specs.Revisions.{Revision}
use Rattle.types_expr.specs.declared.symbol.Symbol.{Symbol}
use Rattle.types_expr.specs.Types.{Defined, Interface}
use Rattle.types_expr.specs.World.{Definition, Implements}
use Rattle.types_declared.specs.Package.{Package, PlacedType, package_types, type_place, symbol_in}
use Rattle.types_declared.specs.Definitions.{HasUnderlying}
use Rattle.workspace_check.specs.Verdicts.{Verdicts}
use Rattle.refs_binding.specs.DeclaringPlaces.{TokenAt}
use Rattle.refs_binding.specs.Places.{place_cmp}
use Rattle.refs_binding.specs.Uses.{IsCheckedPackage}
use Rattle.refactor_conflict.specs.Conflicts.{IsConflict}
use Rattle.refactor_conflict.specs.Staying.{NoneIsLost, NoneIsLostBefore}
use Rattle.refactor_preserve.specs.Preserved.{Preserves}
use Rattle.refactor_coupled.specs.declared.obstacle.Obstacle.{Obstacle}
use Rattle.refactor_coupled.specs.declared.obstacle.Obstacle.TheVariants as obstacle
use Rattle.refactor_coupled.specs.Implementing.{AreAllDefinitions, IsTypeSymbol, TurnsImplementing}
use Rattle.refactor_coupled.specs.Coupling.{type_through}

-- The type definition with this name at the place has the interface as its underlying type, as `I` and `J` have in
--
--   type I interface { M() }
--   type J I
pub record IsInterfaceNamedAt (IsPackage : Package → Type 0) (interface : Symbol) (place : Place) : Type 0 where
  pub inside : Package
  pub is_package : IsPackage inside
  pub rank : ℕ
  pub definition : PlacedType
  pub has_rank : slice_get (package_types inside) rank ≡ Some definition
  pub underlying : HasUnderlying inside (Defined (symbol_in inside rank)) (Interface interface)
  pub at : TokenAt inside (type_place definition) place

-- The types that implement the interface of the type definition named at the place change.
pub record TurnsAt (w : Workspace) (known : Verdicts) (r : Revision) (place : Place) : Type 0 where
  pub interface : Symbol
  pub named : IsInterfaceNamedAt (IsCheckedPackage w known) interface place
  pub turns : TurnsImplementing (IsCheckedPackage w known) r interface

-- The same types implement the same interfaces after the change.
abbrev pub NoneChanges : Workspace → Verdicts → Revision → Type 0
NoneChanges w known r = (place : Place) → TurnsAt w known r place → ⊥

abbrev pub NoneChangesBefore : Workspace → Verdicts → Revision → Place → Type 0
NoneChangesBefore w known r end = (place : Place) → place_cmp place end ≡ Less → TurnsAt w known r place → ⊥

-- The change loses and captures no identifier, and the same types implement the same interfaces after it.
abbrev pub HasNoObstacle : Workspace → Verdicts → Revision → Type 0
HasNoObstacle w known r = NoneIsLost w known r × NoneChanges w known r

-- What stands against a change: the first identifier that it loses or captures, else the first interface whose implementing types it changes.
abbrev pub IsFirstObstacle : Workspace → Verdicts → Revision → Option Obstacle → Type 0
IsFirstObstacle w known r None = HasNoObstacle w known r
IsFirstObstacle w known r (Some (obstacle.Conflict c)) = IsConflict w known r c × NoneIsLostBefore w known r c.used
IsFirstObstacle w known r (Some (obstacle.Coupled place)) = NoneIsLost w known r × TurnsAt w known r place × NoneChangesBefore w known r place

-- What a preserving change keeps

-- The type definition at the symbol `s` of the workspace before the change has become that of the symbol `t`: its name is where that of `s`
-- moves.
pub record BecomesType (Before After : Package → Type 0) (moved : Place → Place) (s t : Symbol) : Type 0 where
  pub place : Place
  pub old : IsTypeSymbol Before s
  pub is_old : TokenAt old.inside (type_place old.definition) place
  pub new : IsTypeSymbol After t
  pub is_new : TokenAt new.inside (type_place new.definition) (moved place)

-- T, or `*T`, implements I before the change exactly where what T has become implements what I has become.
pub record KeepsImplementing (w : Workspace) (before : Verdicts) (r : Revision) (after : Verdicts) : Type 0 where
  pub old : Symbol → Definition
  pub are_old : AreAllDefinitions (IsCheckedPackage w before) old
  pub new : Symbol → Definition
  pub are_new : AreAllDefinitions (IsCheckedPackage r.after after) new
  pub keeps : (star : Bool) (s t i j : Symbol) → BecomesType (IsCheckedPackage w before) (IsCheckedPackage r.after after) r.moved s t →
      BecomesType (IsCheckedPackage w before) (IsCheckedPackage r.after after) r.moved i j →
      Implements old (type_through star s) i ↔ Implements new (type_through star t) j

-- The change preserves all bindings, and which types implement which interfaces.
pub record PreservesAll (w : Workspace) (r : Revision) : Type 0 where
  pub bindings : Preserves w r
  pub implementing : KeepsImplementing w bindings.before r bindings.after
