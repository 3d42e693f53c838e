-- The first conflict of a rename in the scopes of the declaring package, by its place.
use Rattle.std.specs.Prelude.{ℕ, ◌≡◌, ◌<◌, List, Option, Some, None}
use Rattle.base_files.specs.declared.place.Place.{Place}
use Rattle.go_scope.specs.Bindings.{Declares}
use Rattle.types_declared.specs.Package.{Package}
use Rattle.refs_binding.specs.Binding.{IsPredeclaredNumber}
use Rattle.refs_binding.specs.Identifiers.{BeginsAt}
use Rattle.refactor_conflict.specs.declared.conflict.Conflict.{Conflict}
use Rattle.refactor_scopes.specs.declared.outcomes.ScopeConflict.{ScopeConflict}
use Rattle.refactor_scopes.specs.Conflicts.{TellsConflict}
use Rattle.refactor_decide.specs.Capturers.{NamesEach}

-- `n` declares in the package `p`, is not predeclared, and has another name.
pub record CanRename (p : Package) (n : ℕ) (name : List ℕ) : Type 0 where
  pub within : n < p.size
  pub own : IsPredeclaredNumber n → ⊥
  pub declares : Declares p.layout p.names n
  pub other_name : p.names n ≡ name → ⊥

-- The conflict by number, by the place where its identifier begins; none where it begins nowhere.
abbrev pub IsConflictPlace : Package → ScopeConflict → Option Conflict → Type 0
IsConflictPlace p told None = (place : Place) → BeginsAt p place.path place.offset told.identifier → ⊥
IsConflictPlace p told (Some c) = BeginsAt p c.used.path c.used.offset told.identifier × NamesEach p told.by c.by

-- The first conflict that the scopes of the package tell, by its place, or none where there is none.
abbrev pub IsPlacedIfAny : Package → Option ScopeConflict → Option Conflict → Type 0
IsPlacedIfAny p None c = c ≡ None
IsPlacedIfAny p (Some told) c = IsConflictPlace p told c

-- The first conflict by number, and the same by its place.
pub record TellsOwn (p : Package) (n : ℕ) (name : List ℕ) (c : Option Conflict) : Type 0 where
  pub told : Option ScopeConflict
  pub first : TellsConflict p.layout p.names n name told
  pub placed : IsPlacedIfAny p told c
