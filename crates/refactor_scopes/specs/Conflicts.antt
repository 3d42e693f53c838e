-- The conflicts of a rename in the scopes of a package, by the old names.
use Rattle.std.specs.Prelude.{ℕ, ◌≡◌, ◌<◌, List, Option, Some, None, length, if◌then◌else◌, nat_le}
use Rattle.go_scope.specs.Bindings.{Layout, Names, AllCount, BindsAt, Declares, Displaces, InScope, IsIdentifier, IsImport, IsUse}
use Rattle.go_scope.specs.Packages.{layout_in, names_in}
use Rattle.go_scope.specs.Table.{Precedes}
use Rattle.law_rename.specs.Renaming.{WouldCapture, WouldLose, HasNoConflictAt}
use Rattle.types_declared.specs.Laid.{literal_of}
use Rattle.refactor_scopes.specs.declared.outcomes.ScopeConflict.{ScopeConflict}
use Rattle.refactor_scopes.specs.declared.scope_rename.ScopeRename.{ScopeRename}
use Rattle.refactor_scopes.specs.Numbers.{ListsNumbers}

-- The conflict at the identifier `u`: the declaration that captures it, or none where it is lost.
abbrev pub IsConflictAt : Layout → Names → (d : ℕ) → (y : List ℕ) → (u : ℕ) → Option ℕ → Type 0
IsConflictAt l names d y u None = WouldLose l names d y u
IsConflictAt l names d y u (Some c) = WouldCapture l names d y u c

-- `u` is an identifier that a file has: no predeclared name, and no import without a name, which its string literal declares.
abbrev pub IsWritten : Layout → (u : ℕ) → Type 0
IsWritten l u = IsIdentifier l u × (IsImport l u → literal_of l u ≡ u → ⊥)

-- The first identifier of those of which `K` holds that the rename captures or loses, or that there is none.
abbrev pub FirstConflictAmong : Layout → Names → (d : ℕ) → (y : List ℕ) → (K : ℕ → Type 0) → Option ScopeConflict → Type 0
FirstConflictAmong l names d y K None = (u : ℕ) → IsWritten l u → K u → HasNoConflictAt l names d y u
FirstConflictAmong l names d y K (Some c) = IsWritten l c.identifier × IsConflictAt l names d y c.identifier c.by ×
    ((u : ℕ) → u < c.identifier → IsWritten l u → K u → HasNoConflictAt l names d y u)

-- The first identifier of all that the rename captures or loses, or that there is none.
abbrev pub TellsConflict : Layout → Names → (d : ℕ) → (y : List ℕ) → Option ScopeConflict → Type 0
TellsConflict l names d y c = FirstConflictAmong l names d y (λ u. Unit {0}) c

-- `u` is a use of the declaration `d`.
pub record IsUseInScopes (l : Layout) (names : Names) (d u : ℕ) : Type 0 where
  pub is_use : IsUse l names u
  pub binds : BindsAt l names (names u) u d

-- The declaration `c` of the new name would capture the use `u` of `d`.
pub record WouldTake (l : Layout) (names : Names) (d : ℕ) (y : List ℕ) (u c : ℕ) : Type 0 where
  pub declares : Declares l names c
  pub named : names c ≡ y
  pub in_scope : InScope l c u
  pub precedes : Precedes l c d

-- The declaration is renamed to a name that it does not have, in a package without repeated declarations. The uses are those of the
-- declaration, and the named identifiers those that have the new name already.
pub record IsScopeRename (r : ScopeRename) : Type 0 where
  pub in_range : r.declaration < length r.table.now.sites
  pub declares : Declares (layout_in r.table.now) (names_in r.table.now) r.declaration
  pub other_name : names_in r.table.now r.declaration ≡ r.name.now → ⊥
  pub all_count : AllCount (layout_in r.table.now) (names_in r.table.now)
  pub uses : ListsNumbers (IsUseInScopes (layout_in r.table.now) (names_in r.table.now) r.declaration) (length r.table.now.sites) r.uses.items
  pub named : ListsNumbers (λ u. names_in r.table.now u ≡ r.name.now) (length r.table.now.sites) r.named.items

-- `z` is a declaration of the new name that keeps the renamed one from counting.
pub record IsDisplacer (l : Layout) (names : Names) (d : ℕ) (y : List ℕ) (z : ℕ) : Type 0 where
  pub declares : Declares l names z
  pub named : names z ≡ y
  pub displaces : Displaces l z d

-- The one of two conflicts whose identifier comes first.
abbrev pub first_conflict_of : Option ScopeConflict → Option ScopeConflict → Option ScopeConflict
first_conflict_of None b = b
first_conflict_of (Some c) None = Some c
first_conflict_of (Some c) (Some e) = if nat_le c.identifier e.identifier then Some c else Some e
