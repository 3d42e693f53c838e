-- What a rename does to one identifier, by the old names.
use Rattle.std.specs.Prelude.{ℕ, ◌≡◌, List, Option, Some, None}
use Rattle.go_scope.specs.Bindings.{Layout, Names}
use Rattle.law_rename.specs.Renaming.{WouldCapture, WouldLose, HasNoConflictAt}
use Rattle.refactor_scopes.specs.Conflicts.{IsWritten}
use Rattle.refactor_scopes.specs.declared.outcomes.ScopeConflict.{ScopeConflict}
use Rattle.refactor_scopes.specs.declared.outcomes.RenameOutcome.{RenameOutcome}
use Rattle.refactor_scopes.specs.declared.outcomes.RenameOutcome.TheVariants.{Kept, Captured, Lost}

-- With `d` renamed to `y`, the identifier `u` stays bound to its declaration, is captured by another one, or is lost.
abbrev pub IsOutcome : Layout → Names → (d : ℕ) → (y : List ℕ) → (u : ℕ) → RenameOutcome → Type 0
IsOutcome l names d y u Kept = HasNoConflictAt l names d y u
IsOutcome l names d y u (Captured c) = WouldCapture l names d y u c
IsOutcome l names d y u Lost = WouldLose l names d y u

-- The outcome that a conflict is: another declaration captures the identifier, or it is lost.
abbrev pub conflict_outcome : Option ℕ → RenameOutcome
conflict_outcome None = Lost
conflict_outcome (Some c) = Captured c

-- The conflict that an outcome is at the identifier `u`, or none where it stays bound. What no file has as an identifier has no conflict.
abbrev pub IsOutcomeConflict : Layout → (u : ℕ) → RenameOutcome → Option ScopeConflict → Type 0
IsOutcomeConflict l u outcome None = IsWritten l u → outcome ≡ Kept
IsOutcomeConflict l u outcome (Some c) = IsWritten l u × (c.identifier ≡ u) × (outcome ≡ conflict_outcome c.by)
