-- Moves of packages: those that lose and capture no identifier are those that preserve bindings.
use Rattle.std.specs.Prelude.{ℕ, ◌≡◌, ◌≢◌, ◌↔◌, ◌⊎◌, List, Option, None, MatchOption}
use Rattle.base_files.specs.Workspace.{Workspace}
use Rattle.base_edits.specs.EditSet.{FileChanges}
use Rattle.base_edits.specs.Revisions.{Revision}
use Rattle.base_edits.specs.RevisionsOfEdits.{revision_of}
use Rattle.workspace_check.specs.Verdicts.{Verdicts}
use Rattle.refactor_preserve.specs.Preserved.{Preserves}
use Rattle.refactor_conflict.specs.Conflicts.{IsConflict, IsFirstConflict}
use Rattle.refactor_conflict.specs.Staying.{NoneIsLost}
use Rattle.refactor_conflict.specs.declared.conflict.Conflict.{Conflict}
use Rattle.refactor_move.specs.MoveEdits.{IsFree}
use Rattle.refactor_move.specs.Paths.{IsUnder}
use Rattle.law_moves.specs.Moves.{IsMove, moved_path}
use Rattle.law_moves.specs.Moving.{AreScopedMoves, AreCheckedMoves}

-- The paths allow the move of the package `from` to the path `to`: it is another one outside of the folder `from`, and no file lies there.
pub record HasFreeTarget (w : Workspace) (from to : List ℕ) : Type 0 where
  pub other : to ≢ from
  pub outside : IsUnder from to → ⊥
  pub free : IsFree w to

-- The move is one that is planned: the paths allow it, or the package keeps its path and gets another name.
abbrev pub IsPlannedTarget : Workspace → (from to : List ℕ) → Type 0
IsPlannedTarget w from to = HasFreeTarget w from to ⊎ (to ≡ from)

-- The statement holds of each move that is planned.
abbrev pub OfPlannedMoves : (Workspace → Verdicts → Revision → Type 0) → Type 0
OfPlannedMoves P = (w : Workspace) (known : Verdicts) (from to : List ℕ) (s : FileChanges) → IsMove w known from to s → IsPlannedTarget w from to →
    P w known (revision_of w s)

-- What these laws rest on

-- By its scopes, each package is there after a move, and other names than those of imports are kept. This asks for no verdict of the edited
-- workspace.
abbrev pub MovesAreScoped : Type 0
MovesAreScoped = (w : Workspace) (known : Verdicts) (from to : List ℕ) (s : FileChanges) → IsMove w known from to s →
    AreScopedMoves w known (revision_of w s) (moved_path from to)

-- Where a move loses and captures no identifier, the edited workspace has no fault, and each of its packages is one of before, moved.
abbrev pub MovesAreChecked : Type 0
MovesAreChecked = (w : Workspace) (known : Verdicts) (from to : List ℕ) (s : FileChanges) → IsMove w known from to s → IsPlannedTarget w from to →
    NoneIsLost w known (revision_of w s) → (after : Verdicts) × AreCheckedMoves w known (revision_of w s) (moved_path from to) after

-- The laws

-- A move that preserves bindings loses and captures no identifier.
abbrev pub PreservedMovesLoseNone : Type 0
PreservedMovesLoseNone = (w : Workspace) (known : Verdicts) (from to : List ℕ) (s : FileChanges) → IsMove w known from to s →
    Preserves w (revision_of w s) → NoneIsLost w known (revision_of w s)

-- A planned move loses and captures no identifier exactly where it preserves bindings.
abbrev pub MovesAgree : Type 0
MovesAgree = OfPlannedMoves (λ w known r. NoneIsLost w known r ↔ Preserves w r)

-- A move that has a conflict does not preserve bindings.
abbrev pub MoveConflictsRefuse : Type 0
MoveConflictsRefuse = (w : Workspace) (known : Verdicts) (from to : List ℕ) (s : FileChanges) → IsMove w known from to s → (c : Conflict) →
    IsConflict w known (revision_of w s) c → Preserves w (revision_of w s) → ⊥

-- A move that does not preserve bindings has a first conflict.
abbrev pub MoveConflictsAreTold : Type 0
MoveConflictsAreTold = OfPlannedMoves (λ w known r. (Preserves w r → ⊥) → (told : Option Conflict) → IsFirstConflict w known r told → told ≢ None)

-- The first conflict decides the change: without one it preserves bindings. With one it does not.
abbrev pub IsDecidedBy : Workspace → Revision → Option Conflict → Type 0
IsDecidedBy w r told = MatchOption told (Preserves w r) (λ c. Preserves w r → ⊥)

-- So the first conflict of a move decides it. The edited workspace need not be judged.
abbrev pub FirstConflictsDecideMoves : Type 0
FirstConflictsDecideMoves = OfPlannedMoves (λ w known r. (told : Option Conflict) → IsFirstConflict w known r told → IsDecidedBy w r told)
