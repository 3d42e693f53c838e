-- The first conflict of a move, told by the workspace before it.
use Rattle.std.specs.Prelude.{ℕ, ◌≡◌, List, Option}
use Rattle.base_files.specs.Workspace.{Workspace}
use Rattle.base_edits.specs.EditSet.{FileChanges}
use Rattle.base_edits.specs.RevisionsOfEdits.{revision_of}
use Rattle.types_declared.specs.Package.{Package}
use Rattle.workspace_check.specs.Verdicts.{Verdicts}
use Rattle.refs_binding.specs.Uses.{IsCheckedPackage}
use Rattle.refactor_conflict.specs.declared.conflict.Conflict.{Conflict}
use Rattle.refactor_conflict.specs.Conflicts.{IsFirstConflict}
use Rattle.law_agreement.specs.ScopeConflicts.{IsFirstBy}
use Rattle.law_moves.specs.Moves.{IsMove}
use Rattle.refactor_follow.specs.FirstConflicts.{IsConflictBelow, IsFreeBelow}

-- The first conflict of the renames of all imports, without a name, of the package at this path. Each gets the name.
abbrev pub IsFirstOfName : Workspace → Verdicts → (path name : List ℕ) → Option Conflict → Type 0
IsFirstOfName w known path name told =
    IsFirstBy (λ c. (p : Package) × (IsCheckedPackage w known p × IsConflictBelow (IsCheckedPackage w known) p path name p.size c))
    (λ place. (p : Package) → IsCheckedPackage w known p → IsFreeBelow p path name p.size place) told

-- The first conflict of each move of the package `from`, wherever it goes, in which its name follows the path `called`.
abbrev pub TellsMoveConflict : Workspace → Verdicts → (from called : List ℕ) → Option Conflict → Type 0
TellsMoveConflict w known from called told = (to : List ℕ) (s : FileChanges) → (h : IsMove w known from to s) → h.called ≡ called →
    IsFirstConflict w known (revision_of w s) told
