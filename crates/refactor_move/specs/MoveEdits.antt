-- The edit set that moves a package, with all files in its folder.
use Rattle.std.specs.Prelude.{ℕ, ◌≡◌, List, [], ⊤, Contains, IsSome, Result, Ok, Err}
use Rattle.std.specs.FinMap as files
use Rattle.base_files.specs.Path.{IsPath}
use Rattle.base_files.specs.Workspace.{Workspace}
use Rattle.base_files.specs.declared.refusal.Refusal.{Refusal}
use Rattle.base_files.specs.declared.refusal.Refusal.TheVariants.{Memory, TooLarge}
use Rattle.workspace_check.specs.Verdicts.{Verdicts}
use Rattle.base_edits.specs.EditSet.{FileChanges, change_of}
use Rattle.base_edits.specs.Fits.{Fits, path_after}
use Rattle.base_edits.specs.Moved.{edits_by}
use Rattle.base_edits.specs.declared.change.FileChange.{FileChange}
use Rattle.refs_binding.specs.Uses.{IsCheckedPackage}
use Rattle.refactor_move.specs.declared.moved.Moved.{Moved}
use Rattle.refactor_move.specs.Paths.{IsUnder, HasMoved}
use Rattle.refactor_move.specs.Following.{IsFollowingName}
use Rattle.refactor_move.specs.Changes.{AreMoveEditsOf, IsPathAfter, MovesOrEdits}

-- The move of the package `from` to the path `to`. Its name is the one that it has at the path `called`, if its name follows its path.
pub record IsMoveOf (w : Workspace) (known : Verdicts) (from to called : List ℕ) (m : Moved) : Type 0 where
  pub source : m.from ≡ from
  pub target : m.to ≡ to
  pub name : IsFollowingName (IsCheckedPackage w known) from called m.name

-- The edit set of the move of the package `from` to the path `to`. It has in each file just the edits of its tokens. Just the files in the
-- folder `from` move. A file that is neither edited nor moved is no part of the set, and no file is added. The package gets the name that
-- it has at the path `called`, if its name follows its path.
pub record AreMoveEdits (w : Workspace) (known : Verdicts) (from to called : List ℕ) (s : FileChanges) : Type 0 where
  pub moved : Moved
  pub is_move : IsMoveOf w known from to called moved
  pub edits : (path : List ℕ) → IsSome (files.get w path) → AreMoveEditsOf w known moved path (edits_by (change_of s path))
  pub paths : (path : List ℕ) → IsSome (files.get w path) → IsPathAfter moved path (path_after s path)
  pub only : (c : FileChange) → Contains s.changed c → MovesOrEdits moved c
  pub none_added : s.added ≡ []

-- Some file in the folder `from` would get a path in the folder `to` that has too many bytes.
pub record HasNoNewPath (w : Workspace) (from to : List ℕ) : Type 0 where
  pub old : List ℕ
  pub is_file : IsSome (files.get w old)
  pub is_path : IsPath 1 old
  pub new : List ℕ
  pub moves : HasMoved from to old new
  pub no_path : ¬ (IsPath 1 new)

-- No file lies in this folder.
abbrev pub IsFree : Workspace → (folder : List ℕ) → Type 0
IsFree w folder = (path : List ℕ) → IsSome (files.get w path) → IsUnder folder path → ⊥

-- Each file in the folder `to` lies in the folder `from`, so that it moves.
abbrev pub HasOnlyMoved : Workspace → (from to : List ℕ) → Type 0
HasOnlyMoved w from to = (path : List ℕ) → IsSome (files.get w path) → IsUnder to path → IsUnder from path

-- The edit set of a move, which fits the workspace, or `TooLarge` where a file would get too long a path.
abbrev pub PlansMoveEdits : Workspace → Verdicts → (from to called : List ℕ) → Result FileChanges Refusal → Type 0
PlansMoveEdits w known from to called (Ok s) = AreMoveEdits w known from to called s × Fits s w
PlansMoveEdits w known from to called (Err TooLarge) = HasNoNewPath w from to
PlansMoveEdits w known from to called (Err Memory) = ⊤
PlansMoveEdits w known from to called (Err refusal) = ⊥
