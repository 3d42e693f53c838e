-- What is read of the packages that import the one that moves.
use Rattle.std.specs.Prelude.{ℕ, ◌≡◌, ◌<◌, List, [], length, slice_get}
use Rattle.std.specs.Global.{Vec}
use Rattle.std.specs.Prelude.{Bool, true, Some, None}
use Rattle.base_files.specs.Workspace.{Workspace}
use Rattle.types_declared.specs.Package.{Package}
use Rattle.workspace_check.specs.Verdicts.{Verdicts}
use Rattle.refs_binding.specs.Workspaces.{IsPackageAt}
use Rattle.refactor_move.specs.FileEdits.{IsImportUse}
use Rattle.refactor_move.specs.MoveEdits.{IsMoveOf}
use Rattle.refactor_move.specs.Uses.{IsNameTokenAt, KnowsUses, mark_at, rows_at}
use Rattle.refactor_move.specs.declared.moved.Moved.{Moved}

-- The move of the package at this path, to wherever, whatever name it gets.
abbrev pub move_from : List ℕ → Moved
move_from path = record { from = path; to = path; name = None }

-- What is marked is bound to an import, without a name, of the package at the path.
abbrev pub MarksOnly : Package → (path : List ℕ) → List (Vec Bool) → Type 0
MarksOnly p path rows = (file token : ℕ) → mark_at rows file token ≡ true → IsImportUse p file (move_from path) token

-- Each name that is bound so is marked.
abbrev pub MarksAll : Package → (path : List ℕ) → List (Vec Bool) → Type 0
MarksAll p path rows = (file token : ℕ) → IsNameTokenAt p file token → IsImportUse p file (move_from path) token → mark_at rows file token ≡ true

-- Both.
pub record MarksImportUses (p : Package) (path : List ℕ) (rows : List (Vec Bool)) : Type 0 where
  pub only : MarksOnly p path rows
  pub all : MarksAll p path rows

-- There are no marks, for this number of packages.
pub record HasNoMarks (count : ℕ) (uses : List (Vec (Vec Bool))) : Type 0 where
  pub size : length uses ≡ count
  pub each : (number : ℕ) → rows_at uses number ≡ []

-- The marks of the package of a number were set, and all others stay.
pub record SetsRows (old new : List (Vec (Vec Bool))) (number : ℕ) (rows : List (Vec Bool)) : Type 0 where
  pub size : length new ≡ length old
  pub here : rows_at new number ≡ rows
  pub elsewhere : (k : ℕ) → (k ≡ number → ⊥) → rows_at new k ≡ rows_at old k

-- What is marked in any package is bound so. In the first `n` of the packages of these numbers, each name that is bound so is marked.
pub record MarksAmong (w : Workspace) (known : Verdicts) (path : List ℕ) (numbers : List ℕ) (n : ℕ) (uses : List (Vec (Vec Bool))) : Type 0 where
  pub only : (number : ℕ) (p : Package) → IsPackageAt w known number p → MarksOnly p path (rows_at uses number)
  pub all : (i number : ℕ) → i < n → slice_get numbers i ≡ Some number → (p : Package) → IsPackageAt w known number p →
      MarksAll p path (rows_at uses number)

-- So it is in all packages.
abbrev pub MarksEverywhere : Workspace → Verdicts → (path : List ℕ) → List (Vec (Vec Bool)) → Type 0
MarksEverywhere w known path uses = (number : ℕ) (p : Package) → IsPackageAt w known number p → MarksImportUses p path (rows_at uses number)

-- The marks are those of each move of the package `from`, wherever it goes, in which its name follows the path `called`.
abbrev pub KnowsMoveUses : Workspace → Verdicts → (from called : List ℕ) → List (Vec (Vec Bool)) → Type 0
KnowsMoveUses w known from called uses = (to : List ℕ) (m : Moved) → IsMoveOf w known from to called m → KnowsUses w known m uses
