-- The paths of the files that an edit set names.
use Rattle.std.specs.Prelude.{◌≡◌, ℕ, ◌⊎◌, List, Some}
use Rattle.std.specs.List.{Contains}
use Rattle.base_edits.specs.EditSet.{FileChanges}
use Rattle.base_edits.specs.Fits.{new_path}
use Rattle.base_edits.specs.declared.change.FileChange.{FileChange}

-- The path is that of the changed file before the change, or the one to which the change moves it.
abbrev pub IsPathOfChange : FileChange → List ℕ → Type 0
IsPathOfChange c path = (c.path ≡ path) ⊎ (new_path c.fate ≡ Some path)

-- One of the changes is of a file at the path, or moves a file to the path.
abbrev pub IsPathOfChanges : List FileChange → List ℕ → Type 0
IsPathOfChanges changes path = (c : FileChange) × (Contains changes c × IsPathOfChange c path)

-- One of the added files has the path.
abbrev pub IsPathOfAdded : List (List ℕ × List ℕ) → List ℕ → Type 0
IsPathOfAdded added path = (e : List ℕ × List ℕ) × (Contains added e × (e.0 ≡ path))

-- The edit set names the path: it changes a file there, moves a file to it, or adds a file there.
abbrev pub NamesPath : FileChanges → List ℕ → Type 0
NamesPath s path = IsPathOfChanges s.changed path ⊎ IsPathOfAdded s.added path

-- The list contains each path of which `P` holds, and may contain others.
abbrev pub HasAll : (List ℕ → Type 0) → List (List ℕ) → Type 0
HasAll P paths = (path : List ℕ) → P path → Contains paths path

-- The list `new` contains the paths of `old`, and each path of which `P` holds.
pub record AddsEachPath (P : List ℕ → Type 0) (old new : List (List ℕ)) : Type 0 where
  pub kept : (path : List ℕ) → Contains old path → Contains new path
  pub each : HasAll P new
