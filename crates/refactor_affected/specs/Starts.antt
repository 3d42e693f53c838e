-- The packages from which the effects of a move begin.
use Rattle.std.specs.Prelude.{ℕ, ◌≡◌, ◌⊎◌, List, Contains}
use Rattle.base_files.specs.Packages.{package_paths}
use Rattle.base_files.specs.Workspace.{Workspace}
use Rattle.workspace_graph.specs.Packages.{PackageImports}
use Rattle.refactor_move.specs.Paths.{IsUnder, HasMovedPackage}
use Rattle.refactor_part.specs.Affected.{IsAffected}

-- The path is that of the folder, or lies in it.
abbrev pub IsAtOrUnder : (folder path : List ℕ) → Type 0
IsAtOrUnder folder path = (path ≡ folder) ⊎ IsUnder folder path

-- The path is the new one of a package that the move of `from` to `to` moves.
pub record IsNewOfMoved (w : Workspace) (from to path : List ℕ) : Type 0 where
  pub old : List ℕ
  pub is_package : Contains (package_paths w) old
  pub moves : HasMovedPackage from to old path

-- An import literal with this value concerns the move. The value is `from`, lies in it, or is the new path of a package that moves. There
-- need not be a package of this path.
abbrev pub ConcernsMove : Workspace → (from to path : List ℕ) → Type 0
ConcernsMove w from to path = IsAtOrUnder from path ⊎ IsNewOfMoved w from to path

-- A package from which the effects of a move begin: it moves, or one of its import literals concerns the move.
pub data BeginsMove (w : Workspace) (from to : List ℕ) (path : List ℕ) : Type 0 where
  moves : IsAtOrUnder from path → BeginsMove w from to path
  imports : {value : List ℕ} → PackageImports w path value → ConcernsMove w from to value → BeginsMove w from to path

-- The packages that the move of the package `from` to the path `to` affects: those whose closure holds one from which its effects begin.
abbrev pub IsAffectedByMove : Workspace → (from to : List ℕ) → List ℕ → Type 0
IsAffectedByMove w from to = IsAffected w (BeginsMove w from to)
