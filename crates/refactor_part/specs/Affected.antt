-- The packages that a change of some packages affects.
use Rattle.std.specs.Prelude.{ℕ, ◌≡◌, Bool, List, Some, slice_get}
use Rattle.base_files.specs.Packages.{package_paths}
use Rattle.base_files.specs.Workspace.{Workspace}
use Rattle.workspace_graph.specs.Packages.{IsInClosure}
use Rattle.workspace_graph.specs.Search.{IsMarked}

-- The closure of the package `path` holds a package for which `P` holds. So a change of these packages affects it.
pub record IsAffected (w : Workspace) (P : List ℕ → Type 0) (path : List ℕ) : Type 0 where
  pub start : List ℕ
  pub begins : P start
  pub in_closure : IsInClosure w path start

-- The package is marked.
pub record IsMarkedPackage (w : Workspace) (marks : List Bool) (path : List ℕ) : Type 0 where
  pub number : ℕ
  pub has_path : slice_get (package_paths w) number ≡ Some path
  pub marked : IsMarked marks number
