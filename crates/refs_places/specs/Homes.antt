-- The packages of declarations, as marks on the packages of a workspace.
use Rattle.std.specs.Prelude.{ℕ, ◌≡◌, ◌↔◌, Bool, List, Some, Contains, length, slice_get}
use Rattle.base_files.specs.Packages.{package_paths}
use Rattle.base_files.specs.Workspace.{Workspace}
use Rattle.workspace_graph.specs.Search.{IsMarked}
use Rattle.refs_binding.specs.declared.declaration.Declaration.{Declaration}
use Rattle.refs_places.specs.Outside.{declaring_path}

-- The path is that of the package of one of the declarations.
pub record IsHomeOfSome (set : List Declaration) (path : List ℕ) : Type 0 where
  pub declaration : Declaration
  pub among : Contains set declaration
  pub declares : declaring_path declaration ≡ Some path

-- The number is that of the declaration's package.
pub record IsNumberOfHome (w : Workspace) (d : Declaration) (number : ℕ) : Type 0 where
  pub path : List ℕ
  pub has_number : slice_get (package_paths w) number ≡ Some path
  pub declares : declaring_path d ≡ Some path

-- The workspace has no package of the declaration.
abbrev pub HasNoHome : Workspace → Declaration → Type 0
HasNoHome w d = (path : List ℕ) → declaring_path d ≡ Some path → Contains (package_paths w) path → ⊥

-- The marked packages are exactly those of the declarations.
pub record MarksHomes (w : Workspace) (set : List Declaration) (marks : List Bool) : Type 0 where
  pub size : length marks ≡ length (package_paths w)
  pub each : (number : ℕ) (path : List ℕ) → slice_get (package_paths w) number ≡ Some path → IsMarked marks number ↔ IsHomeOfSome set path
