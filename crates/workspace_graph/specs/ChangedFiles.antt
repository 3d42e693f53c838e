-- The packages at some folders after a change, made from the packages before it and the paths at which files may differ.
use Rattle.std.specs.Prelude.{◌≡◌, ℕ, List}
use Rattle.std.specs.FinMap as files
use Rattle.std.specs.List.{All, Contains}
use Rattle.std.specs.List.Sorted.{IsStrictlySortedBy}
use Rattle.base_files.specs.Path.{folder}
use Rattle.base_files.specs.Packages.{package_paths}
use Rattle.base_files.specs.Workspace.{Workspace, path_cmp}
use Rattle.workspace_graph.specs.Graphs.{paths_of}
use Rattle.workspace_graph.specs.SameGoFiles.{DiffersOnlyIn, HasFiles}
use Rattle.workspace_graph.specs.declared.package.ParsedPackage.{ParsedPackage}

-- `packages` are all packages of the workspace in the order of their paths, each with its parsed files.
pub record ArePackages (w : Workspace) (packages : List ParsedPackage) : Type 0 where
  pub paths : paths_of packages ≡ package_paths w
  pub files : All (HasFiles w) packages

-- `new` has the files of `w` at the paths, and those of `old` elsewhere.
pub record SetsAt (w : Workspace) (paths : List (List ℕ)) (old new : Workspace) : Type 0 where
  pub own : (path : List ℕ) → Contains paths path → files.get new path ≡ files.get w path
  pub others : (path : List ℕ) → (Contains paths path → ⊥) → files.get new path ≡ files.get old path

-- The folders contain the folder of each path.
abbrev pub HaveFolders : List (List ℕ) → List (List ℕ) → Type 0
HaveFolders paths folders = (path : List ℕ) → Contains paths path → Contains folders (folder path)

-- `packages` have all Go files of `after` in their folders. The Go files in all other folders are the same in both workspaces.
pub record CoverChanges (before after : Workspace) (packages : List ParsedPackage) : Type 0 where
  pub sorted : IsStrictlySortedBy path_cmp (paths_of packages)
  pub differs : DiffersOnlyIn (paths_of packages) before after
  pub files : All (HasFiles after) packages
