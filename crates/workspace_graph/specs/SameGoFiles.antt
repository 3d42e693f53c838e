-- Which packages keep their files when files change.
use Rattle.std.specs.Prelude.{◌≡◌, ℕ, true, List}
use Rattle.std.specs.FinMap as files
use Rattle.std.specs.List.{Contains}
use Rattle.base_files.specs.Path.{folder}
use Rattle.base_files.specs.Packages.{is_go, package_files}
use Rattle.base_files.specs.Workspace.{Workspace}
use Rattle.workspace_graph.specs.Parsed.{AreParsed}
use Rattle.workspace_graph.specs.declared.package.ParsedPackage.{ParsedPackage}

-- The Go files whose folders are not in `folders` are the same in both workspaces.
abbrev pub DiffersOnlyIn : List (List ℕ) → Workspace → Workspace → Type 0
DiffersOnlyIn folders before after = (path : List ℕ) → is_go path ≡ true → (Contains folders (folder path) → ⊥) → files.get after path ≡ files.get before path

-- The Go files whose folders are in `folders` are the same in both workspaces.
abbrev pub AreSameIn : List (List ℕ) → Workspace → Workspace → Type 0
AreSameIn folders v w = (path : List ℕ) → is_go path ≡ true → Contains folders (folder path) → files.get w path ≡ files.get v path

-- The Go files whose paths are not in `paths` are the same in both workspaces.
abbrev pub DiffersOnlyAt : List (List ℕ) → Workspace → Workspace → Type 0
DiffersOnlyAt paths before after = (path : List ℕ) → is_go path ≡ true → (Contains paths path → ⊥) → files.get after path ≡ files.get before path

-- The package has exactly the Go files of its folder in the workspace, parsed.
abbrev pub HasFiles : Workspace → ParsedPackage → Type 0
HasFiles w p = AreParsed (package_files w p.path.items) p.trees.items p.faulty.items
