-- The packages of a workspace by their scopes alone, which exist even where packages have faults. An import without a name declares the
-- name in the package clause of the package that it imports.
use Rattle.std.specs.Prelude.{ℕ, ◌≡◌, List, [], Option, Some, None, map, Contains}
use Rattle.base_files.specs.Packages.{package_paths, package_files}
use Rattle.base_files.specs.Workspace.{Workspace}
use Rattle.go_ast.specs.SourceFile.{FileParts, source_of}
use Rattle.workspace_graph.specs.Parsed.{AreParsed}
use Rattle.types_declared.specs.Files.{package_name}
use Rattle.types_declared.specs.Package.{Package}
use Rattle.types_declared.specs.ExportTablesView.{no_export_data}
use Rattle.types_info.specs.PackageOf.{IsPackageOf}

-- The name of the package at this path: that in the package clause of its first file. `None` where some file has no tree or there is no
-- such package.
pub data IsClauseName (w : Workspace) (path : List ℕ) : Option (List ℕ) → Type 0 where
  named : {files : List FileParts} → Contains (package_paths w) path → AreParsed (package_files w path) files [] →
      IsClauseName w path (Some (package_name (map source_of files)))
  unnamed : ((files : List FileParts) → Contains (package_paths w) path → AreParsed (package_files w path) files [] → ⊥) → IsClauseName w path None

-- A package of which each file has a tree, with its scopes. It has no export data of other packages, since scopes need none.
pub record IsScopedIn (w : Workspace) (p : Package) : Type 0 where
  pub of_workspace : Contains (package_paths w) p.path
  pub files : List FileParts
  pub parsed : AreParsed (package_files w p.path) files []
  pub name_of : List ℕ → Option (List ℕ)
  pub are_names : (path : List ℕ) → IsClauseName w path (name_of path)
  pub is_package : IsPackageOf p.path files name_of no_export_data p

-- The names of packages, as they are collected

-- The function gives for each path the name of its package.
abbrev pub AreClauseNames : Workspace → (List ℕ → Option (List ℕ)) → Type 0
AreClauseNames w name_of = (path : List ℕ) → IsClauseName w path (name_of path)
