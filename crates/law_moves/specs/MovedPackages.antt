-- The packages of a workspace after the move of a package: their files, the names in their clauses, and what they import.
use Rattle.std.specs.Prelude.{ℕ, ◌≡◌, ◌↔◌, bytes_eq, List, [], Some, cond, map, length, slice_get, unwrap_or, Contains}
use Rattle.base_files.specs.Packages.{package_files, package_paths}
use Rattle.base_files.specs.Workspace.{Workspace}
use Rattle.base_edits.specs.EditSet.{FileChanges, change_of, edited}
use Rattle.base_edits.specs.Fits.{path_after}
use Rattle.base_edits.specs.Moved.{edits_by, moved}
use Rattle.go_ast.specs.SourceFile.{FileParts, SourceFile, source_of}
use Rattle.go_scope.specs.Packages.{scoped, layout_in}
use Rattle.types_declared.specs.Files.{package_name}
use Rattle.types_declared.specs.Package.{Package}
use Rattle.law_changed_types.specs.SameBindings.{trees_of, paths_of}
use Rattle.workspace_check.specs.Verdicts.{Verdicts, BuildsOn}
use Rattle.workspace_graph.specs.Packages.{PackageImports}
use Rattle.workspace_graph.specs.Parsed.{AreParsed}
use Rattle.refs_binding.specs.Uses.{IsCheckedPackage}
use Rattle.refactor_conflict.specs.ScopedPackages.{IsClauseName}
use Rattle.refactor_move.specs.declared.moved.Moved.{Moved}
use Rattle.law_moves.specs.Moves.{IsMove, moved_path}
use Rattle.law_moves.specs.Replacements.{replaced_file}

-- The name of the package at this path after the move, by its name before: the package that moves gets its new name, if it has one.
abbrev pub name_after : Moved → (path name : List ℕ) → List ℕ
name_after m path name = cond (bytes_eq path m.from) (unwrap_or m.name name) name

-- `files` are the files of p after the move, in their order. They are at their new paths and have the old trees, so that the identifiers
-- have the old layout where no import declares a name. `old`: the files before.
pub record AreMovedFiles (w : Workspace) (m : Moved) (s : FileChanges) (p : Package) (old files : List FileParts) : Type 0 where
  pub parsed : AreParsed (package_files (edited s w) (moved_path m.from m.to p.path)) files []
  pub each : (k : ℕ) (f : SourceFile) → slice_get p.files k ≡ Some f →
      slice_get (map source_of files) k ≡ Some (replaced_file (unwrap_or (path_after s f.path) f.path) (edits_by (change_of s f.path)) f)
  pub trees : trees_of (map source_of files) ≡ trees_of p.files
  pub paths : paths_of (map source_of files) ≡ map (λ path. (moved s (record { path = path; offset = 0 })).path) (paths_of p.files)
  pub layout : layout_in (scoped files) ≡ layout_in (scoped old)
  pub size : length (scoped files).sites ≡ length (scoped old).sites
  pub clause : IsClauseName (edited s w) (moved_path m.from m.to p.path) (Some (name_after m p.path (package_name p.files)))

-- Each package has such files after the move, and its clauses have its name, which follows the path.
abbrev pub PackagesHaveMovedFiles : Type 0
PackagesHaveMovedFiles = (w : Workspace) (known : Verdicts) (from to : List ℕ) (s : FileChanges) → (h : IsMove w known from to s) → (p : Package) →
    (is : IsCheckedPackage w known p) → (files : List FileParts) × AreMovedFiles w h.edits.moved s p is.is_checked.files files

-- Each package imports afterwards the moved paths of what it imports, and builds on the moved paths of what it builds on.
abbrev pub PackageImportsMove : Type 0
PackageImportsMove = (w : Workspace) (known : Verdicts) (from to : List ℕ) (s : FileChanges) → IsMove w known from to s → (p q : List ℕ) →
    Contains (package_paths w) p → Contains (package_paths w) q →
    (PackageImports w p q ↔ PackageImports (edited s w) (moved_path from to p) (moved_path from to q))
    × (BuildsOn w p q ↔ BuildsOn (edited s w) (moved_path from to p) (moved_path from to q))
