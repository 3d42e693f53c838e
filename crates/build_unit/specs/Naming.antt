-- The names of the declarations of packages, as the program gathers them.
use Rattle.std.specs.Prelude.{ℕ, ◌≡◌, List, [], Some, map}
use Rattle.std.specs.FinMap.{find}
use Rattle.base_files.specs.Workspace.{path_cmp}
use Rattle.go_ast.specs.SourceFile.{source_of}
use Rattle.build_object.specs.declared.packages.NamedPackage.{NamedPackage}
use Rattle.build_object.specs.declared.packages.ObjectNames.{ObjectNames}
use Rattle.build_object.specs.declared.packages.DeclaredTables.{DeclaredTables}
use Rattle.build_object.specs.NamesView.{AreTablesOf}

-- The names of packages, by their paths, without tables.
abbrev pub without_tables : List (List ℕ × NamedPackage) → ObjectNames
without_tables names = record { names = names; tables = [] }

-- Where a path has both names and tables, the tables are those of the files that the names belong to.
abbrev pub AreTablesBy : List (List ℕ × NamedPackage) → List (List ℕ × DeclaredTables) → Type 0
AreTablesBy names tables = (q : List ℕ) (n : NamedPackage) (t : DeclaredTables) → find path_cmp q names ≡ Some n → find path_cmp q tables ≡ Some t →
    AreTablesOf (map source_of n.files.now) t
