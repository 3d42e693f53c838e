-- The names of a package's declarations, as the program keeps them.
use Rattle.std.specs.Prelude.{ℕ, ◌≡◌, List, Option, Some, map}
use Rattle.go_ast.specs.SourceFile.{SourceFile, source_of}
use Rattle.types_declared.specs.DeclaredView.{type_of, function_of as placed_function}
use Rattle.types_declared.specs.Package.{declared_types, declared_functions}
use Rattle.build_object.specs.declared.object_names.NamedPackage.{NamedPackage}
use Rattle.build_object.specs.declared.object_names.DeclaredTables.{DeclaredTables}
use Rattle.build_object.specs.Names.{field_positions}

-- The tables are those of the declarations of these files.
pub record AreTablesOf (files : List SourceFile) (tables : DeclaredTables) : Type 0 where
  pub types : map type_of tables.declared.types.items ≡ declared_types files
  pub functions : map placed_function tables.declared.functions.items ≡ declared_functions files
  pub positions : tables.positions.items ≡ field_positions files

-- The names are those of the package at this path, with these files. If there are tables, they are those of these files.
pub record AreNamesOf (path : List ℕ) (files : List SourceFile) (names : NamedPackage) (made : Option DeclaredTables) : Type 0 where
  pub has_path : names.path.now ≡ path
  pub has_files : map source_of names.files.now ≡ files
  pub tables : (t : DeclaredTables) → made ≡ Some t → AreTablesOf files t
