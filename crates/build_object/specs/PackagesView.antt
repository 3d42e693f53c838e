-- The names of packages' declarations, as the program looks them up.
use Rattle.std.specs.Prelude.{ℕ, List, Option, Some, None, map, option_map, slice_get}
use Rattle.std.specs.FinMap.{find}
use Rattle.std.specs.Option.{option_flatten}
use Rattle.base_files.specs.Workspace.{path_cmp}
use Rattle.go_ast.specs.SourceFile.{SourceFile, source_of}
use Rattle.types_declared.specs.DeclaredView.{type_of, function_of as placed_function}
use Rattle.types_declared.specs.Package.{PlacedType, declared_types}
use Rattle.types_expr.specs.declared.symbol.Symbol.{Symbol}
use Rattle.build_object.specs.declared.object_names.NamedPackage.{NamedPackage}
use Rattle.build_object.specs.declared.object_names.DeclaredTables.{DeclaredTables}
use Rattle.build_object.specs.declared.object_names.ObjectNames.{ObjectNames}
use Rattle.build_object.specs.Lines.{GlobalName, FunctionName}
use Rattle.build_object.specs.Names.{name_of_type, function_names, functions_behind, field_positions, all_asked_names}

-- The names of the package at a path.
abbrev pub package_names_in : ObjectNames → List ℕ → Option NamedPackage
package_names_in ps path = find path_cmp path ps.names

-- The tables of the declarations of the package at a path.
abbrev pub tables_in : ObjectNames → List ℕ → Option DeclaredTables
tables_in ps path = find path_cmp path ps.tables

-- Declarations by rank, found in the tables of a package, or else in its files.

-- The type definition with this rank.
abbrev pub type_of_rank : List SourceFile → Option DeclaredTables → ℕ → Option PlacedType
type_of_rank files None rank = slice_get (declared_types files) rank
type_of_rank files (Some t) rank = option_map type_of (slice_get t.declared.types.items rank)

-- The name in objects of the function with this rank.
abbrev pub function_of_rank : (path : List ℕ) → List SourceFile → Option DeclaredTables → ℕ → Option FunctionName
function_of_rank path files None rank = slice_get (function_names path files) rank
function_of_rank path files (Some t) rank = slice_get (functions_behind path files 0 (map placed_function t.declared.functions.items)) rank

-- The position in its struct of the field with this rank.
abbrev pub position_of_rank : List SourceFile → Option DeclaredTables → ℕ → Option ℕ
position_of_rank files None rank = slice_get (field_positions files) rank
position_of_rank files (Some t) rank = slice_get t.positions.items rank

-- The name in objects of the type definition with this rank, in a package with these names.
abbrev pub type_at : Option NamedPackage → Option DeclaredTables → ℕ → Option GlobalName
type_at None t rank = None
type_at (Some p) t rank = option_map (name_of_type p.path.now (map source_of p.files.now)) (type_of_rank (map source_of p.files.now) t rank)

-- The name of a type definition in objects, by its symbol.
abbrev pub type_in : ObjectNames → Symbol → Option GlobalName
type_in ps s = type_at (package_names_in ps s.package) (tables_in ps s.package) s.rank

-- The name in objects of the function with this rank, in a package with these names.
abbrev pub function_at : Option NamedPackage → Option DeclaredTables → ℕ → Option FunctionName
function_at None t rank = None
function_at (Some p) t rank = function_of_rank p.path.now (map source_of p.files.now) t rank

-- The name of a function in objects, by its symbol.
abbrev pub function_in : ObjectNames → Symbol → Option FunctionName
function_in ps s = function_at (package_names_in ps s.package) (tables_in ps s.package) s.rank

-- The position in its struct of the field with this rank, in a package with these names.
abbrev pub position_at : Option NamedPackage → Option DeclaredTables → ℕ → Option ℕ
position_at None t rank = None
position_at (Some p) t rank = position_of_rank (map source_of p.files.now) t rank

-- The position of a field in its struct, by its symbol.
abbrev pub position_in : ObjectNames → Symbol → Option ℕ
position_in ps s = position_at (package_names_in ps s.package) (tables_in ps s.package) s.rank

-- The name in objects of the method with this rank among written members, in a package with these names. An interface asks for it. It is found
-- by going over the files.
abbrev pub asked_of_rank : Option NamedPackage → ℕ → Option FunctionName
asked_of_rank None rank = None
asked_of_rank (Some p) rank = option_flatten (slice_get (all_asked_names p.path.now (map source_of p.files.now)) rank)

-- The name in objects of a method that an interface asks for, by its symbol.
abbrev pub asked_in : ObjectNames → Symbol → Option FunctionName
asked_in ps s = asked_of_rank (package_names_in ps s.package) s.rank
