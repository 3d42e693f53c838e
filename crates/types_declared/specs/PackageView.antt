-- The program's package and its index, as the definitions see them.
use Rattle.std.specs.Prelude.{ℕ, ◌≡◌, ◌<◌, List, Option, Some, None, length, map, slice_get, MatchOption}
use Rattle.std.specs.Global.{Vec}
use Rattle.go_ast.specs.SourceFile.{source_of}
use Rattle.go_scope.specs.Packages.{layout_in, names_in}
use Rattle.types_declared.specs.declared.index.Package.{Package}
use Rattle.types_declared.specs.declared.index.Index.{Index}
use Rattle.types_declared.specs.Package as plain
use Rattle.types_declared.specs.Package.{package_variables, package_types, package_functions, variable_place, type_place, function_place}
use Rattle.types_declared.specs.Written.{DeclaresImport}
use Rattle.go_scope.specs.ByToken.{numbers_in, AreIdentifiers}
use Rattle.types_declared.specs.DeclaredView.{variable_of, type_of, function_of}
use Rattle.types_declared.specs.RanksView.{AreRanks}
use Rattle.types_declared.specs.ExportTablesView.{export_data_in}

-- the program's package, as the definitions see it
abbrev pub package_of : Package → plain.Package
package_of p = record {
  path = p.path.now;
  files = map source_of p.files.now;
  layout = layout_in p.table.now;
  names = names_in p.table.now;
  size = length p.table.now.sites;
  export_data_of = export_data_in p.export_table.now;
}

-- the path at an index of a list of paths; none where there is none
abbrev pub path_in : Option (Option (Vec ℕ)) → Option (List ℕ)
path_in None = None
path_in (Some None) = None
path_in (Some (Some v)) = Some v.items

-- the list has for each identifier below n the path of the import that it declares, or none
pub record ArePaths (p : plain.Package) (n : ℕ) (paths : List (Option (Vec ℕ))) : Type 0 where
  pub all : length paths ≡ n
  pub each : (d : ℕ) → d < n → MatchOption (path_in (slice_get paths d)) ((v : List ℕ) → DeclaresImport p d v → ⊥) (λ v. DeclaresImport p d v)

-- the index has exactly the declarations, ranks, identifiers and import paths of the package
pub record IsIndexOf (p : plain.Package) (index : Index) : Type 0 where
  pub variables : map variable_of index.declared.variables.items ≡ package_variables p
  pub types : map type_of index.declared.types.items ≡ package_types p
  pub functions : map function_of index.declared.functions.items ≡ package_functions p
  pub variable_ranks : AreRanks variable_place (package_variables p) p.layout p.size index.ranks.variables.items
  pub type_ranks : AreRanks type_place (package_types p) p.layout p.size index.ranks.types.items
  pub function_ranks : AreRanks function_place (package_functions p) p.layout p.size index.ranks.functions.items
  pub identifiers : AreIdentifiers p.layout p.size (numbers_in index.identifiers.now)
  pub paths : ArePaths p p.size index.paths.items
