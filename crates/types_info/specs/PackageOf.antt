-- The package of a path and files.
use Rattle.std.specs.Prelude.{ℕ, ◌≡◌, List, Option, length, map}
use Rattle.go_ast.specs.SourceFile.{SourceFile, FileParts, source_of}
use Rattle.go_scope.specs.Packages.{ScopedPackage, scoped, layout_in, names_in}
use Rattle.types_declared.specs.PackageNames.{IsLaidOver}
use Rattle.types_declared.specs.Package.{Package, ExportData}

-- the package of a path and files, with the identifiers of a scope table and the export data of other packages
abbrev pub package_in : (path : List ℕ) → List SourceFile → ScopedPackage → (List ℕ → ExportData) → Package
package_in path files table export_data_of = record {
  path = path;
  files = files;
  layout = layout_in table;
  names = names_in table;
  size = length table.sites;
  export_data_of = export_data_of;
}

-- p is the package to check of this path and these files, given the names and the export data of other packages. Each of its imports
-- without a name declares the name of the imported package. There is at most one such package.
pub record IsPackageOf (path : List ℕ) (files : List FileParts) (name_of : List ℕ → Option (List ℕ)) (export_data_of : List ℕ → ExportData) (p : Package) :
    Type 0 where
  pub laid : ScopedPackage
  pub is_laid : IsLaidOver (map source_of files) name_of (scoped files) laid
  pub is_package : p ≡ package_in path (map source_of files) laid export_data_of
