-- The export data of a package.
use Rattle.std.specs.Prelude.{ℕ, ◌≡◌, ◌<◌, true, List, Option, Some, None, slice_get, MatchOption}
use Rattle.go_scope.specs.Bindings.{Counts, IsPackageLevel}
use Rattle.types_expr.specs.Types.{PlainType, Typed, Signature, Meaning, Value, TypeName, Function}
use Rattle.types_expr.specs.World.{Bound}
use Rattle.types_expr.specs.World.{Means as Stands}
use Rattle.types_expr.specs.WorldView.{no_definition}
use Rattle.types_declared.specs.Files.{package_name}
use Rattle.types_declared.specs.Laid.{is_exported}
use Rattle.types_declared.specs.Package.{Package, ExportData, Export, PlacedType, package_types, symbol_in}
use Rattle.types_declared.specs.MeaningOf.{IsMeaningOf}
use Rattle.types_declared.specs.Definitions.{IsDefinition}

-- the package exports the declaration d: it is package-level, counts, and has an exported name
pub record DoesExport (p : Package) (d : ℕ) : Type 0 where
  pub package_level : IsPackageLevel p.layout d
  pub counts : Counts p.layout p.names d
  pub exported : is_exported (p.names d) ≡ true

-- e is the export of the declaration d
pub record IsExportBy (p : Package) (d : ℕ) (e : Export) : Type 0 where
  pub seen : DoesExport p d
  pub means : IsMeaningOf p d (Stands e.meaning)

-- e is an export of the package under this name
pub record IsExport (p : Package) (name : List ℕ) (e : Export) : Type 0 where
  pub declaration : ℕ
  pub named : p.names declaration ≡ name
  pub by_declaration : IsExportBy p declaration e

-- the export of the package under this name; none where it has none
abbrev pub IsExported : Package → List ℕ → Option Export → Type 0
IsExported p name None = (e : Export) → IsExport p name e → ⊥
IsExported p name (Some e) = IsExport p name e

-- i is the export data of p
pub record IsExportData (p : Package) (i : ExportData) : Type 0 where
  pub name : i.name ≡ package_name p.files
  pub exported : (name : List ℕ) → IsExported p name (i.exported name)
  pub definitions : (rank : ℕ) (d : PlacedType) → slice_get (package_types p) rank ≡ Some d → IsDefinition p rank (i.definition rank)
  pub beyond : (rank : ℕ) → slice_get (package_types p) rank ≡ None → i.definition rank ≡ no_definition (symbol_in p rank)

-- the package has at most one export under a name
abbrev pub IsExportedOnce : Package → Type 0
IsExportedOnce p = (name : List ℕ) (e f : Export) → IsExport p name e → IsExport p name f → e ≡ f

-- Export data, as the program builds it

-- the meaning is that of a package-level variable, type or function
pub data IsGlobalMeaning : Meaning → Type 0 where
  variable : {t : PlainType} → IsGlobalMeaning (Value (Typed t) true)
  type_name : {t : PlainType} → IsGlobalMeaning (TypeName t)
  function : {s : Signature} → IsGlobalMeaning (Function s)

-- found is the meaning in b if it is that of a package-level variable, type or function, or else none
abbrev pub IsGlobalFound : Bound → Option Meaning → Type 0
IsGlobalFound b found = MatchOption found ((m : Meaning) → IsGlobalMeaning m → b ≡ Stands m → ⊥) (λ m. b ≡ Stands m)

-- found is the export of the declaration d, or none where it has none
abbrev pub IsExportFound : Package → ℕ → Option Export → Type 0
IsExportFound p d found = MatchOption found ((e : Export) → IsExportBy p d e → ⊥) (λ e. IsExportBy p d e)

-- e is the export of a declaration below n under this name
pub record IsExportBelow (p : Package) (n : ℕ) (name : List ℕ) (e : Export) : Type 0 where
  pub declaration : ℕ
  pub below : declaration < n
  pub named : p.names declaration ≡ name
  pub by_declaration : IsExportBy p declaration e

-- found gives for each name the export of a declaration below n, or none where there is none
abbrev pub AreExportsBelow : Package → ℕ → (List ℕ → Option Export) → Type 0
AreExportsBelow p n found = (name : List ℕ) → MatchOption (found name) ((e : Export) → IsExportBelow p n name e → ⊥) (λ e. IsExportBelow p n name e)
