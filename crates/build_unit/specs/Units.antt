-- The unit of a package: its faults if it has any, else its export data and its object.
use Rattle.std.specs.Prelude.{ℕ, ◌≡◌, List, [], ◌∷◌, Option, None, Some, map, slice_get, Contains}
use Rattle.base_files.specs.Workspace.{Workspace}
use Rattle.base_files.specs.Packages.{package_paths, package_files}
use Rattle.go_ast.specs.SourceFile.{SourceFile, FileParts, source_of}
use Rattle.workspace_graph.specs.FaultyFiles.{FaultyParts}
use Rattle.workspace_graph.specs.Packages.{IsInClosure}
use Rattle.workspace_graph.specs.Parsed.{AreParsed}
use Rattle.types_declared.specs.States.{state_in}
use Rattle.types_declared.specs.declared.states.ImportState.TheVariants.{Missing}
use Rattle.types_declared.specs.declared.export_tables.ExportTable.{ExportTable}
use Rattle.types_declared.specs.ExportTablesView.{name_in, export_data_in, no_export_data}
use Rattle.types_check.specs.Exports.{IsExportData}
use Rattle.types_declared.specs.Package.{Package, ExportData}
use Rattle.workspace_check.specs.declared.fault.FileFault.{FileFault}
use Rattle.workspace_check.specs.FaultLists.{ListsPackageFaults}
use Rattle.workspace_check.specs.Verdicts.{Verdicts, AreVerdictsBelow, IsPackageIn}
use Rattle.build_object.specs.Sources.{IsObjectText}
use Rattle.build_unit.specs.declared.unit.Unit.{Unit as PackageUnit}
use Rattle.build_unit.specs.declared.unit.Compiled.TheVariants as compiled

-- `files` are the files of the package q of w that have trees.
pub record AreFilesOf (w : Workspace) (q : List ℕ) (files : List SourceFile) : Type 0 where
  pub parts : List FileParts
  pub faulty : List FaultyParts
  pub parsed : AreParsed (package_files w q) parts faulty
  pub are_files : files ≡ map source_of parts

-- The files of the package q in which the code of p looks up names. They are the files with trees of q if q is in the closure of p, and
-- none otherwise.
pub data AreFilesSeen (w : Workspace) (p q : List ℕ) : List SourceFile → Type 0 where
  within : {files : List SourceFile} → IsInClosure w p q → AreFilesOf w q files → AreFilesSeen w p q files
  beyond : (IsInClosure w p q → ⊥) → AreFilesSeen w p q []

-- `files_of` gives the files of each package in the closure of p, by its path, and no file of any other path.
abbrev pub AreFilesBelow : Workspace → List ℕ → (List ℕ → List SourceFile) → Type 0
AreFilesBelow w p files_of = (q : List ℕ) → AreFilesSeen w p q (files_of q)

-- The package p of w has no fault, and compiles to the export data `i` and the object with this text.
pub record IsCompiled (w : Workspace) (p : List ℕ) (i : ExportData) (object : List ℕ) : Type 0 where
  pub known : Verdicts
  pub right : AreVerdictsBelow w p known
  pub faultless : ListsPackageFaults w p []
  pub checked : Package
  pub is_package : IsPackageIn w known p checked
  pub export_data : IsExportData checked i
  pub files_of : List ℕ → List SourceFile
  pub are_files : AreFilesBelow w p files_of
  pub is_object : IsObjectText checked files_of object

-- The value of a unit: the faults of its package, or its export data and its object.
pub data UnitValue : Type 0 where
  Faults : List FileFault → UnitValue
  Done : ExportData → (object : List ℕ) → UnitValue

-- The value is that of the unit of p in w: all faults of p, at least one, or the export data and the object of p.
abbrev pub IsUnitValue : Workspace → List ℕ → UnitValue → Type 0
IsUnitValue w p (Faults list) = ListsPackageFaults w p list × (list ≡ [] → ⊥)
IsUnitValue w p (Done i object) = IsCompiled w p i object

-- The value of a unit of the program, as a unit of p.
abbrev pub unit_value : List ℕ → PackageUnit → UnitValue
unit_value p (compiled.Faults first others) = Faults (first ∷ others.items)
unit_value p (compiled.Done export_data object) = Done (export_data_in export_data p) object

-- `i` knows nothing of the path q: no name, no export and no type definition.
pub record KnowsNothingOf (i : ExportTable) (q : List ℕ) : Type 0 where
  pub name : name_in i q ≡ None
  pub export_data : export_data_in i q ≡ no_export_data q

-- `i` has export data of no package but p, and the state of no import.
pub record KnowsOnly (p : List ℕ) (i : ExportTable) : Type 0 where
  pub elsewhere : (q : List ℕ) → (q ≡ p → ⊥) → KnowsNothingOf i q
  pub states : (q : List ℕ) → state_in i.states q ≡ Missing

-- If the unit has export data, it has that of no package but p.
abbrev pub ExportsOnly : List ℕ → PackageUnit → Type 0
ExportsOnly p (compiled.Faults first others) = Unit {0}
ExportsOnly p (compiled.Done export_data object) = KnowsOnly p export_data

-- `unit` is the unit of p in w: it has the value of this unit, and export data of no other package.
pub record IsUnitOf (w : Workspace) (p : List ℕ) (unit : PackageUnit) : Type 0 where
  pub value : IsUnitValue w p (unit_value p unit)
  pub alone : ExportsOnly p unit

-- If a unit is given, it is that of the package of this number of w.
abbrev pub IsUnitAt : Workspace → (number : ℕ) → Option PackageUnit → Type 0
IsUnitAt w number given = (p : List ℕ) (unit : PackageUnit) → slice_get (package_paths w) number ≡ Some p → given ≡ Some unit → IsUnitOf w p unit

-- If p is a package of these inputs, `unit` is its unit in them. If it is none, `unit` may be any.
abbrev pub IsUnitIn : Workspace → List ℕ → PackageUnit → Type 0
IsUnitIn inputs p unit = Contains (package_paths inputs) p → IsUnitOf inputs p unit
