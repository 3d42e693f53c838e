-- The steps from a package to its unit: what checking found, and the text of the object.
use Rattle.std.specs.Prelude.{ℕ, ◌≡◌, List, [], Option, None, Some, slice_get}
use Rattle.std.specs.List.Sorted.{IsStrictlyIncreasing}
use Rattle.base_files.specs.Packages.{package_paths}
use Rattle.base_files.specs.Workspace.{Workspace}
use Rattle.go_ast.specs.SourceFile.{SourceFile}
use Rattle.workspace_graph.specs.Graphs.{ListsPackages}
use Rattle.workspace_graph.specs.Packages.{IsInClosure}
use Rattle.types_expr.specs.declared.world.Definition.{Definition}
use Rattle.types_declared.specs.Package.{Package}
use Rattle.types_expr.specs.declared.exports.ExportData.{ExportData}
use Rattle.types_declared.specs.declared.export_tables.ExportTable.{ExportTable}
use Rattle.types_declared.specs.ExportTablesView.{export_data_in, export_data_known, name_in}
use Rattle.workspace_check.specs.declared.fault.FileFault.{FileFault}
use Rattle.workspace_check.specs.FaultLists.{AreListedFaults}
use Rattle.workspace_check.specs.Found.{AreVerdictsOf, KnowsVerdicts}
use Rattle.workspace_check.specs.declared.finding.Finding.{Finding}
use Rattle.workspace_check.specs.KnownFindings.{verdict_from, AreEnteringsOf, AreUsesOf}
use Rattle.workspace_check.specs.Verdicts.{Verdicts, AreSeen, IsFaultBy, IsPackageIn, IsVerdict, AreVerdictsBelow}
use Rattle.build_object.specs.declared.packages.ObjectNames.{ObjectNames}
use Rattle.build_object.specs.ObjectView.{HaveNames}
use Rattle.build_object.specs.Sources.{IsObjectText}
use Rattle.build_unit.specs.declared.compiling.MadeUnit.{MadeUnit}
use Rattle.build_unit.specs.declared.package_at.PackageAt.{PackageAt}
use Rattle.build_unit.specs.declared.unit.Unit.{Unit as PackageUnit}
use Rattle.build_unit.specs.Units.{AreFilesBelow, IsUnitIn, IsUnitOf, KnowsOnly, unit_value, Faults}

-- `at` is the package p of its graph: it has the number of p, the numbers of the packages in the closure of p, in order, and right
-- verdicts.
pub record IsPackageToBuild (at : PackageAt) (p : List ℕ) : Type 0 where
  pub has_path : slice_get (package_paths at.graph.now) at.number ≡ Some p
  pub closure : ListsPackages at.graph.now (IsInClosure at.graph.now p) at.closure.now
  pub rising : IsStrictlyIncreasing at.closure.now
  pub known : KnowsVerdicts at.graph.now at.known.now

-- `packages` has the names of the declarations of each package in the closure of p.
pub record HaveNamesBelow (w : Workspace) (p : List ℕ) (packages : ObjectNames) : Type 0 where
  pub files_of : List ℕ → List SourceFile
  pub are_files : AreFilesBelow w p files_of
  pub have_names : HaveNames packages files_of

-- The package p has no fault. `known` are the verdicts on the packages that it builds on. `own` is its export data as far as known.
-- `found` has the uses of members in its files, and the entries of values into interfaces.
pub record IsFaultlessPackage (w : Workspace) (known : Verdicts) (own : Option ExportData) (p : List ℕ) (found : Finding) : Type 0 where
  pub below : AreVerdictsBelow w p known
  pub verdict : IsVerdict w p (verdict_from p own)
  pub listed : AreListedFaults (IsFaultBy w known p) []
  pub uses : AreUsesOf w known p found.members.items
  pub enterings : AreEnteringsOf w known p found.enterings.items

-- The package p has no fault, by some verdicts on the packages that it builds on. `seen` has exactly the export data that p sees of other
-- packages. `own` is the export data of p as far as known. `found` has the uses of members in its files, and the entries.
pub record IsFaultlessBySeen (w : Workspace) (seen : ExportTable) (own : Option ExportData) (p : List ℕ) (found : Finding) : Type 0 where
  pub known : Verdicts
  pub faultless : IsFaultlessPackage w known own p found
  pub are_seen : AreSeen w known p (name_in seen) (export_data_in seen)

-- `one` has the export data `known` under `path`, and knows nothing of any other path.
pub record HasExactly (path : List ℕ) (known : Option ExportData) (one : ExportTable) : Type 0 where
  pub same : export_data_in one path ≡ export_data_known path known
  pub alone : KnowsOnly path one

-- The unit stands for exactly these faults.
abbrev pub HoldsFaults : List FileFault → PackageUnit → Type 0
HoldsFaults list unit = (p : List ℕ) → unit_value p unit ≡ Faults list

-- `made` has the unit of the package p of w, and right verdicts on packages of w.
pub record IsMadeUnit (w : Workspace) (p : List ℕ) (made : MadeUnit) : Type 0 where
  pub unit : IsUnitOf w p made.unit
  pub verdicts : AreVerdictsOf w made.found.items

-- `made` has the unit of p, if p is a package of w, and right verdicts on packages of w.
pub record IsMadeUnitIn (w : Workspace) (p : List ℕ) (made : MadeUnit) : Type 0 where
  pub unit : IsUnitIn w p made.unit
  pub verdicts : AreVerdictsOf w made.found.items

-- A package that is checked and printed in one go.

-- The type definitions of export data, and none where there is no export data.
abbrev pub found_definitions : Option ExportData → List Definition
found_definitions None = []
found_definitions (Some i) = i.definitions.items

-- `text` is the text of the object of the package p, which is checked as the package value c.
pub record IsPrintedAs (w : Workspace) (p : List ℕ) (c : Package) (text : List ℕ) : Type 0 where
  pub files_of : List ℕ → List SourceFile
  pub are_files : AreFilesBelow w p files_of
  pub is_object : IsObjectText c files_of text

-- If `found` has a text, it is the text of the object of the package p, which is checked as the package value c.
abbrev pub MayPrint : Workspace → List ℕ → Package → Option (List ℕ) → Type 0
MayPrint w p c found = (text : List ℕ) → found ≡ Some text → IsPrintedAs w p c text

-- `text` is the text of the object of the package p of w.
pub record IsTextOf (w : Workspace) (p : List ℕ) (text : List ℕ) : Type 0 where
  pub known : Verdicts
  pub right : AreVerdictsBelow w p known
  pub checked : Package
  pub is_package : IsPackageIn w known p checked
  pub is_printed : IsPrintedAs w p checked text

-- If `found` has a text, it is the text of the object of the package p of w.
abbrev pub MayBeText : Workspace → List ℕ → Option (List ℕ) → Type 0
MayBeText w p found = (text : List ℕ) → found ≡ Some text → IsTextOf w p text
