-- The packages of a workspace without faults as they are read: the table of each, and what it sees of others.
use Rattle.std.specs.Prelude.{ℕ, ◌≡◌, List, Some, length, map, slice_get}
use Rattle.base_files.specs.Packages.{package_paths}
use Rattle.base_files.specs.Workspace.{Workspace}
use Rattle.go_ast.specs.SourceFile.{source_of}
use Rattle.workspace_graph.specs.Graphs.{OfPackage}
use Rattle.go_scope.specs.Packages.{ScopedPackage}
use Rattle.types_info.specs.PackageOf.{package_in}
use Rattle.types_declared.specs.ExportTablesView.{name_in, export_data_in}
use Rattle.types_declared.specs.declared.export_tables.ExportTable.{ExportTable}
use Rattle.workspace_check.specs.declared.findings.Findings.{Findings}
use Rattle.workspace_check.specs.Verdicts.{Verdicts, AreSeen}
use Rattle.refs_binding.specs.declared.packages.Packages.{Packages}
use Rattle.refs_binding.specs.Workspaces.{known_in, IsPackageAt}

-- The list has `count` elements, and `P` relates each index to its element.
pub record HoldsOfEach {X : Type 0} (P : ℕ → X → Type 0) (count : ℕ) (list : List X) : Type 0 where
  pub size : length list ≡ count
  pub each : (n : ℕ) (x : X) → slice_get list n ≡ Some x → P n x

-- `seen` is the export data that the package of this number sees of others.
abbrev pub IsSeenBy : Workspace → Verdicts → ℕ → ExportTable → Type 0
IsSeenBy w known n seen = OfPackage w n (λ p. AreSeen w known p (name_in seen) (export_data_in seen))

-- `all` has for each package, by number, the export data that it sees of others.
abbrev pub AreAllSeen : Workspace → Verdicts → List ExportTable → Type 0
AreAllSeen w known all = HoldsOfEach (IsSeenBy w known) (length (package_paths w)) all

-- `table` is the table of the package of this number, which sees `seen` of others. In the table an import without a name declares the name
-- of the imported package.
abbrev pub IsTableAs : Workspace → Verdicts → ℕ → ScopedPackage → ExportTable → Type 0
IsTableAs w known n table seen =
    OfPackage w n (λ path. IsPackageAt w known n (package_in path (map source_of table.files) table (export_data_in seen)))

-- `table` is the table of the package of this number, by what each package sees.
abbrev pub IsTableOf : Workspace → Verdicts → List ExportTable → ℕ → ScopedPackage → Type 0
IsTableOf w known all n table = (seen : ExportTable) → slice_get all n ≡ Some seen → IsTableAs w known n table seen

-- What each package of a workspace sees of others, and the table of each.
pub record AreRead (w : Workspace) (found : Findings) (all : List ExportTable) (list : List ScopedPackage) : Type 0 where
  pub seen : AreAllSeen w (known_in found) all
  pub tables : HoldsOfEach (IsTableOf w (known_in found) all) (length (package_paths w)) list

-- The packages of a workspace without faults were read.
abbrev pub ArePackagesRead : Packages → Type 0
ArePackagesRead p = AreRead p.workspace.now.graph p.workspace.now.findings p.seen.now p.tables.items
