-- The verdict on a package: whether it has faults, and if not, its export data. It follows from the verdicts on the packages that it builds
-- on: those that it imports, directly or indirectly, and that don't so import it.
use Rattle.std.specs.Prelude.{ℕ, ◌≡◌, ◌⊎◌, ◌↔◌, Bool, true, false, List, [], Option, Some, None, slice_get, Contains, map}
use Rattle.base_files.specs.Workspace.{Workspace}
use Rattle.base_files.specs.Packages.{package_paths, package_files}
use Rattle.go_scanner.specs.declared.refusal.TextFault.{TextFault as TextFault}
use Rattle.go_ast.specs.Faults.{IsFaultOf}
use Rattle.go_ast.specs.SourceFile.{SourceFile, FileParts, source_of}
use Rattle.workspace_graph.specs.Packages.{PackageImports, IsInClosure}
pub use Rattle.workspace_graph.specs.Reaching.{BuildsOn}
use Rattle.workspace_graph.specs.Parsed.{AreParsed}
use Rattle.types_declared.specs.declared.fault.Fault.{Fault}
use Rattle.types_declared.specs.Stage.{FirstOf}
use Rattle.types_declared.specs.declared.states.ImportState.{ImportState}
use Rattle.types_declared.specs.declared.states.ImportState.TheVariants.{Missing, OnCycle, Faulty, Good}
use Rattle.types_resolve.specs.Stages.{IsOuterFault}
use Rattle.types_declared.specs.Package.{Package, ExportData}
use Rattle.types_check.specs.Exports.{IsExportData}
use Rattle.types_declared.specs.ExportTablesView.{no_export_data}
use Rattle.types_info.specs.PackageOf.{IsPackageOf}
use Rattle.types_check.specs.Check.{IsLaterFault}
use Rattle.workspace_check.specs.declared.fault.FileFault.{FileFault}
use Rattle.workspace_check.specs.Faults.{placed, placed_in}

-- Whether a package has faults, and its export data if it has none.
pub record Verdict : Type 0 where
  pub faulty : Bool
  pub export_data : ExportData

-- Verdicts on packages, by package path.
abbrev pub Verdicts : Type 0
Verdicts = List ℕ → Verdict

-- The state of a path `q` that `p` imports. The path is missing if no package has it, and on a cycle if the closure of `q` holds `p`. Else
-- `p` builds on `q`, which has faults or has none.
pub data IsStateOf (w : Workspace) (known : Verdicts) (p q : List ℕ) : ImportState → Type 0 where
  is_missing : (Contains (package_paths w) q → ⊥) → IsStateOf w known p q Missing
  is_on_cycle : IsInClosure w q p → IsStateOf w known p q OnCycle
  is_faulty : BuildsOn w p q → (known q).faulty ≡ true → IsStateOf w known p q Faulty
  is_good : BuildsOn w p q → (known q).faulty ≡ false → IsStateOf w known p q Good

-- The state of each path that `p` imports.
abbrev pub AreStates : Workspace → Verdicts → List ℕ → (List ℕ → ImportState) → Type 0
AreStates w known p state = (q : List ℕ) → PackageImports w p q → IsStateOf w known p q (state q)

-- What `p` sees of a path: the name and the export data if `p` builds on that package and it has no faults, else nothing.
pub data IsSeenAs (w : Workspace) (known : Verdicts) (p q : List ℕ) : Option (List ℕ) → ExportData → Type 0 where
  seen : BuildsOn w p q → (known q).faulty ≡ false → IsSeenAs w known p q (Some (known q).export_data.name) (known q).export_data
  unseen : (BuildsOn w p q → (known q).faulty ≡ true) → IsSeenAs w known p q None (no_export_data q)

-- The names and the export data that `p` sees, by package path.
abbrev pub AreSeen : Workspace → Verdicts → List ℕ → (List ℕ → Option (List ℕ)) → (List ℕ → ExportData) → Type 0
AreSeen w known p name_of export_data_of = (q : List ℕ) → IsSeenAs w known p q (name_of q) (export_data_of q)

-- The package `p` as it is checked, by the verdicts on others. Each of its files has a tree.
pub record IsPackageIn (w : Workspace) (known : Verdicts) (p : List ℕ) (checked : Package) : Type 0 where
  pub files : List FileParts
  pub parsed : AreParsed (package_files w p) files []
  pub name_of : List ℕ → Option (List ℕ)
  pub export_data_of : List ℕ → ExportData
  pub are_seen : AreSeen w known p name_of export_data_of
  pub is_package : IsPackageOf p files name_of export_data_of checked

-- The faults of p, in stages

-- The first fault of a file of `p` that has no tree.
pub record IsUnreadFault (w : Workspace) (p : List ℕ) (f : FileFault) : Type 0 where
  pub path : List ℕ
  pub text : List ℕ
  pub fault : TextFault
  pub of_package : Contains (package_files w p) (path, text)
  pub is_fault : IsFaultOf text fault
  pub at : f ≡ placed path fault

-- A fault of the later stages of checking `p`: of scopes, members or types.
pub record IsFaultBehindOuter (w : Workspace) (known : Verdicts) (p : List ℕ) (fault : Fault) : Type 0 where
  pub checked : Package
  pub is_package : IsPackageIn w known p checked
  pub is_fault : IsLaterFault checked fault

-- A fault of `p` where each file has a tree: of clauses or imports, or if there is none of these, of scopes, members or types.
pub record IsReadFault (w : Workspace) (known : Verdicts) (p : List ℕ) (f : FileFault) : Type 0 where
  pub files : List FileParts
  pub parsed : AreParsed (package_files w p) files []
  pub state : List ℕ → ImportState
  pub are_states : AreStates w known p state
  pub fault : Fault
  pub is_fault : FirstOf (IsOuterFault state (map source_of files)) (IsFaultBehindOuter w known p) fault
  pub source : SourceFile
  pub in_file : slice_get (map source_of files) fault.file ≡ Some source
  pub at : f ≡ placed_in source fault

-- A fault of `p`, by the verdicts on the packages that it builds on.
abbrev pub IsFaultBy : Workspace → Verdicts → List ℕ → FileFault → Type 0
IsFaultBy w known p f = IsUnreadFault w p f ⊎ IsReadFault w known p f

-- The verdict on p

-- `i` is the export data of `p`.
pub record HasExportData (w : Workspace) (known : Verdicts) (p : List ℕ) (i : ExportData) : Type 0 where
  pub checked : Package
  pub is_package : IsPackageIn w known p checked
  pub is_export_data : IsExportData checked i

-- `v` is the verdict on `p` that follows from the verdicts `known` on the packages that it builds on.
pub record IsVerdictBy (w : Workspace) (known : Verdicts) (p : List ℕ) (v : Verdict) : Type 0 where
  pub has_faults : (v.faulty ≡ true) ↔ ((f : FileFault) × IsFaultBy w known p f)
  pub has_export_data : v.faulty ≡ false → HasExportData w known p v.export_data

-- `v` is the verdict on `p`: it follows from the verdicts on the packages that `p` builds on.
pub data IsVerdict (w : Workspace) : List ℕ → Verdict → Type 0 where
  follows : {p : List ℕ} {v : Verdict} (known : Verdicts) → ((q : List ℕ) → BuildsOn w p q → IsVerdict w q (known q)) → IsVerdictBy w known p v →
      IsVerdict w p v

-- `known` has the right verdict on each package that `p` builds on.
abbrev pub AreVerdictsBelow : Workspace → List ℕ → Verdicts → Type 0
AreVerdictsBelow w p known = (q : List ℕ) → BuildsOn w p q → IsVerdict w q (known q)

-- `known` has the right verdict on each package of the workspace.
abbrev pub AreVerdicts : Workspace → Verdicts → Type 0
AreVerdicts w known = (p : List ℕ) → Contains (package_paths w) p → IsVerdict w p (known p)
