-- The laws of verdicts, as statements.
use Rattle.std.specs.Prelude.{ℕ, ◌≡◌, false, List, Contains}
use Rattle.base_files.specs.Workspace.{Workspace}
use Rattle.base_files.specs.Packages.{package_paths, package_files}
use Rattle.types_declared.specs.Package.{Package}
use Rattle.workspace_check.specs.declared.fault.FileFault.{FileFault}
use Rattle.workspace_check.specs.Verdicts.{BuildsOn, Verdict, Verdicts, IsPackageIn, IsVerdict, AreVerdictsBelow}
use Rattle.workspace_check.specs.FaultLists.{ListsPackageFaults, ListsFaults}
use Rattle.workspace_check.specs.Closures.{HasSameClosure}
use Rattle.workspace_check.specs.Earlier.{HaveSameImports}
use Rattle.workspace_check.specs.KnownFindings.{IsKnownVerdict}
use Rattle.workspace_check.specs.declared.known.KnownVerdict.{KnownVerdict}

-- Both verdicts agree whether there are faults, and if there are none, on the export data.
pub record IsSameVerdict (v u : Verdict) : Type 0 where
  pub faulty : v.faulty ≡ u.faulty
  pub export_data : v.faulty ≡ false → v.export_data ≡ u.export_data

-- A package has at most one verdict.
abbrev pub HaveOneVerdict : Type 0
HaveOneVerdict = (w : Workspace) (p : List ℕ) (v u : Verdict) → IsVerdict w p v → IsVerdict w p u → IsSameVerdict v u

-- A package is checked as at most one `Package`.
abbrev pub AreCheckedAsOne : Type 0
AreCheckedAsOne = (w : Workspace) (p : List ℕ) (a b : Verdicts) → AreVerdictsBelow w p a → AreVerdictsBelow w p b →
    (x y : Package) → IsPackageIn w a p x → IsPackageIn w b p y → x ≡ y

-- A package has at most one fault list.
abbrev pub PackagesHaveOneList : Type 0
PackagesHaveOneList = (w : Workspace) (p : List ℕ) (a b : List FileFault) → ListsPackageFaults w p a → ListsPackageFaults w p b → a ≡ b

-- A workspace has at most one fault list.
abbrev pub WorkspacesHaveOneList : Type 0
WorkspacesHaveOneList = (w : Workspace) (a b : List FileFault) → ListsFaults w a → ListsFaults w b → a ≡ b

-- Takes two workspaces with the same packages and imports, and a package with the same files in both. If the verdicts on all packages that
-- it builds on are equal, its verdicts in both are equal.
abbrev pub VerdictsFollowExportData : Type 0
VerdictsFollowExportData = (v w : Workspace) (p : List ℕ) (a b : Verdicts) (x : Verdict) → HaveSameImports v w → package_files v p ≡ package_files w p →
    AreVerdictsBelow v p a → AreVerdictsBelow w p b → ((q : List ℕ) → BuildsOn v p q → IsSameVerdict (a q) (b q)) → IsVerdict v p x → IsVerdict w p x

-- If the closure of a package has the same texts in two workspaces, a verdict on it in one is its verdict in the other.
abbrev pub AreLocalVerdicts : Type 0
AreLocalVerdicts = (w x : Workspace) (p : List ℕ) (v : Verdict) → Contains (package_paths w) p → HasSameClosure w x p → IsVerdict w p v → IsVerdict x p v

-- If the closure of a package has the same texts in two workspaces, its fault list in one is its fault list in the other.
abbrev pub AreLocalLists : Type 0
AreLocalLists = (w x : Workspace) (p : List ℕ) (list : List FileFault) → Contains (package_paths w) p → HasSameClosure w x p → ListsPackageFaults w p list →
    ListsPackageFaults x p list

-- If the closure of a package has the same texts in two workspaces, one table of verdicts and one `Package` are right in both.
abbrev pub AreLocallyChecked : Type 0
AreLocallyChecked = (w x : Workspace) (p : List ℕ) (known : Verdicts) (c : Package) → Contains (package_paths w) p → HasSameClosure w x p →
    AreVerdictsBelow w p known → IsPackageIn w known p c →
    AreVerdictsBelow x p known × IsPackageIn x known p c

-- If the closure of a package has the same texts in two workspaces, a known verdict on it in one is right in the other.
abbrev pub AreLocallyKnown : Type 0
AreLocallyKnown = (w x : Workspace) (p : List ℕ) (one : KnownVerdict) → Contains (package_paths w) p → HasSameClosure w x p → IsKnownVerdict w p one →
    IsKnownVerdict x p one
