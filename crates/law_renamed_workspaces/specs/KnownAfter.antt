-- What is known of packages before the rename of a local declaration: it is right of the edited workspace as it stands.
use Rattle.std.specs.Prelude.{ℕ, ◌≡◌, List, Contains}
use Rattle.base_edits.specs.EditSet.{FileChanges, edited}
use Rattle.base_edits.specs.RevisionsOfEdits.{revision_of}
use Rattle.base_files.specs.Packages.{package_paths}
use Rattle.base_files.specs.Workspace.{Workspace}
use Rattle.go_scope.specs.Bindings.{IsPackageLevel}
use Rattle.types_declared.specs.Package.{Package}
use Rattle.workspace_check.specs.declared.known.Known.{Known}
use Rattle.workspace_check.specs.declared.known.KnownVerdict.{KnownVerdict}
use Rattle.workspace_check.specs.Found.{KnowsVerdicts}
use Rattle.workspace_check.specs.KnownFindings.{IsKnownVerdict}
use Rattle.workspace_check.specs.Verdicts.{Verdicts, AreVerdicts}
use Rattle.refs_binding.specs.declared.declaration.Declaration.TheVariants.{Declared}
use Rattle.refs_binding.specs.Uses.{IsCheckedPackage}
use Rattle.refactor_conflict.specs.Staying.{NoneIsLost}
use Rattle.law_renamed_workspaces.specs.Renames.{IsPlainRename}

-- A plain rename loses and captures no identifier. Its declaration is not package-level: it is a local variable, a parameter, a receiver or
-- the name of an import.
pub record IsKeptLocalRename (w : Workspace) (before : Verdicts) (path : List ℕ) (n : ℕ) (name : List ℕ) (s : FileChanges) : Type 0 where
  pub plain : IsPlainRename w before (Declared path n) name s
  pub kept : NoneIsLost w before (revision_of w s)
  pub local : (p : Package) → IsCheckedPackage w before p → p.path ≡ path → IsPackageLevel p.layout n → ⊥

-- A known verdict on a package is right of the edited workspace too.
abbrev pub LocalRenamesKeepKnown : Type 0
LocalRenamesKeepKnown = (w : Workspace) (before : Verdicts) (path : List ℕ) (n : ℕ) (name : List ℕ) (s : FileChanges) →
    IsKeptLocalRename w before path n name s → (q : List ℕ) → Contains (package_paths w) q → (one : KnownVerdict) → IsKnownVerdict w q one →
    IsKnownVerdict (edited s w) q one

-- So all known verdicts, by package number, are right of the edited workspace.
abbrev pub LocalRenamesKeepVerdicts : Type 0
LocalRenamesKeepVerdicts = (w : Workspace) (before : Verdicts) (path : List ℕ) (n : ℕ) (name : List ℕ) (s : FileChanges) →
    IsKeptLocalRename w before path n name s → (known : Known) → KnowsVerdicts w known → KnowsVerdicts (edited s w) known

-- After such a rename each package has the export data that it had.
abbrev pub ExportDataStay : Type 0
ExportDataStay = (w : Workspace) (before after : Verdicts) (path : List ℕ) (n : ℕ) (name : List ℕ) (s : FileChanges) →
    IsKeptLocalRename w before path n name s → AreVerdicts (edited s w) after → (q : List ℕ) → Contains (package_paths w) q →
    (after q).export_data ≡ (before q).export_data

-- So a known verdict stays right where the edited workspace has verdicts on its packages.
abbrev pub KnownVerdictsStay : Type 0
KnownVerdictsStay = (w : Workspace) (before after : Verdicts) (path : List ℕ) (n : ℕ) (name : List ℕ) (s : FileChanges) →
    IsKeptLocalRename w before path n name s → AreVerdicts (edited s w) after → (q : List ℕ) → Contains (package_paths w) q → (one : KnownVerdict) →
    IsKnownVerdict w q one → IsKnownVerdict (edited s w) q one

-- The premise of the first two laws: after such a rename there are right verdicts on the packages of the edited workspace.
abbrev pub LocalRenamesHaveVerdicts : Type 0
LocalRenamesHaveVerdicts = (w : Workspace) (before : Verdicts) (path : List ℕ) (n : ℕ) (name : List ℕ) (s : FileChanges) →
    IsKeptLocalRename w before path n name s → (after : Verdicts) × AreVerdicts (edited s w) after
