-- What is known of packages is right of the edited workspace after a plain rename that loses and captures no identifier.
use Rattle.std.specs.Prelude.{ℕ, ◌≡◌, true, false, List, Some, slice_get, Contains}
use Rattle.base_edits.specs.EditSet.{FileChanges, edited}
use Rattle.base_files.specs.Packages.{package_paths}
use Rattle.base_files.specs.Workspace.{Workspace}
use Rattle.go_scope.specs.Bindings.{IsPackageLevel}
use Rattle.types_declared.specs.Definitions.{PlacedField, IsFieldOf, IsMethodOf}
use Rattle.types_declared.specs.Laid.{is_exported}
use Rattle.types_declared.specs.Package.{Package, PlacedFunction, ExportData, symbol_in}
use Rattle.workspace_check.specs.declared.finding.Finding.{Finding}
use Rattle.workspace_check.specs.declared.known.Known.{Known}
use Rattle.workspace_check.specs.declared.known.KnownVerdict.{KnownVerdict}
use Rattle.workspace_check.specs.Found.{KnowsVerdicts}
use Rattle.workspace_check.specs.KnownFindings.{IsFindingOf, IsKnownVerdict, verdict_from}
use Rattle.workspace_check.specs.Verdicts.{Verdicts}
use Rattle.refs_binding.specs.declared.declaration.Declaration.{Declaration}
use Rattle.refs_binding.specs.declared.declaration.Declaration.TheVariants.{Declared, Field, Method}
use Rattle.refs_binding.specs.Uses.{IsCheckedPackage}
use Rattle.law_renamed_workspaces.specs.KnownVerdicts.{IsKeptRename, IsHidden, IsUnseen, IsHomeNumber, HoldVerdictsBut}
use Rattle.law_renamed_workspaces.specs.RenamedData.{IsAlone, export_renamed, field_renamed, method_renamed, definition_changed, HoldVerdictsWith}

-- The finding of each package stays right.
abbrev pub RenamesKeepFindings : Type 0
RenamesKeepFindings = (w : Workspace) (before : Verdicts) (d : Declaration) (name : List ℕ) (s : FileChanges) → IsKeptRename w before d name s →
    (q : List ℕ) → Contains (package_paths w) q → (f : Finding) → IsFindingOf w q f → IsFindingOf (edited s w) q f

-- A known verdict on a package stays right if the rename changes nothing that others see of it.
abbrev pub RenamesKeepUnseen : Type 0
RenamesKeepUnseen = (w : Workspace) (before : Verdicts) (d : Declaration) (name : List ℕ) (s : FileChanges) (h : IsKeptRename w before d name s) →
    (q : List ℕ) → Contains (package_paths w) q → IsUnseen w before d h.plain.rename.set name q → (one : KnownVerdict) → IsKnownVerdict w q one →
    IsKnownVerdict (edited s w) q one

-- All known verdicts stay right if other packages see the declaration neither under its name nor under the new one.
abbrev pub HiddenRenamesKeepAll : Type 0
HiddenRenamesKeepAll = (w : Workspace) (before : Verdicts) (d : Declaration) (name : List ℕ) (s : FileChanges) → IsKeptRename w before d name s →
    IsHidden w before d name → (known : Known) → KnowsVerdicts w known → KnowsVerdicts (edited s w) known

-- All known verdicts stay right but those on the declaring packages, whose numbers are dropped.
abbrev pub RenamesKeepOthers : Type 0
RenamesKeepOthers = (w : Workspace) (before : Verdicts) (d : Declaration) (name : List ℕ) (s : FileChanges) (h : IsKeptRename w before d name s) →
    (known rest : Known) → KnowsVerdicts w known → HoldVerdictsBut (IsHomeNumber w h.plain.rename.set) known.verdicts.items rest.verdicts.items →
    KnowsVerdicts (edited s w) rest

-- The known verdict `now` has the finding of `was`, no fault, and the export data of `was`, changed so.
pub record IsVerdictWith (path : List ℕ) (change : ExportData → ExportData) (was now : KnownVerdict) : Type 0 where
  pub finding : now.finding ≡ was.finding
  pub verdict : verdict_from path now.known ≡ record { faulty = false; export_data = change (verdict_from path was.known).export_data }

-- `rest` has the known verdicts of `known`. That on the package at the path, of this number, has export data changed so, or is gone.
pub record AreChangedAt (number : ℕ) (path : List ℕ) (change : ExportData → ExportData) (known rest : Known) : Type 0 where
  pub was : KnownVerdict
  pub now : KnownVerdict
  pub at_number : slice_get known.verdicts.items number ≡ Some (Some was)
  pub is_changed : IsVerdictWith path change was now
  pub held : HoldVerdictsWith number now known.verdicts.items rest.verdicts.items

-- All known verdicts are right with the new name in the export data of the declaring package: that of a package-level declaration with an
-- exported name.
abbrev pub RenamedExportsAreKnown : Type 0
RenamedExportsAreKnown = (w : Workspace) (before : Verdicts) (p : Package) (n : ℕ) (name : List ℕ) (s : FileChanges) → IsCheckedPackage w before p →
    IsKeptRename w before (Declared p.path n) name s → IsPackageLevel p.layout n → is_exported (p.names n) ≡ true → (number : ℕ) →
    slice_get (package_paths w) number ≡ Some p.path → (known rest : Known) → KnowsVerdicts w known →
    AreChangedAt number p.path (export_renamed (p.names n) name) known rest → KnowsVerdicts (edited s w) rest

-- Or that of a field of a type definition.
abbrev pub RenamedFieldsAreKnown : Type 0
RenamedFieldsAreKnown = (w : Workspace) (before : Verdicts) (p : Package) (rank : ℕ) (name : List ℕ) (s : FileChanges) → IsCheckedPackage w before p →
    (h : IsKeptRename w before (Field (symbol_in p rank)) name s) → IsAlone (Field (symbol_in p rank)) h.plain.rename.set →
    (owner : ℕ) (old : List ℕ) (f : PlacedField) → IsFieldOf p owner old rank f →
    (number : ℕ) → slice_get (package_paths w) number ≡ Some p.path → (known rest : Known) → KnowsVerdicts w known →
    AreChangedAt number p.path (definition_changed owner (field_renamed old name)) known rest → KnowsVerdicts (edited s w) rest

-- Or that of a method.
abbrev pub RenamedMethodsAreKnown : Type 0
RenamedMethodsAreKnown = (w : Workspace) (before : Verdicts) (p : Package) (rank : ℕ) (name : List ℕ) (s : FileChanges) → IsCheckedPackage w before p →
    (h : IsKeptRename w before (Method (symbol_in p rank)) name s) → IsAlone (Method (symbol_in p rank)) h.plain.rename.set →
    (owner : ℕ) (old : List ℕ) (f : PlacedFunction) → IsMethodOf p owner old rank f →
    (number : ℕ) → slice_get (package_paths w) number ≡ Some p.path → (known rest : Known) → KnowsVerdicts w known →
    AreChangedAt number p.path (definition_changed owner (method_renamed old name)) known rest → KnowsVerdicts (edited s w) rest
