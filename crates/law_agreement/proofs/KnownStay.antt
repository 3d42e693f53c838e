-- What is known of packages stays right, by the verdicts on the edited workspace, whatever they are.
use Rattle.std.proofs.Common.{ℕ, ◌≡◌, List, refl}
use Rattle.std.specs.Prelude.{Some, slice_get, Contains}
use Rattle.base_edits.specs.EditSet.{FileChanges, edited}
use Rattle.base_files.specs.Packages.{package_paths}
use Rattle.base_files.specs.Workspace.{Workspace}
use Rattle.types_declared.specs.Package.{ExportData, symbol_in}
use Rattle.workspace_check.specs.declared.finding.Finding.{Finding}
use Rattle.workspace_check.specs.declared.known.Known.{Known}
use Rattle.workspace_check.specs.declared.known.KnownVerdict.{KnownVerdict}
use Rattle.workspace_check.specs.Found.{KnowsVerdicts}
use Rattle.workspace_check.specs.KnownFindings.{IsFindingOf, IsKnownVerdict}
use Rattle.workspace_check.specs.Verdicts.{Verdicts, AreVerdicts}
use Rattle.refs_binding.specs.declared.declaration.Declaration.{Declaration}
use Rattle.refs_binding.specs.declared.declaration.Declaration.TheVariants.{Declared, Field, Method}
use Rattle.refs_places.specs.Outside.{declaring_path}
use Rattle.law_renamed_workspaces.specs.KnownVerdicts.{IsKeptRename, IsHidden, IsUnseen, IsHomeNumber, HoldVerdictsBut}
use Rattle.law_renamed_workspaces.specs.RenamedData.{export_renamed, field_renamed, method_renamed, definition_changed}
use Rattle.law_renamed_workspaces.proofs.KnownVerdictsLaws.{findings, unseen_verdicts, hidden, all_others}
use Rattle.law_renamed_workspaces.proofs.RenamedLaws.{exports_are_renamed, fields_are_renamed, methods_are_renamed}
use Rattle.law_renamed_workspaces.proofs.RenamedVerdicts.{all_renamed}
use Rattle.law_renamed_workspaces.proofs.NewVerdicts.{have_verdicts}
use Rattle.law_agreement.specs.KnownStay.{RenamesKeepFindings, RenamesKeepUnseen, HiddenRenamesKeepAll, RenamesKeepOthers, AreChangedAt}
use Rattle.law_agreement.specs.KnownStay.{RenamedExportsAreKnown, RenamedFieldsAreKnown, RenamedMethodsAreKnown}
use Rattle.law_renamed_workspaces.specs.RenamedData.{IsAlone}
use Rattle.law_renamed_workspaces.proofs.RenamedSets.{own_alone}
use Rattle.refs_binding.specs.Uses.{IsCheckedPackage}

abbrev HasVerdicts : Workspace → FileChanges → Type 0
HasVerdicts w s = (after : Verdicts) × AreVerdicts (edited s w) after

have : (w : Workspace) (before : Verdicts) (d : Declaration) (name : List ℕ) (s : FileChanges) → IsKeptRename w before d name s → HasVerdicts w s
have w before d name s h = have_verdicts w before d name s h.plain h.kept

findings_by : (w : Workspace) (before : Verdicts) (d : Declaration) (name : List ℕ) (s : FileChanges) → IsKeptRename w before d name s → HasVerdicts w s →
    (q : List ℕ) → Contains (package_paths w) q → (f : Finding) → IsFindingOf w q f → IsFindingOf (edited s w) q f
findings_by w before d name s h (after, right) q has f k = findings w before after d name s h right q has f k

pub keep_findings : RenamesKeepFindings
keep_findings w before d name s h q has f k = findings_by w before d name s h (have w before d name s h) q has f k

unseen_by : (w : Workspace) (before : Verdicts) (d : Declaration) (name : List ℕ) (s : FileChanges) (h : IsKeptRename w before d name s) →
    HasVerdicts w s → (q : List ℕ) → Contains (package_paths w) q → IsUnseen w before d h.plain.rename.set name q → (one : KnownVerdict) →
    IsKnownVerdict w q one → IsKnownVerdict (edited s w) q one
unseen_by w before d name s h (after, right) q has unseen one k = unseen_verdicts w before after d name s h right q has unseen one k

pub keep_unseen : RenamesKeepUnseen
keep_unseen w before d name s h q has unseen one k = unseen_by w before d name s h (have w before d name s h) q has unseen one k

hidden_by : (w : Workspace) (before : Verdicts) (d : Declaration) (name : List ℕ) (s : FileChanges) → IsKeptRename w before d name s → HasVerdicts w s →
    IsHidden w before d name → (known : Known) → KnowsVerdicts w known → KnowsVerdicts (edited s w) known
hidden_by w before d name s h (after, right) away known k = hidden w before after d name s h right away known k

pub keep_hidden : HiddenRenamesKeepAll
keep_hidden w before d name s h away known k = hidden_by w before d name s h (have w before d name s h) away known k

others_by : (w : Workspace) (before : Verdicts) (d : Declaration) (name : List ℕ) (s : FileChanges) (h : IsKeptRename w before d name s) →
    HasVerdicts w s → (known rest : Known) → KnowsVerdicts w known →
    HoldVerdictsBut (IsHomeNumber w h.plain.rename.set) known.verdicts.items rest.verdicts.items → KnowsVerdicts (edited s w) rest
others_by w before d name s h (after, right) known rest k but = all_others w before after d name s h right known rest k but

pub keep_others : RenamesKeepOthers
keep_others w before d name s h known rest k but = others_by w before d name s h (have w before d name s h) known rest k but

-- all with that on the declaring package changed

changed_by : (w : Workspace) (before : Verdicts) (d : Declaration) (name : List ℕ) (s : FileChanges) (h : IsKeptRename w before d name s) →
    IsAlone d h.plain.rename.set → (number : ℕ) (path : List ℕ) → slice_get (package_paths w) number ≡ Some path → declaring_path d ≡ Some path →
    (change : ExportData → ExportData) →
    ((after : Verdicts) → AreVerdicts (edited s w) after → (after path).export_data ≡ change (before path).export_data) → HasVerdicts w s →
    (known rest : Known) → KnowsVerdicts w known → AreChangedAt number path change known rest → KnowsVerdicts (edited s w) rest
changed_by w before d name s h alone number path at of change told (after, right) known rest knows given =
    all_renamed w before after d name s h alone right number path at of known rest knows given.was given.now given.at_number
    (record { change = change; changed = told after right; finding = given.is_changed.finding; known = given.is_changed.verdict }) given.held

pub exports_known : RenamedExportsAreKnown
exports_known w before p n name s is h level exported number at known rest knows given =
    let d = Declared p.path n in
    changed_by w before d name s h (own_alone (IsCheckedPackage w before) d h.plain.rename.set h.plain.rename.is_set (λ m. m)) number p.path at refl
    (export_renamed (p.names n) name)
    (λ after right. exports_are_renamed w before after p n name s is h right level exported) (have w before d name s h) known rest knows given

pub fields_known : RenamedFieldsAreKnown
fields_known w before p rank name s is h alone owner old f of number at known rest knows given =
    let d = Field (symbol_in p rank) in
    changed_by w before d name s h alone number p.path at refl (definition_changed owner (field_renamed old name))
    (λ after right. fields_are_renamed w before after p rank name s is h alone right owner old f of) (have w before d name s h) known rest knows given

pub methods_known : RenamedMethodsAreKnown
methods_known w before p rank name s is h alone owner old f of number at known rest knows given =
    let d = Method (symbol_in p rank) in
    changed_by w before d name s h alone number p.path at refl (definition_changed owner (method_renamed old name))
    (λ after right. methods_are_renamed w before after p rank name s is h alone right owner old f of) (have w before d name s h) known rest knows given
