-- What follows where a package has no fault: it is checked as one package, others see of it what is known, and it compiles to the
-- object that is printed.
use Rattle.std.proofs.Common.{ℕ, ◌≡◌, inl, inr, List, [], map, sym, ap, subst, ◌∙◌}
use Rattle.std.specs.Prelude.{Option, slice_get}
use Rattle.std.proofs.lemmas.Bool.{cases_Bool}
use Rattle.base_lemmas.proofs.Elements.{nothing_in}
use Rattle.base_files.specs.Workspace.{Workspace}
use Rattle.base_files.specs.Packages.{package_files}
use Rattle.go_ast.specs.SourceFile.{FileParts}
use Rattle.workspace_graph.specs.FaultyFiles.{FaultyParts}
use Rattle.workspace_graph.specs.Parsed.{AreParsed}
use Rattle.types_expr.specs.declared.world.Definition.{Definition}
use Rattle.types_expr.specs.WorldView.{definition_or_none, definitions_listed, ranked}
use Rattle.types_info.specs.PackageOf.{IsPackageOf}
use Rattle.types_expr.specs.declared.exports.ExportData.{ExportData as FoundExportData}
use Rattle.types_declared.specs.declared.export_tables.ExportTable.{ExportTable}
use Rattle.types_declared.specs.Definitions.{IsDefinition}
use Rattle.types_check.specs.Exports.{IsExportData}
use Rattle.types_declared.specs.ExportTablesView.{export_data_known}
use Rattle.types_info.specs.MemberUses.{AreEnterings, AreMemberUses, enterings_in, uses_in}
use Rattle.types_declared.specs.Package.{Package, ExportData, symbol_in}
use Rattle.workspace_check.specs.FaultLists.{AreListedFaults}
use Rattle.workspace_check.specs.Steps.{SeesExactly}
use Rattle.workspace_check.specs.KnownFindings.{verdicts_by, verdict_from, IsFinding, IsFindingOf}
use Rattle.workspace_check.specs.Verdicts.{Verdicts, AreSeen, AreVerdictsBelow, HasExportData, IsFaultBy, IsPackageIn, IsVerdict, IsVerdictBy}
use Rattle.workspace_check.specs.declared.finding.Finding.{Finding}
use Rattle.workspace_check.proofs.Adding.{finding_as}
use Rattle.workspace_check.proofs.OnePackage.{all_read, one_checked}
use Rattle.workspace_check.proofs.OneVerdict.{checked_as_one, right_alike, verdict_by}
use Rattle.build_object.specs.declared.packages.ObjectNames.{ObjectNames}
use Rattle.build_object.specs.ObjectView.{AreObjectDefinitions, IsObjectTextOf, OwnDefinitionsOf}
use Rattle.build_unit.specs.Compiling.{HaveNamesBelow, IsFaultlessPackage, IsFaultlessBySeen, IsTextOf}
use Rattle.build_unit.specs.Units.{IsCompiled}

-- the definitions of an interface are those of the package, by their ranks
own_definitions : (p : Package) (known : Option FoundExportData) (list : List Definition) → IsExportData p (export_data_known p.path known) →
    ((rank : ℕ) → slice_get list rank ≡ ranked (definitions_listed known) rank) → AreObjectDefinitions p list
own_definitions p known list i same = record {
  own = λ rank d at. subst (λ (o : Option Definition). IsDefinition p rank (definition_or_none (symbol_in p rank) o)) (sym (same rank))
      (i.definitions rank d at);
  beyond = λ rank past. ap (λ (o : Option Definition). definition_or_none (symbol_in p rank) o) (same rank) ∙ i.beyond rank past;
}

module _ (w : Workspace) (p : List ℕ) (known : Verdicts) (one : Option FoundExportData) (f : Finding)
    (found : IsFaultlessPackage w known one p f) where
  -- what others see of it
  own : HasExportData w known p (export_data_known p one)
  own =
      let verdict : IsVerdictBy w known p (verdict_from p one) = verdict_by w p known (verdict_from p one) found.below found.verdict in
      verdict.has_export_data (elim (cases_Bool (verdict_from p one).faulty) [
        | inl e ↦ (let x = verdict.has_faults.0 e in absurd (nothing_in x.0 ((found.listed.each x.0).1 x.1)))
        | inr e ↦ e
      ])

  -- the object that was printed where it was checked is its object
  pub compiled_as : (text : List ℕ) → IsTextOf w p text → IsCompiled w p (export_data_known p one) text
  compiled_as text t =
      let same : own.checked ≡ t.checked = checked_as_one w p known t.known found.below t.right own.checked t.checked own.is_package t.is_package in
      record {
        known = t.known;
        right = t.right;
        faultless = record { known = known; right = found.below; listed = found.listed };
        checked = t.checked;
        is_package = t.is_package;
        export_data = subst (λ d. IsExportData d (export_data_known p one)) same own.is_export_data;
        files_of = t.is_printed.files_of;
        are_files = t.is_printed.are_files;
        is_object = t.is_printed.is_object;
      }

  module _ (trees : List FileParts) (faulty : List FaultyParts) (parsed : AreParsed (package_files w p) trees faulty) (name_of : List ℕ → Option (List ℕ))
      (export_data_of : List ℕ → ExportData) (are_seen : AreSeen w known p name_of export_data_of) where
    package_by : (c : Package) → IsPackageOf p trees name_of export_data_of c → IsPackageIn w known p c
    package_by c is = record {
      files = trees;
      parsed = subst (λ fs. AreParsed (package_files w p) trees fs) (all_read parsed found.uses.is_package.parsed) parsed;
      name_of = name_of;
      export_data_of = export_data_of;
      are_seen = are_seen;
      is_package = is;
    }

    seen_as : (c : Package) → IsPackageOf p trees name_of export_data_of c → IsExportData c (export_data_known p one)
    seen_as c is = subst (λ d. IsExportData d (export_data_known p one)) (one_checked w known p own.checked c own.is_package (package_by c is))
        own.is_export_data

    pub definitions_by : (list : List Definition) → ((rank : ℕ) → slice_get list rank ≡ ranked (definitions_listed one) rank) →
        OwnDefinitionsOf p trees name_of export_data_of list
    definitions_by list same c is =
        let path : c.path ≡ p = ap (λ (d : Package). d.path) is.is_package in
        own_definitions c one list (subst (λ (q : List ℕ). IsExportData c (export_data_known q one)) (sym path) (seen_as c is)) same

    pub compiled_by : (packages : ObjectNames) (text : List ℕ) → HaveNamesBelow w p packages →
        IsObjectTextOf p trees name_of export_data_of (map uses_in f.members.items) (map enterings_in f.enterings.items) packages text →
        IsCompiled w p (export_data_known p one) text
    compiled_by packages text names made =
        let c = made.0 in
        let is : IsPackageIn w known p c = package_by c made.1 in
        let same : found.uses.checked ≡ c = one_checked w known p found.uses.checked c found.uses.is_package is in
        let uses : AreMemberUses c (map uses_in f.members.items) = subst (λ d. AreMemberUses d (map uses_in f.members.items)) same found.uses.are_uses in
        let entered : found.enterings.checked ≡ c = one_checked w known p found.enterings.checked c found.enterings.is_package is in
        let enterings : AreEnterings c (map enterings_in f.enterings.items) =
        subst (λ d. AreEnterings d (map enterings_in f.enterings.items)) entered found.enterings.are_enterings in
        record {
          known = known;
          right = found.below;
          faultless = record { known = known; right = found.below; listed = found.listed };
          checked = c;
          is_package = is;
          export_data = seen_as c made.1;
          files_of = names.files_of;
          are_files = names.are_files;
          is_object = made.2 names.files_of uses enterings names.have_names;
        }

-- by what was found in p before, and by the verdicts on those that it builds on, where nothing else is known
pub seen_faultless : (w : Workspace) (p : List ℕ) (seen : ExportTable) (own : Option FoundExportData) (f : Finding) →
    AreVerdictsBelow w p (verdicts_by seen) → SeesExactly w p seen →
    IsVerdict w p (verdict_from p own) → IsFindingOf w p f → f.faults.items ≡ [] → IsFaultlessBySeen w seen own p f
seen_faultless w p seen one f below told right g empty =
    let known = verdicts_by seen in
    let is : IsFinding w known p f = finding_as w p g.known known (right_alike w p g.known known g.right below) f g.finding in
    record {
      known = known;
      faultless = record {
        below = below;
        verdict = right;
        listed = subst (λ l. AreListedFaults (IsFaultBy w known p) l) empty is.listed;
        uses = is.members empty;
        enterings = is.enterings empty;
      };
      are_seen = told;
    }

-- what p compiles to has the text of its object
pub text_compiled : (w : Workspace) (p : List ℕ) (i : ExportData) (text : List ℕ) → IsCompiled w p i text → IsTextOf w p text
text_compiled w p i text c = record {
  known = c.known;
  right = c.right;
  checked = c.checked;
  is_package = c.is_package;
  is_printed = record { files_of = c.files_of; are_files = c.are_files; is_object = c.is_object };
}
