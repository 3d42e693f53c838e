-- The units of packages stay where no object prints the name of what is renamed.
use Rattle.std.proofs.Common.{ℕ, ◌≡◌, List, [], ◌∷◌, subst, ◌∙◌}
use Rattle.std.specs.Prelude.{Contains}
use Rattle.base_edits.specs.EditSet.{FileChanges, edited}
use Rattle.base_edits.specs.RevisionsOfEdits.{revision_of}
use Rattle.base_files.specs.Packages.{package_paths}
use Rattle.base_files.specs.Workspace.{Workspace}
use Rattle.types_declared.specs.ExportTablesView.{export_data_in}
use Rattle.types_declared.specs.Package.{ExportData}
use Rattle.workspace_check.specs.Verdicts.{Verdicts}
use Rattle.workspace_check.proofs.OneList.{one_list}
use Rattle.refs_binding.specs.declared.declaration.Declaration.{Declaration}
use Rattle.refs_binding.specs.Uses.{IsCheckedPackage}
use Rattle.refactor_preserve.specs.Preserved.{Preserves}
use Rattle.build_unit.specs.declared.unit.Unit.{Unit as PackageUnit}
use Rattle.build_unit.specs.declared.unit.Compiled.TheVariants as compiled
use Rattle.build_unit.specs.Units.{IsCompiled, IsUnitOf}
use Rattle.law_renamed_workspaces.specs.KnownVerdicts.{IsKeptRename, IsUnseen}
use Rattle.law_renamed_workspaces.proofs.KnownVerdictsLaws.{unseen_data}
use Rattle.law_renamed_workspaces.specs.Harmless.{IsHarmless}
use Rattle.law_renamed_workspaces.specs.RenamedData.{IsAlone}
use Rattle.law_renamed_workspaces.specs.Renames.{IsPlainRename}
use Rattle.law_renamed_workspaces.proofs.Packages.{same_imports}
use Rattle.law_objects.specs.KeptUnits.{UnprintedRenamesKeepUnits}
use Rattle.law_objects.specs.Objects.{IsUnprinted}
use Rattle.law_objects.proofs.Laws.{unprinted}
use Rattle.law_objects.proofs.UnitTexts.{data_of_unit, none_listed, text_of_unit, unit_of_text}

module _ (w : Workspace) (before : Verdicts) (d : Declaration) (name : List ℕ) (s : FileChanges) (plain : IsPlainRename w before d name s)
    (keeps : Preserves w (revision_of w s)) (harmless : IsHarmless w before (revision_of w s)) (alone : IsAlone d plain.rename.set)
    (none : IsUnprinted (IsCheckedPackage w before) d) where
  abbrev x : Workspace
  x = edited s w

  kept : IsKeptRename w before d name s
  kept = record { plain = plain; kept = harmless }

  module _ (q : List ℕ) (unseen : IsUnseen w before d plain.rename.set name q) (has : Contains (package_paths w) q) where
    has_now : Contains (package_paths x) q
    has_now = subst (λ ps. Contains ps q) (same_imports w before d name s plain).paths has

    data_stay : (keeps.after q).export_data ≡ (before q).export_data
    unfolding kept
    data_stay = unseen_data w before keeps.after d name s kept keeps.right_after q has unseen

    compiled_now : (i : ExportData) (text : List ℕ) → IsCompiled w q i text → IsCompiled x q i text
    compiled_now i text c =
        let old = text_of_unit w before plain.rename.right q has i text c in
        let new = unprinted w before keeps.after d name s plain keeps.right_after harmless alone none q text old in
        let same : (keeps.after q).export_data ≡ i = data_stay ∙ data_of_unit w before plain.rename.right q has plain.rename.sound i text c in
        subst (λ e. IsCompiled x q e text) same (unit_of_text x keeps.after keeps.right_after q has_now keeps.sound text new)

    unit_stays : (unit : PackageUnit) → IsUnitOf w q unit → IsUnitOf x q unit
    unit_stays (compiled.Faults first others) h =
        absurd (h.value.1 (one_list w q (first ∷ others.items) [] h.value.0 (none_listed w plain.rename.sound q has)))
    unit_stays (compiled.Done export_data object) h = record {
      value = compiled_now (export_data_in export_data q) object h.value;
      alone = h.alone;
    }

pub units_stay : UnprintedRenamesKeepUnits
units_stay w before d name s plain keeps harmless alone none q unseen has unit is =
    unit_stays w before d name s plain keeps harmless alone none q unseen has unit is
