-- The units of packages behind a plain rename that preserves bindings: the old ones, with the new name where their objects print it.
use Rattle.std.proofs.Common.{ℕ, ◌≡◌, inl, List, [], ◌∷◌, ap, sym, subst, ◌∙◌}
use Rattle.std.specs.Prelude.{Contains}
use Rattle.std.proofs.lemmas.Option.{same_Some}
use Rattle.base_lemmas.proofs.Elements.{first_in}
use Rattle.base_edits.specs.EditSet.{FileChanges, edited}
use Rattle.base_edits.specs.RevisionsOfEdits.{revision_of}
use Rattle.base_files.specs.Packages.{package_paths}
use Rattle.base_files.specs.Workspace.{Workspace}
use Rattle.go_scope.specs.Bindings.{IsPackageLevel}
use Rattle.types_check.specs.Exports.{IsExportData}
use Rattle.types_declared.specs.Package.{Package, ExportData}
use Rattle.workspace_check.specs.Verdicts.{Verdicts, IsPackageIn}
use Rattle.workspace_check.specs.declared.fault.FileFault.{FileFault}
use Rattle.workspace_check.proofs.Alike.{package_as}
use Rattle.workspace_check.proofs.OneList.{one_list}
use Rattle.workspace_check.proofs.OnePackage.{layout_formed, files_in_order, one_export_data}
use Rattle.workspace_check.proofs.OneVerdict.{right_alike, right_below}
use Rattle.refs_binding.specs.declared.declaration.Declaration.{Declaration}
use Rattle.refs_binding.specs.declared.declaration.Declaration.TheVariants.{Declared}
use Rattle.refs_binding.specs.Uses.{IsCheckedPackage}
use Rattle.refs_places.specs.Homes.{IsHomeOfSome}
use Rattle.refs_places.specs.Outside.{declaring_path}
use Rattle.refactor_preserve.specs.Preserved.{Preserves}
use Rattle.build_names.specs.Words.{NameChange, text_with_name}
use Rattle.build_object.specs.Names.{type_name}
use Rattle.build_unit.specs.Units.{IsCompiled, IsUnitValue, UnitValue, Faults, Done}
use Rattle.build_kept.specs.KnownUnits.{DeclaresChanged, value_with_names}
use Rattle.build_kept.proofs.Names.{text_once, value_unchanged}
use Rattle.law_renamed_workspaces.specs.KnownVerdicts.{IsKeptRename, IsUnseen}
use Rattle.law_renamed_workspaces.proofs.KnownVerdictsLaws.{unseen_data}
use Rattle.law_renamed_workspaces.proofs.PackagesAfter.{has_data}
use Rattle.law_agreement.proofs.Laws.{scope_loses_none}
use Rattle.law_renamed_workspaces.specs.Harmless.{IsHarmless}
use Rattle.law_renamed_workspaces.proofs.RenamedSets.{own_alone}
use Rattle.law_renamed_workspaces.proofs.Harmless.{declared_harmless}
use Rattle.law_renamed_workspaces.specs.Renames.{IsPlainRename}
use Rattle.law_renamed_workspaces.proofs.Packages.{same_imports}
use Rattle.law_objects.specs.Objects.{HasObject, HasObjectText}
use Rattle.law_objects.proofs.Laws.{globals, unprinted}
use Rattle.law_objects.proofs.UnitTexts.{none_listed}
use Rattle.law_objects.specs.Replaced.{of_global, text_by}
use Rattle.law_objects.specs.CarriedUnits.{HasLegibleObjects, LegibleGlobalRenamesCarryUnits, LocalRenamesCarryUnits, change_of_name}
use Rattle.law_objects.specs.Legible.{IsLegibleChange}
use Rattle.law_objects.proofs.LegibleTexts.{texts_follow}

module _ (w : Workspace) (before : Verdicts) (d : Declaration) (name : List ℕ) (s : FileChanges) (plain : IsPlainRename w before d name s)
    (keeps : Preserves w (revision_of w s)) (harmless : IsHarmless w before (revision_of w s)) where
  abbrev x : Workspace
  x = edited s w

  kept : IsKeptRename w before d name s
  kept = record { plain = plain; kept = harmless }

  pub paths : package_paths w ≡ package_paths x
  paths = (same_imports w before d name s plain).paths

  module _ (q : List ℕ) (unseen : IsUnseen w before d plain.rename.set name q) (has : Contains (package_paths w) q) (i : ExportData) (text : List ℕ)
      (c : IsCompiled w q i text) where
    has_now : Contains (package_paths x) q
    has_now = subst (λ ps. Contains ps q) paths has

    of_path : c.checked.path ≡ q
    of_path = ap (λ (p : Package). p.path) c.is_package.is_package.is_package

    checked_in : IsPackageIn w before q c.checked
    checked_in =
        let below = right_below w before plain.rename.right q in
        package_as w q c.known before (right_alike w q c.known before c.right below) c.checked c.is_package

    was : IsCheckedPackage w before c.checked
    was = record {
      of_workspace = subst (Contains (package_paths w)) (sym of_path) has;
      is_checked = subst (λ o. IsPackageIn w before o c.checked) (sym of_path) checked_in;
    }

    pub old : HasObject w before q c.files_of c.is_object.object
    old = record { checked = c.checked; is_package = was; of_path = of_path; are_files = c.are_files; is_object = c.is_object.of_package }

    same_data : (before c.checked.path).export_data ≡ i
    same_data =
        one_export_data c.checked (layout_formed w c.known q c.checked c.is_package) (files_in_order w c.known q c.checked c.is_package)
        (before c.checked.path).export_data i (has_data w plain.rename.sound before plain.rename.right c.checked was) c.export_data

    -- the unit with the text of the object behind the rename
    pub compiled_now : (t : List ℕ) → HasObjectText x keeps.after q t → IsCompiled x q i t
    unfolding kept
    compiled_now t new = record {
      known = keeps.after;
      right = right_below x keeps.after keeps.right_after q;
      faultless = none_listed x keeps.sound q has_now;
      checked = new.has.checked;
      is_package = subst (λ o. IsPackageIn x keeps.after o new.has.checked) new.has.of_path new.has.is_package.is_checked;
      export_data = subst (IsExportData new.has.checked)
          (ap (λ o. (keeps.after o).export_data) new.has.of_path ∙ unseen_data w before keeps.after d name s kept keeps.right_after q has unseen
          ∙ ap (λ o. (before o).export_data) (sym of_path) ∙ same_data)
          (has_data x keeps.sound keeps.after keeps.right_after new.has.checked new.has.is_package);
      files_of = new.files_of;
      are_files = new.has.are_files;
      is_object = record { object = new.object; of_package = new.has.is_object; printed = new.printed };
    }

  -- a unit of a workspace without faults has none
  pub no_faults : (q : List ℕ) → Contains (package_paths w) q → (list : List FileFault) → IsUnitValue w q (Faults list) → ⊥
  no_faults q has list h = h.1 (one_list w q list [] h.0 (none_listed w plain.rename.sound q has))

pub local_carried : LocalRenamesCarryUnits
local_carried w before d name s plain keeps harmless alone none unseen = record {
  paths = paths w before d name s plain keeps harmless;
  each = λ q has free u is. each q has u is;
}
  where
    each : (q : List ℕ) → Contains (package_paths w) q → (u : UnitValue) → IsUnitValue w q u → IsUnitValue (edited s w) q (value_with_names [] u)
    each q has (Faults list) is = absurd (no_faults w before d name s plain keeps harmless q has list is)
    each q has (Done i text) is =
        subst (IsUnitValue (edited s w) q) (sym (value_unchanged (Done i text)))
        (compiled_now w before d name s plain keeps harmless q (unseen q) has i text is text
        (unprinted w before keeps.after d name s plain keeps.right_after harmless alone none q text (record {
          files_of = is.files_of;
          object = is.is_object.object;
          has = old w before d name s plain keeps harmless q (unseen q) has i text is;
          printed = is.is_object.printed;
        })))

module _ (w : Workspace) (before : Verdicts) (own : Package) (n : ℕ) (name : List ℕ) (s : FileChanges)
    (plain : IsPlainRename w before (Declared own.path n) name s) (keeps : Preserves w (revision_of w s)) (is : IsCheckedPackage w before own)
    (level : IsPackageLevel own.layout n) (legible : IsLegibleChange (change_of_name own n name)) (objects : HasLegibleObjects w before) where
  abbrev c : NameChange
  c = change_of_name own n name

  abbrev set : List Declaration
  set = plain.rename.set

  harmless_one : IsHarmless w before (revision_of w s)
  harmless_one = declared_harmless w before own.path n name s plain (scope_loses_none w before own.path n name s plain keeps)

  -- nothing is renamed with it
  own_home : (q : List ℕ) → IsHomeOfSome set q → own.path ≡ q
  own_home q h =
      let same : h.declaration ≡ Declared own.path n =
      own_alone (IsCheckedPackage w before) (Declared own.path n) set plain.rename.is_set (λ m. m) h.declaration h.among in
      same_Some own.path q (ap declaring_path (sym same) ∙ h.declares)

  global_each : (q : List ℕ) → Contains (package_paths w) q → (DeclaresChanged (c ∷ []) q → ⊥) → (u : UnitValue) → IsUnitValue w q u →
      IsUnitValue (edited s w) q (value_with_names (c ∷ []) u)
  global_each q has free (Faults list) unit = absurd (no_faults w before (Declared own.path n) name s plain keeps harmless_one q has list unit)
  global_each q has free (Done i text) unit =
      let unseen : IsUnseen w before (Declared own.path n) set name q = inl (λ h. free (c, (first_in c [], own_home q h))) in
      let was = old w before (Declared own.path n) name s plain keeps harmless_one q unseen has i text unit in
      let o = unit.is_object.object in
      let named = objects q unit.files_of o was in
      let new = globals w before keeps.after own n name s plain keeps.right_after keeps is level q unit.files_of o was in
      let same : text_with_name c text ≡ text_by (of_global own.path (own.names n) name) (type_name unit.files_of) o =
      ap (text_with_name c) unit.is_object.printed ∙ texts_follow c legible (type_name unit.files_of) named.1 o named.0 in
      subst (λ t. IsCompiled (edited s w) q i t) (sym (text_once c text))
      (compiled_now w before (Declared own.path n) name s plain keeps harmless_one q unseen has i text unit (text_with_name c text)
      (subst (HasObjectText (edited s w) keeps.after q) (sym same) new))

pub global_carried : LegibleGlobalRenamesCarryUnits
global_carried w before own n name s plain keeps is level legible objects = record {
  paths = paths w before (Declared own.path n) name s plain keeps (harmless_one w before own n name s plain keeps is level legible objects);
  each = global_each w before own n name s plain keeps is level legible objects;
}
