-- The text of the object of a package is that of its unit.
use Rattle.std.proofs.Common.{ℕ, ◌≡◌, List, [], ap, sym, subst}
use Rattle.std.specs.Prelude.{Contains}
use Rattle.base_lemmas.proofs.Elements.{nothing_in}
use Rattle.base_files.specs.Packages.{package_paths}
use Rattle.base_files.specs.Workspace.{Workspace}
use Rattle.types_check.specs.Exports.{IsExportData}
use Rattle.types_declared.specs.Package.{Package, ExportData}
use Rattle.workspace_check.specs.FaultLists.{ListsFaults, ListsPackageFaults}
use Rattle.workspace_check.specs.Verdicts.{Verdicts, AreVerdicts, IsPackageIn}
use Rattle.workspace_check.proofs.Alike.{package_as}
use Rattle.workspace_check.proofs.OneVerdict.{right_alike, right_below}
use Rattle.refs_binding.specs.Uses.{IsCheckedPackage}
use Rattle.build_unit.specs.Units.{IsCompiled, Done}
use Rattle.build_unit.proofs.OneUnit.{one_unit}
use Rattle.law_renamed_workspaces.proofs.PackagesAfter.{has_data}
use Rattle.law_objects.specs.Objects.{HasObject, HasObjectText}

-- a package of a workspace without faults has none
pub none_listed : (w : Workspace) → ListsFaults w [] → (q : List ℕ) → Contains (package_paths w) q → ListsPackageFaults w q []
none_listed w sound q has = record {
  known = sound.known;
  right = right_below w sound.known sound.right q;
  listed = record {
    in_order = sound.listed.in_order;
    each = λ f. (
      λ c. absurd (nothing_in f c),
      λ is. absurd (nothing_in f ((sound.listed.each f).1 (record { path = q; is_package = has; is_fault = is }))),
    );
  };
}

same_data : (i j : ExportData) (a b : List ℕ) → Done i a ≡ Done j b → i ≡ j
same_data i j a b e = cc

same_text : (i j : ExportData) (a b : List ℕ) → Done i a ≡ Done j b → a ≡ b
same_text i j a b e = cc

module _ (w : Workspace) (known : Verdicts) (right : AreVerdicts w known) (q : List ℕ) (has : Contains (package_paths w) q) where
  pub object_of_unit : (i : ExportData) (text : List ℕ) → (c : IsCompiled w q i text) → HasObject w known q c.files_of c.is_object.object
  object_of_unit i text c =
      let path : c.checked.path ≡ q = ap (λ (p : Package). p.path) c.is_package.is_package.is_package in
      let checked : IsPackageIn w known q c.checked =
      package_as w q c.known known (right_alike w q c.known known c.right (right_below w known right q)) c.checked c.is_package in
      let is : IsCheckedPackage w known c.checked = record {
        of_workspace = subst (Contains (package_paths w)) (sym path) has;
        is_checked = subst (λ o. IsPackageIn w known o c.checked) (sym path) checked;
      } in
      record { checked = c.checked; is_package = is; of_path = path; are_files = c.are_files; is_object = c.is_object.of_package }

  pub text_of_unit : (i : ExportData) (text : List ℕ) → IsCompiled w q i text → HasObjectText w known q text
  text_of_unit i text c =
      record { files_of = c.files_of; object = c.is_object.object; has = object_of_unit i text c; printed = c.is_object.printed }

  pub unit_of_text : ListsFaults w [] → (text : List ℕ) → HasObjectText w known q text → IsCompiled w q (known q).export_data text
  unit_of_text sound text h = record {
    known = known;
    right = right_below w known right q;
    faultless = none_listed w sound q has;
    checked = h.has.checked;
    is_package = subst (λ o. IsPackageIn w known o h.has.checked) h.has.of_path h.has.is_package.is_checked;
    export_data =
        subst (λ o. IsExportData h.has.checked (known o).export_data) h.has.of_path (has_data w sound known right h.has.checked h.has.is_package);
    files_of = h.files_of;
    are_files = h.has.are_files;
    is_object = record { object = h.object; of_package = h.has.is_object; printed = h.printed };
  }

  -- there is one unit, with one text

  pub data_of_unit : ListsFaults w [] → (i : ExportData) (text : List ℕ) → IsCompiled w q i text → (known q).export_data ≡ i
  data_of_unit sound i text c =
      same_data (known q).export_data i text text
      (one_unit w q (Done (known q).export_data text) (Done i text) (unit_of_text sound text (text_of_unit i text c)) c)

  pub one_text_of_unit : ListsFaults w [] → (i : ExportData) (text other : List ℕ) → IsCompiled w q i text → HasObjectText w known q other → text ≡ other
  one_text_of_unit sound i text other c h =
      same_text i (known q).export_data text other (one_unit w q (Done i text) (Done (known q).export_data other) c (unit_of_text sound other h))

-- the package of an object is one of the workspace
pub object_there : (w : Workspace) (known : Verdicts) (q text : List ℕ) → HasObjectText w known q text → Contains (package_paths w) q
object_there w known q text h = subst (Contains (package_paths w)) h.has.of_path h.has.is_package.of_workspace
