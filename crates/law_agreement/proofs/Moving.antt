-- Premises of this crate's lemmas that follow from the verdicts after a rename.
use Rattle.std.proofs.Common.{ℕ, ◌≡◌, List, sym, ap, subst, ◌∙◌}
use Rattle.std.specs.Prelude.{Contains}
use Rattle.base_files.specs.Packages.{package_paths}
use Rattle.base_files.specs.Workspace.{Workspace}
use Rattle.base_edits.specs.EditSet.{FileChanges, edited}
use Rattle.base_edits.specs.RevisionsOfEdits.{revision_of}
use Rattle.types_declared.specs.Files.{package_name}
use Rattle.types_declared.specs.Package.{Package}
use Rattle.workspace_check.specs.Verdicts.{Verdicts, BuildsOn}
use Rattle.workspace_check.proofs.Closed.{to_package}
use Rattle.workspace_check.proofs.OnePackage.{one_checked, one_sources}
use Rattle.refs_binding.specs.declared.declaration.Declaration.{Declaration}
use Rattle.refs_binding.specs.Uses.{IsCheckedPackage}
use Rattle.refs_lookup.proofs.OnePlace.{same_files}
use Rattle.law_renamed_workspaces.proofs.Packages.{package_there, new_paths, new_trees}
use Rattle.law_renamed_workspaces.specs.VerdictsStay.{IsMovedVerdict}
use Rattle.law_renamed_workspaces.proofs.Laws.{each, whole}
use Rattle.law_renamed_workspaces.proofs.OuterFaults.{name_stays}
use Rattle.law_agreement.specs.Agreement.{CheckedNoneLostPreserves, PlainNoneLostPreserves}
use Rattle.law_agreement.proofs.Followed.{none_lost_keeps, packages_stay, preserved_keeps, scoped_checked}
use Rattle.law_agreement.proofs.NoneLost.{none_lost_sound}
use Rattle.law_agreement.proofs.MembersBound.{members_bound}
use Rattle.law_agreement.proofs.UsedMembers.{used_declared}
use Rattle.law_agreement.proofs.UnboundStay.{unbound_stay}
use Rattle.law_agreement.proofs.Premises.{ExportsMoveBelow, PlainRenamesBringNoFault, WorkspacesHaveVerdicts}
use Rattle.law_agreement.proofs.Premises.{IsKeptRename, KeptAreSoundBelow, PreservedByMembers, SelectorsStayQualified}
use Rattle.law_agreement.proofs.ScopedFaultless.{faultless, data_of}

-- where the rename is harmless

exports_below : ExportsMoveBelow
exports_below w known d name s after free path =
    let at : (q : List ℕ) → BuildsOn w path q → IsMovedVerdict w known after (revision_of w s) q =
    (λ q on. each w known after d name s free.rename free.right free.harmless q (to_package w path q on.imported)) in
    record {
      sound = record { faultless = λ q on. (at q on).sound; named = λ q on. (at q on).name };
      moved = λ q on. let v = at q on in record { name = v.name; exported = v.exported; underlying = λ rank. (v.definitions rank).underlying };
    }

no_fault : WorkspacesHaveVerdicts → PlainRenamesBringNoFault
no_fault have w known d name s rename none = let v = have (edited s w) in whole w known v.0 d name s rename v.1 none

-- A plain rename that is harmless preserves bindings, if the edited workspace has verdicts.
pub checked_none_lost : CheckedNoneLostPreserves
checked_none_lost w known after d name s rename right none =
    none_lost_sound (scoped_checked exports_below) (packages_stay exports_below) (members_bound exports_below used_declared) (unbound_stay exports_below)
    w known d name s rename (whole w known after d name s rename right none) none

-- A plain rename that is harmless preserves bindings, if each workspace has right verdicts.
pub none_lost_follows : WorkspacesHaveVerdicts → PlainNoneLostPreserves
none_lost_follows have = none_lost_keeps (no_fault have) exports_below (members_bound exports_below used_declared) (unbound_stay exports_below)

-- where bindings are preserved

module _ (w : Workspace) (known : Verdicts) (d : Declaration) (name : List ℕ) (s : FileChanges) (after : Verdicts)
    (kept : IsKeptRename w known d name s after) where
  there : (path : List ℕ) → Contains (package_paths w) path → Contains (package_paths (edited s w)) path
  there path has = subst (λ ps. Contains ps path) (sym (new_paths w known d name s kept.rename)) has

  pub named_at : (p : Package) → IsCheckedPackage w known p → (after p.path).export_data.name ≡ (known p.path).export_data.name
  named_at p is =
      let new = data_of (edited s w) after kept.right kept.sound p.path (there p.path is.of_workspace) in
      let old = data_of w known kept.rename.rename.right kept.rename.rename.sound p.path is.of_workspace in
      let same : old.checked ≡ p = one_checked w known p.path old.checked p old.is_package is.is_checked in
      new.is_export_data.name
      ∙ ap package_name (same_files (edited s w) after p.path new.checked new.is_package
      ∙ one_sources new.is_package.parsed (new_trees w known d name s kept.rename p is))
      ∙ name_stays w known d name s kept.rename p is
      ∙ sym (old.is_export_data.name ∙ ap (λ (c : Package). package_name c.files) same)

  named_there : (path : List ℕ) → Contains (package_paths w) path → (after path).export_data.name ≡ (known path).export_data.name
  named_there path has =
      let p = package_there w kept.rename.rename.sound known kept.rename.rename.right path has in
      subst (λ q. (after q).export_data.name ≡ (known q).export_data.name) p.1.1 (named_at p.0 p.1.0)

pub kept_below : KeptAreSoundBelow
kept_below w known d name s after kept path = record {
  faultless = λ q on.
      faultless (edited s w) after kept.right kept.sound q (there w known d name s after kept q (to_package w path q on.imported));
  named = λ q on. named_there w known d name s after kept q (to_package w path q on.imported);
}

-- Where bindings are preserved, no identifier is lost or captured, if qualified identifiers and members stay.
pub preserved_follows : SelectorsStayQualified → PreservedByMembers
preserved_follows qualified = preserved_keeps kept_below qualified
