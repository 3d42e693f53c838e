-- After a plain rename that loses and captures no identifier each package is there. It has the export data that it had if the rename
-- changes nothing that others see of it.
use Rattle.std.proofs.Common.{ℕ, ◌≡◌, false, List, [], sym, subst, ◌∙◌}
use Rattle.std.specs.Prelude.{Contains}
use Rattle.base_edits.specs.EditSet.{FileChanges, edited}
use Rattle.base_edits.specs.RevisionsOfEdits.{revision_of}
use Rattle.base_files.specs.Packages.{package_paths}
use Rattle.base_files.specs.Workspace.{Workspace}
use Rattle.types_declared.specs.Files.{package_name}
use Rattle.types_declared.specs.Package.{Package}
use Rattle.types_check.specs.Exports.{IsExportData}
use Rattle.workspace_check.specs.Earlier.{HaveSameImports}
use Rattle.workspace_check.specs.FaultLists.{ListsFaults}
use Rattle.workspace_check.specs.Verdicts.{Verdicts, AreVerdicts, BuildsOn}
use Rattle.workspace_check.proofs.Closed.{to_package}
use Rattle.workspace_check.proofs.OneList.{is_faultless}
use Rattle.workspace_check.proofs.OnePackage.{one_checked, layout_formed, files_in_order, one_export_data}
use Rattle.workspace_check.proofs.OneVerdict.{one_verdict, right_below, verdict_by}
use Rattle.workspace_check.proofs.SameImports.{imports_back, builds_by}
use Rattle.refs_binding.specs.declared.declaration.Declaration.{Declaration}
use Rattle.refs_binding.specs.Uses.{IsCheckedPackage}
use Rattle.law_changed_types.proofs.Alike.{of_bound}
use Rattle.law_renamed_workspaces.specs.Layouts.{AreSoundBelow, IsRelaid}
use Rattle.law_renamed_workspaces.specs.MovedExports.{AreMovedBelow}
use Rattle.law_renamed_workspaces.proofs.Packages.{package_there, same_imports}
use Rattle.law_renamed_workspaces.proofs.Relaid.{packages_are}
use Rattle.law_renamed_workspaces.proofs.BoundAlike.{packages_alike}
use Rattle.law_renamed_workspaces.proofs.SeenAfter.{seen_follow}
use Rattle.law_renamed_workspaces.specs.VerdictsStay.{IsMovedVerdict, IsPackageAfter}
use Rattle.law_renamed_workspaces.proofs.Laws.{each, whole}
use Rattle.law_renamed_workspaces.specs.KnownVerdicts.{IsKeptRename, IsUnseen}
use Rattle.law_renamed_workspaces.proofs.Counting.{EachMemberCounts, each_counts}
use Rattle.law_renamed_workspaces.proofs.Kept.{Kept, export_data_there}
use Rattle.law_renamed_workspaces.proofs.KeptNames.{names_kept}

-- in a workspace without faults no verdict has one
pub known_faultless : (w : Workspace) (sound : ListsFaults w []) (known : Verdicts) → AreVerdicts w known → (o : List ℕ) → Contains (package_paths w) o →
    (known o).faulty ≡ false
known_faultless w sound known right o has =
    (one_verdict w o (known o) (sound.known o) (right o has) (sound.right o has)).faulty ∙ is_faultless w sound o has

-- so a package has the export data of the verdict on it
pub has_data : (w : Workspace) (sound : ListsFaults w []) (known : Verdicts) → AreVerdicts w known → (p : Package) → IsCheckedPackage w known p →
    IsExportData p (known p.path).export_data
has_data w sound known right p is =
    let by = verdict_by w p.path known (known p.path) (right_below w known right p.path) (right p.path is.of_workspace) in
    let has = by.has_export_data (known_faultless w sound known right p.path is.of_workspace) in
    subst (λ c. IsExportData c (known p.path).export_data) (one_checked w known p.path has.checked p has.is_package is.is_checked) has.is_export_data

module _ (w : Workspace) (before after : Verdicts) (d : Declaration) (name : List ℕ) (s : FileChanges) (h : IsKeptRename w before d name s)
    (right : AreVerdicts (edited s w) after) where
  abbrev x : Workspace
  x = edited s w

  abbrev was_sound : ListsFaults w []
  was_sound = h.plain.rename.sound

  abbrev was_right : AreVerdicts w before
  was_right = h.plain.rename.right

  -- the edited workspace has no fault, and each package has its name and its definitions by the new names of members

  pub sound : ListsFaults x []
  sound = whole w before after d name s h.plain right h.kept

  pub moved : (o : List ℕ) → Contains (package_paths w) o → IsMovedVerdict w before after (revision_of w s) o
  moved o has = each w before after d name s h.plain right h.kept o has

  same : HaveSameImports w x
  same = same_imports w before d name s h.plain

  same_back : HaveSameImports x w
  same_back = imports_back w x same

  pub has_now : (o : List ℕ) → Contains (package_paths w) o → Contains (package_paths x) o
  has_now o has = subst (λ ps. Contains ps o) same.paths has

  module _ (p : Package) (was : IsCheckedPackage w before p) where
    has_below : (o : List ℕ) → BuildsOn w p.path o → Contains (package_paths w) o
    has_below o on = to_package w p.path o on.imported

    fine_before : (o : List ℕ) → BuildsOn w p.path o → (before o).faulty ≡ false
    fine_before o on = known_faultless w was_sound before was_right o (has_below o on)

    moved_to : (o : List ℕ) → BuildsOn w p.path o → IsMovedVerdict w before after (revision_of w s) o
    moved_to o on = moved o (has_below o on)

    sound_below : AreSoundBelow w before after p.path
    sound_below = record { faultless = λ o on. (moved_to o on).sound; named = λ o on. (moved_to o on).name }

    relay : (q : Package) × (IsCheckedPackage x after q × IsRelaid (revision_of w s) p q)
    relay = packages_are w before after d name s h.plain right p was sound_below

    abbrev q : Package
    q = relay.0

    moved_below : AreMovedBelow w before after p.path
    moved_below = record {
      sound = sound_below;
      moved = λ o on. (let m = moved_to o on in
          record { name = m.name; exported = m.exported; underlying = λ rank. (m.definitions rank).underlying });
    }

    -- Each package is there.
    pub package_after : (q : Package) × IsPackageAfter w before after s p q
    package_after = (
      q,
      record {
        was = was;
        is = relay.1.0;
        relaid = relay.1.1;
        bound = packages_alike w before after d name s h.plain right h.kept.none_lost p q was relay.1.0 relay.1.1 moved_below;
        seen =
            seen_follow w x before after (revision_of w s) p q was relay.1.0 relay.1.1.path fine_before
            (record { same = λ o. (builds_by w x same p.path o, builds_by x w same_back p.path o); sound = sound_below.faultless })
            (λ o on. (moved_to o on).definitions);
      },
    )

  module _ (p q : Package) (there : IsPackageAfter w before after s p q) where
    pub old_data : IsExportData p (before p.path).export_data
    old_data = has_data w was_sound before was_right p there.was

    pub new_data : IsExportData q (after p.path).export_data
    new_data = subst (λ r. IsExportData q (after r).export_data) there.relaid.path (has_data x sound after right q there.is)

    pub clause : package_name q.files ≡ package_name p.files
    clause = sym new_data.name ∙ (moved p.path there.was.of_workspace).name ∙ old_data.name

    pub counts : EachMemberCounts p
    counts = each_counts w was_sound before was_right p there.was

    pub counts_after : EachMemberCounts q
    counts_after = each_counts x sound after right q there.is

    is_kept : IsUnseen w before d h.plain.rename.set name p.path → Kept p q
    is_kept unseen =
        names_kept w before d name s h p q there.was there.relaid unseen (of_bound p q there.bound) clause counts counts_after

    -- If the rename changes nothing that others see of the package, its export data are what they were.
    pub same_data : IsUnseen w before d h.plain.rename.set name p.path → (after p.path).export_data ≡ (before p.path).export_data
    same_data unseen =
        let checked = there.is.is_checked in
        one_export_data q (layout_formed x after q.path q checked) (files_in_order x after q.path q checked) (after p.path).export_data
        (before p.path).export_data new_data (export_data_there p q (is_kept unseen) (before p.path).export_data old_data)

  pub data_stay : (o : List ℕ) → Contains (package_paths w) o → IsUnseen w before d h.plain.rename.set name o → (after o).export_data ≡ (before o).export_data
  data_stay o has unseen =
      let p = package_there w was_sound before was_right o has in
      let there = package_after p.0 p.1.0 in
      subst (λ k. IsUnseen w before d h.plain.rename.set name k → (after k).export_data ≡ (before k).export_data) p.1.1 (same_data p.0 there.0 there.1) unseen
