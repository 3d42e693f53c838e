-- A plain rename keeps all bindings, and brings no fault. Then each package is bound as before, and sees the same members under their new
-- names.
use Rattle.std.proofs.Common.{ℕ, ◌≡◌, inl, inr, false, List, [], sym, subst, refl, ◌∙◌}
use Rattle.std.specs.Prelude.{Option, Contains}
use Rattle.std.proofs.lemmas.Bool.{true≢false}
use Rattle.base_files.specs.Packages.{package_paths}
use Rattle.base_files.specs.Workspace.{Workspace}
use Rattle.base_edits.specs.EditSet.{FileChanges, edited}
use Rattle.base_edits.specs.Revisions.{Revision}
use Rattle.base_edits.specs.RevisionsOfEdits.{revision_of}
use Rattle.types_declared.specs.Package.{Package, ExportData}
use Rattle.types_check.specs.Exports.{IsExportData}
use Rattle.workspace_check.specs.Earlier.{HaveSameImports}
use Rattle.workspace_check.specs.FaultLists.{ListsFaults}
use Rattle.workspace_check.specs.Verdicts.{Verdicts, AreVerdicts, BuildsOn, IsSeenAs, seen, unseen}
use Rattle.workspace_check.proofs.Closed.{to_package}
use Rattle.workspace_check.proofs.OnePackage.{one_checked, layout_formed, files_in_order}
use Rattle.workspace_check.proofs.SameImports.{imports_back, builds_by}
use Rattle.refs_binding.specs.declared.declaration.Declaration.{Declaration}
use Rattle.refs_binding.specs.Uses.{IsCheckedPackage}
use Rattle.law_changed_types.specs.SameBindings.{IsBoundAlike}
use Rattle.law_changed_types.proofs.Alike.{of_bound}
use Rattle.law_renamed_workspaces.specs.Layouts.{IsRelaid}
use Rattle.law_renamed_workspaces.specs.MovedExports.{AreMovedBelow}
use Rattle.law_renamed_workspaces.proofs.Packages.{package_there, same_imports}
use Rattle.law_renamed_workspaces.proofs.BoundAlike.{named_packages_alike}
use Rattle.law_renamed_workspaces.proofs.OwnNames.{own_renames}
use Rattle.law_renamed_workspaces.proofs.RenamedScopesRenamed.{others_stay}
use Rattle.law_renamed_workspaces.proofs.SeenStructs.{struct_reached}
use Rattle.law_renamed_workspaces.specs.MembersMoved.{AreSeenAfter, AreFieldsSeenAfter}
use Rattle.law_renamed_workspaces.proofs.DefinitionsAfter.{exported_definition}
use Rattle.law_renamed_workspaces.proofs.SeenAfter.{see, seen_follow}
use Rattle.law_renamed_workspaces.specs.VerdictsStay.{IsPackageAfter, IsMovedVerdict}
use Rattle.law_renamed_workspaces.proofs.AlongImports.{along}
use Rattle.law_renamed_workspaces.proofs.DeclaredNames.{level_names}
use Rattle.law_renamed_workspaces.proofs.ExportsMove.{exports_move}
use Rattle.law_agreement.proofs.Moving.{kept_below, named_at}
use Rattle.law_agreement.proofs.Premises.{IsKeptRename}
use Rattle.law_agreement.proofs.ScopedFaultless.{data_of, faultless}
use Rattle.law_agreement.proofs.KeptNames.{there}
use Rattle.law_agreement.proofs.KeptScopes.{names_stay}
use Rattle.law_agreement.proofs.MembersThere.{HasNewMembers, exported_members}

-- The verdict on a package has moved, and the definitions of its export data have the new members.
pub record IsKeptVerdict (w : Workspace) (known after : Verdicts) (r : Revision) (path : List ℕ) : Type 0 where
  pub moved : IsMovedVerdict w known after r path
  pub members : (definition : ℕ) → HasNewMembers (IsCheckedPackage w known) r path definition ((after path).export_data.definition definition)

-- The package `q` is `p` after the change. It sees of other packages what `p` saw, with all fields under their new names.
pub record IsKeptPackage (w : Workspace) (known after : Verdicts) (s : FileChanges) (p q : Package) : Type 0 where
  pub stays : IsPackageAfter w known after s p q
  pub fields : AreFieldsSeenAfter (IsCheckedPackage w known) (revision_of w s) p q

-- the export data of a package of a workspace without faults
data_for : (x : Workspace) → ListsFaults x [] → (known : Verdicts) → AreVerdicts x known → (p : Package) → IsCheckedPackage x known p →
    IsExportData p (known p.path).export_data
data_for x sound known right p is =
    let h = data_of x known right sound p.path is.of_workspace in
    subst (λ c. IsExportData c (known p.path).export_data) (one_checked x known p.path h.checked p h.is_package is.is_checked) h.is_export_data

module _ (w : Workspace) (known : Verdicts) (d : Declaration) (name : List ℕ) (s : FileChanges) (after : Verdicts)
    (kept : IsKeptRename w known d name s after) where
  abbrev r : Revision
  r = revision_of w s

  abbrev x : Workspace
  x = edited s w

  abbrev Known : Package → Type 0
  Known = IsCheckedPackage w known

  abbrev sound : ListsFaults w []
  sound = kept.rename.rename.sound

  abbrev right : AreVerdicts w known
  right = kept.rename.rename.right

  same : HaveSameImports w x
  same = same_imports w known d name s kept.rename

  same_back : HaveSameImports x w
  same_back = imports_back w x same

  module _ (p : Package) (was : IsCheckedPackage w known p) (below : (o : List ℕ) → BuildsOn w p.path o → IsKeptVerdict w known after r o) where
    abbrev q : Package
    q = (there w known d name s after kept p was).0

    is : IsCheckedPackage x after q
    is = (there w known d name s after kept p was).1.0

    relaid : IsRelaid r p q
    relaid = (there w known d name s after kept p was).1.1

    moved_below : AreMovedBelow w known after p.path
    moved_below = record {
      sound = kept_below w known d name s after kept p.path;
      moved = λ o on.
          let m = (below o on).moved in
          record { name = m.name; exported = m.exported; underlying = λ rank. (m.definitions rank).underlying };
    }

    bound : IsBoundAlike p q
    bound = named_packages_alike w known after d name s kept.rename kept.right (names_stay w known d name s after kept) p q was is relaid moved_below

    faultless_before : (o : List ℕ) → BuildsOn w p.path o → (known o).faulty ≡ false
    faultless_before o on = faultless w known right sound o (to_package w p.path o on.imported)

    definitions_seen : AreSeenAfter Known r p q
    definitions_seen =
        seen_follow w x known after r p q was is relaid.path faultless_before
        (record {
          same = λ o. (builds_by w x same p.path o, builds_by x w same_back p.path o);
          sound = (kept_below w known d name s after kept p.path).faultless;
        })
        (λ o on. (below o on).moved.definitions)

    -- what the package sees of those below
    builds_after : (o : List ℕ) → BuildsOn w p.path o → BuildsOn x q.path o
    builds_after o on = subst (λ path. BuildsOn x path o) (sym relaid.path) (builds_by w x same p.path o on)

    by_sight : (o : List ℕ) (n : Option (List ℕ)) (i : ExportData) → IsSeenAs x after q.path o n i → BuildsOn w p.path o → i ≡ (after o).export_data
    by_sight o _ _ (seen on fine) also = refl
    by_sight o _ _ (unseen none) also =
        absurd (true≢false (sym (none (builds_after o also)) ∙ (kept_below w known d name s after kept p.path).faultless o also))

    seen_now : (o : List ℕ) → BuildsOn w p.path o → q.export_data_of o ≡ (after o).export_data
    seen_now o on = let v = see x after q is o in by_sight o v.0 (q.export_data_of o) v.1 on

    pub members_below : (o : List ℕ) → BuildsOn w p.path o → (definition : ℕ) →
        HasNewMembers Known r o definition ((q.export_data_of o).definition definition)
    members_below o on definition =
        subst (λ (i : ExportData). HasNewMembers Known r o definition (i.definition definition)) (sym (seen_now o on)) ((below o on).members definition)

    fields_seen : AreFieldsSeenAfter Known r p q
    fields_seen definition t underlying other n exported rank first = elim (struct_reached w sound known right p was definition t underlying) [
      | inl own ↦ absurd (other own)
      | inr on ↦
          let f = (members_below t.package on t.rank).fields n rank first in (f.field, (f.found, f.exported ∙ exported))
    ]

    pub is_kept : IsKeptPackage w known after s p q
    is_kept = record {
      stays = record { was = was; is = is; relaid = relaid; bound = bound; seen = definitions_seen };
      fields = fields_seen;
    }

    old_data : IsExportData p (known p.path).export_data
    old_data = data_for w sound known right p was

    new_data : IsExportData q (after p.path).export_data
    new_data = subst (λ path. IsExportData q (after path).export_data) relaid.path (data_for x kept.sound after kept.right q is)

    has_now : Contains (package_paths x) p.path
    has_now = subst (λ ps. Contains ps p.path) same.paths was.of_workspace

    verdict : IsKeptVerdict w known after r p.path
    verdict = record {
      moved = record {
        sound = faultless x after kept.right kept.sound p.path has_now;
        name = named_at w known d name s after kept p was;
        exported =
            exports_move p q (of_bound p q bound) (layout_formed x after q.path q is.is_checked) (files_in_order x after q.path q is.is_checked)
            (known p.path).export_data (after p.path).export_data old_data new_data name
            (level_names own_renames others_stay w known d name s kept.rename p q was relaid);
        definitions =
            exported_definition w known r p q was relaid (of_bound p q bound) definitions_seen (known p.path).export_data (after p.path).export_data old_data
            new_data;
      };
      members = exported_members w known r p q was relaid (of_bound p q bound) fields_seen x kept.sound after kept.right is (after p.path).export_data new_data;
    }

  verdict_at : (path : List ℕ) → Contains (package_paths w) path → ((o : List ℕ) → BuildsOn w path o → IsKeptVerdict w known after r o) →
      IsKeptVerdict w known after r path
  verdict_at path has below =
      let p = package_there w sound known right path has in
      subst (IsKeptVerdict w known after r) p.1.1
      (verdict p.0 p.1.0 (λ o on. below o (subst (λ z. BuildsOn w z o) p.1.1 on)))

  -- along the imports
  pub each_kept : (path : List ℕ) → Contains (package_paths w) path → IsKeptVerdict w known after r path
  each_kept path has = along w (IsKeptVerdict w known after r) verdict_at path (known path) (right path has) has

  pub kept_under : (p : Package) → (o : List ℕ) → BuildsOn w p.path o → IsKeptVerdict w known after r o
  kept_under p o on = each_kept o (to_package w p.path o on.imported)
