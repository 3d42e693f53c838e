-- Bindings are kept.
use Rattle.std.proofs.Common.{ℕ, ◌≡◌, inl, inr, sym, ◌∙◌, subst}
use Rattle.base_files.specs.Path.{folder}
use Rattle.base_files.specs.Workspace.{Workspace}
use Rattle.base_files.specs.declared.place.Place.{Place}
use Rattle.base_edits.specs.Revisions.{Revision}
use Rattle.types_declared.proofs.ByteKeys.{cases_bytes}
use Rattle.types_declared.specs.Package.{Package}
use Rattle.workspace_check.specs.Verdicts.{AreVerdicts, Verdicts}
use Rattle.refs_binding.specs.declared.declaration.Declaration.{Declaration}
use Rattle.refs_binding.specs.Binding.{Binds}
use Rattle.refs_binding.specs.Identifiers.{BeginsAt}
use Rattle.refs_binding.specs.Uses.{IsCheckedPackage, IsUseOf}
use Rattle.refs_binding.proofs.Units.{one_package}
use Rattle.refactor_conflict.specs.Corresponding.{Corresponds, stands}
use Rattle.refactor_conflict.specs.Corresponding as becoming
use Rattle.refs_lookup.proofs.OneDeclaration.{one_used}
use Rattle.refs_binding.proofs.Folders.{begins_in_folder}
use Rattle.refs_places.specs.Identified.{IsIdentifierAt}
use Rattle.refactor_preserve.specs.BoundToOne.{IsBoundToOne}
use Rattle.refactor_preserve.specs.Preserved.{KeepsBindings}
use Rattle.law_renumbered.specs.Bindings.{MemberNamesRenumber, QualifiersRenumber, UsedMembersRenumber}
use Rattle.law_renumbered.proofs.MemberNames.{member_names_renumber}
use Rattle.law_renumbered.proofs.Qualifiers.{qualifiers_renumber}
use Rattle.law_renumbered.proofs.UsedMembers.{used_members_renumber}
use Rattle.law_changed_types.specs.RenumberedPackage.{NewNumbers}
use Rattle.law_renumbered.specs.TwoRevisions.{IsFirstStep}
use Rattle.law_renumbered.specs.RenumberedWorkspace.{HasDeclaringPlace, IsRenumberedBy, RenumberedWorkspacesAreSteps}
use Rattle.law_renumbered.specs.RenumberedWorkspace.{RenumberedWorkspacesKeepBindings, Renumbers}
use Rattle.law_renumbered.specs.RenumberedWorkspace.{elsewhere, field, method, own, predeclared}
use Rattle.law_renumbered.proofs.Renumbering.{elsewhere_bound, in_package}

module _ (qualifiers : QualifiersRenumber) (names : MemberNamesRenumber) (members : UsedMembersRenumber) (w : Workspace) (known : Verdicts) (r : Revision)
    (n : NewNumbers) (p q : Package) (h : IsRenumberedBy w known r n p q) where
  abbrev Becomes : Declaration → Declaration → Type 0
  Becomes d e = Corresponds (IsCheckedPackage w known) (IsCheckedPackage r.after known) r.moved d e

  become : (d e : Declaration) → Renumbers n p.path d e → HasDeclaringPlace w known d → Becomes d e
  become _ _ predeclared place = becoming.predeclared
  become d e (own {k = k}) place = stands place.0 place.1 (h.become d e own place.0 place.1)
  become d e (elsewhere {other = other} {k = k} apart) place = stands place.0 place.1 (h.become d e (elsewhere apart) place.0 place.1)
  become d e (field {s = s}) place = stands place.0 place.1 (h.become d e field place.0 place.1)
  become d e (method {s = s}) place = stands place.0 place.1 (h.become d e method place.0 place.1)

  abbrev Kept : Place → Declaration → Type 0
  Kept place d = IsBoundToOne r.after known (r.moved place) (λ e. Becomes d e)

  kept_own : (place : Place) (d : Declaration) (u : ℕ) → BeginsAt p place.path place.offset u → Binds (IsCheckedPackage w known) p u d →
      HasDeclaringPlace w known d → Kept place d
  kept_own place d u begins bound at =
      let b = in_package qualifiers names members w known r n p q h u begins.0 d bound in
      record {
        declaration = b.declaration;
        is_use = record {
          used_in = q;
          is_package = h.is;
          user = n.identifier u;
          begins = h.begins u place begins;
          bound = b.bound;
        };
        holds = become d b.declaration b.renumbers at;
      }

  kept_elsewhere : (place : Place) (d : Declaration) (y : Package) → IsCheckedPackage w known y → (y.path ≡ p.path → ⊥) → (u : ℕ) →
      BeginsAt y place.path place.offset u → Binds (IsCheckedPackage w known) y u d → HasDeclaringPlace w known d → Kept place d
  kept_elsewhere place d y is apart u begins bound at =
      let b = elsewhere_bound qualifiers names members w known r n p q h y is apart u d bound in
      let in_folder : folder place.path ≡ y.path = sym (begins_in_folder w known y is place.path place.offset u begins) in
      let stays : r.moved place ≡ place = h.unmoved place (λ same. apart (sym in_folder ∙ same)) in
      record {
        declaration = b.declaration;
        is_use = record {
          used_in = y;
          is_package = h.others y is apart;
          user = u;
          begins = subst (λ (z : Place). BeginsAt y z.path z.offset u) (sym stays) begins;
          bound = b.bound;
        };
        holds = become d b.declaration b.renumbers at;
      }

  kept : (place : Place) (d : Declaration) → IsUseOf w known d place → Kept place d
  kept place d used =
      let at = h.places place d used in
      elim (cases_bytes used.used_in.path p.path) [
        | inr apart ↦ kept_elsewhere place d used.used_in used.is_package apart used.user used.begins used.bound at
        | inl same ↦
            let whole : used.used_in ≡ p = one_package w known used.used_in p used.is_package h.was same in
            kept_own place d used.user (subst (λ (z : Package). BeginsAt z place.path place.offset used.user) whole used.begins)
            (subst (λ (z : Package). Binds (IsCheckedPackage w known) z used.user d) whole used.bound) at
      ]

  none_added : (place : Place) (e : Declaration) → IsIdentifierAt w known place → IsUseOf r.after known e (r.moved place) →
      IsBoundToOne w known place (λ d. Becomes d e)
  none_added place e here used = elim (h.bound_or_not place here) [
    | inr none ↦ absurd (none e used)
    | inl bound ↦
        let now = kept place bound.0 bound.1 in
        let same : now.declaration ≡ e = one_used r.after known (r.moved place) now.declaration e now.is_use used in
        record { declaration = bound.0; is_use = bound.1; holds = subst (Becomes bound.0) same now.holds }
  ]

  -- an identifier is moved to one
  moved_identifier : (place : Place) → IsIdentifierAt w known place → IsIdentifierAt r.after known (r.moved place)
  moved_identifier place here = elim (cases_bytes here.used_in.path p.path) [
    | inr apart ↦
        let in_folder : folder place.path ≡ here.used_in.path =
        sym (begins_in_folder w known here.used_in here.is_package place.path place.offset here.user here.begins) in
        let stays : r.moved place ≡ place = h.unmoved place (λ same. apart (sym in_folder ∙ same)) in
        record {
          used_in = here.used_in;
          is_package = h.others here.used_in here.is_package apart;
          user = here.user;
          begins = subst (λ (z : Place). BeginsAt here.used_in z.path z.offset here.user) (sym stays) here.begins;
        }
    | inl same ↦
        let whole : here.used_in ≡ p = one_package w known here.used_in p here.is_package h.was same in
        record {
          used_in = q;
          is_package = h.is;
          user = n.identifier here.user;
          begins = h.begins here.user place (subst (λ (z : Package). BeginsAt z place.path place.offset here.user) whole here.begins);
        }
  ]

  pub first_step : AreVerdicts w known → AreVerdicts r.after known → KeepsBindings w known r known → IsFirstStep w known r known
  first_step right right_after all = record { right = right; right_between = right_after; kept = all; identifiers = moved_identifier }

  pub all_kept : KeepsBindings w known r known
  all_kept = record { keeps = kept; adds_none = none_added }

by_laws : QualifiersRenumber → MemberNamesRenumber → UsedMembersRenumber → RenumberedWorkspacesKeepBindings
by_laws qualifiers names members w known r n p q h = all_kept qualifiers names members w known r n p q h

pub renumbered_workspaces_keep_bindings : RenumberedWorkspacesKeepBindings
renumbered_workspaces_keep_bindings = by_laws qualifiers_renumber member_names_renumber used_members_renumber

steps_by_laws : QualifiersRenumber → MemberNamesRenumber → UsedMembersRenumber → RenumberedWorkspacesAreSteps
steps_by_laws qualifiers names members w known r n p q h right right_after =
    first_step qualifiers names members w known r n p q h right right_after (all_kept qualifiers names members w known r n p q h)

pub renumbered_workspaces_are_steps : RenumberedWorkspacesAreSteps
renumbered_workspaces_are_steps = steps_by_laws qualifiers_renumber member_names_renumber used_members_renumber
