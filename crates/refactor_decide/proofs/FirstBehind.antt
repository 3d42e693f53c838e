-- The first use in another package, where all such uses turn, is the first conflict behind the package's name.
use Rattle.std.proofs.Common.{ℕ, ◌≡◌, true, List, Option, Some, None, ap, sym, subst, refl, ◌∙◌}
use Rattle.std.specs.Prelude.{[], is_some}
use Rattle.base_files.specs.Path.{folder}
use Rattle.base_files.specs.Workspace.{Workspace}
use Rattle.base_files.specs.declared.place.Place.{Place}
use Rattle.types_check.specs.Check.{exports_in}
use Rattle.types_check.specs.Exports.{DoesExport}
use Rattle.types_declared.specs.Package.{Package, ExportData}
use Rattle.workspace_check.specs.FaultLists.{ListsFaults}
use Rattle.workspace_check.specs.Verdicts.{Verdicts, AreVerdicts, IsPackageIn}
use Rattle.workspace_check.proofs.Closed.{not_on_itself}
use Rattle.refs_binding.specs.declared.declaration.Declaration.TheVariants.{Declared}
use Rattle.refs_binding.specs.Binding.{BindsQualified, by_scope, by_package, by_member, by_name}
use Rattle.refs_binding.specs.Identifiers.{BeginsAt}
use Rattle.refs_binding.specs.Uses.{IsCheckedPackage, IsBoundToDeclaration}
use Rattle.refs_binding.proofs.Folders.{begins_in_folder}
use Rattle.refs_binding.proofs.Units.{one_package}
use Rattle.refs_lookup.proofs.ExportedNames.{is_found}
use Rattle.refactor_conflict.specs.declared.conflict.Conflict.{Conflict}
use Rattle.law_renamed_workspaces.proofs.OwnNames.{member_is_none, seen_exports}
use Rattle.law_agreement.specs.Behind.{TurnsQualified}
use Rattle.law_agreement.specs.ScopeConflicts.{FirstConflictBehind}
use Rattle.refactor_decide.specs.Behind.{IsFirstUse, IsUsedOutside}
use Rattle.refactor_decide.specs.Turned.{TellsTurned}
use Rattle.refactor_decide.specs.declared.turned.TurnedUses.{TurnedUses}
use Rattle.refactor_decide.proofs.FirstOwn.{capturer_behind}

module _ (w : Workspace) (sound : ListsFaults w []) (known : Verdicts) (right : AreVerdicts w known) (p : Package) (is : IsCheckedPackage w known p) where
  -- no package imports itself
  none_inside : (u d : ℕ) (place : Place) → BeginsAt p place.path place.offset u → BindsQualified (IsCheckedPackage w known) p u (Declared p.path d) → ⊥
  none_inside u d place begins b =
      let checked : IsPackageIn w known p.path p = is.is_checked in
      let found : exports_in p p.path (p.names u) ≡ true = is_found w sound known right p is u begins.0 p.path b.behind in
      let test : is_some ((checked.export_data_of p.path).exported (p.names u)) ≡ true =
      subst (λ (i : List ℕ → ExportData). is_some ((i p.path).exported (p.names u)) ≡ true)
      (ap (λ (x : Package). x.export_data_of) checked.is_package.is_package) found in
      not_on_itself w p.path p.path
      (seen_exports w known p.path p.path (p.names u) (checked.name_of p.path) (checked.export_data_of p.path) (checked.are_seen p.path) test) refl

  -- what is bound behind the package's name stands in another package
  used_outside : (d : ℕ) (place : Place) (x : Package) → IsCheckedPackage w known x → (u : ℕ) → BeginsAt x place.path place.offset u →
      BindsQualified (IsCheckedPackage w known) x u (Declared p.path d) → IsUsedOutside w known p d place
  used_outside d place x also u begins b = record {
    is_use = record { used_in = x; is_package = also; user = u; begins = begins; bound = by_package b };
    outside = λ inside.
        let one : x ≡ p = one_package w known x p also is (begins_in_folder w known x also place.path place.offset u begins ∙ inside) in
        none_inside u d place (subst (λ (y : Package). BeginsAt y place.path place.offset u) one begins)
        (subst (λ (y : Package). BindsQualified (IsCheckedPackage w known) y u (Declared p.path d)) one b);
  }

  -- what another package uses is bound behind the package's name
  qualified : (d : ℕ) (place : Place) → (folder place.path ≡ p.path → ⊥) → (x : Package) → IsCheckedPackage w known x → (u : ℕ) →
      BeginsAt x place.path place.offset u → IsBoundToDeclaration w known x u (Declared p.path d) → BindsQualified (IsCheckedPackage w known) x u (Declared
      p.path d)
  qualified d place outside x also u begins (by_scope b) =
      absurd (outside (sym (begins_in_folder w known x also place.path place.offset u begins) ∙ sym b.0))
  qualified d place outside x also u begins (by_package b) = b
  qualified d place outside x also u begins (by_member b) = absurd (member_is_none b.member p.path d b.declares)
  qualified d place outside x also u begins (by_name b) = absurd b

  module _ (n : ℕ) (name : List ℕ) where
    seen_so : (old : ℕ) (x : Package) (u : ℕ) → BindsQualified (IsCheckedPackage w known) x u (Declared p.path old) → DoesExport p old
    seen_so old x u b = subst (λ (y : Package). DoesExport y old) (one_package w known b.other p b.is_package is b.of_path) b.seen

    pub none_behind : TellsTurned p n name None → FirstConflictBehind (IsCheckedPackage w known) p n name None
    none_behind none = λ place x also u begins by turns. none turns.old by (seen_so turns.old x u turns.was) turns.turns

    module _ (t : TurnedUses) (tells : TellsTurned p n name (Some t)) where
      turned_use : (place : Place) (x : Package) → IsCheckedPackage w known x → (u : ℕ) → BeginsAt x place.path place.offset u → (by : Option ℕ) →
          TurnsQualified (IsCheckedPackage w known) p n name x u by → IsUsedOutside w known p t.declaration place
      turned_use place x also u begins by turns =
          let same : turns.old ≡ t.declaration = tells.1 turns.old by (seen_so turns.old x u turns.was) turns.turns in
          used_outside t.declaration place x also u begins
          (subst (λ d. BindsQualified (IsCheckedPackage w known) x u (Declared p.path d)) same turns.was)

      pub first_behind : (c : Option Conflict) → IsFirstUse w known p t c → FirstConflictBehind (IsCheckedPackage w known) p n name c
      first_behind None h = λ place x also u begins by turns. h place (turned_use place x also u begins by turns)
      first_behind (Some c) h =
          let use_of = h.0.is_use in (
            record {
              used_in = use_of.used_in;
              is_package = use_of.is_package;
              user = use_of.user;
              begins = use_of.begins;
              by = t.by;
              turns = record {
                old = t.declaration;
                was = qualified t.declaration c.used h.0.outside use_of.used_in use_of.is_package use_of.user use_of.begins use_of.bound;
                turns = tells.0;
              };
              told = capturer_behind w known p is t.by c.by h.1;
            },
            (λ place before x also u begins by turns. h.2 place before (turned_use place x also u begins by turns)),
          )
