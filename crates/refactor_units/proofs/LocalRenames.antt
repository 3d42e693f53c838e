-- A planned rename of a local declaration is a plain one, and its files carry all units over.
use Rattle.std.proofs.Common.{ℕ, ◌≡◌, inl, inr, List, [], refl, sym, subst}
use Rattle.base_files.specs.Path.{folder}
use Rattle.base_files.specs.Workspace.{Workspace}
use Rattle.base_files.specs.declared.place.Place.{Place}
use Rattle.types_declared.specs.Package.{Package}
use Rattle.workspace_check.specs.FaultLists.{ListsFaults}
use Rattle.workspace_check.specs.Verdicts.{Verdicts, AreVerdicts}
use Rattle.workspace_snapshot.specs.declared.change.Change.{Change}
use Rattle.workspace_snapshot.specs.declared.snapshot.Snapshot.{Snapshot}
use Rattle.refs_binding.specs.declared.declaration.Declaration.{Declaration}
use Rattle.refs_binding.specs.declared.declaration.Declaration.TheVariants.{Declared}
use Rattle.refs_binding.specs.Uses.{IsCheckedPackage, IsUseOf}
use Rattle.refs_binding.proofs.Units.{one_package}
use Rattle.refs_lookup.proofs.Bindings.{held_stays}
use Rattle.refs_lookup.proofs.OneDeclaration.{one_held}
use Rattle.refs_lookup.proofs.Packages.{package_stays}
use Rattle.refactor_rename.specs.Literals.{IsUnnamedImport}
use Rattle.refactor_rename.specs.NewName.{IsNewName}
use Rattle.refactor_plan.specs.Plan.{IsRenamed}
use Rattle.law_renamed_workspaces.specs.KnownVerdicts.{IsHiddenIn, IsUnseen}
use Rattle.build_kept.specs.KnownUnits.{CarriesUnits}
use Rattle.law_objects.proofs.Carried.{local_carried}
use Rattle.law_objects.specs.Objects.{IsUnprinted}
use Rattle.law_renamed_workspaces.specs.Renames.{IsMember, IsPlainRename}
use Rattle.law_renamed_workspaces.proofs.RenamedSets.{own_alone}
use Rattle.refactor_units.specs.CarriedNames.{CarriesPlanned, CarriesRename}
use Rattle.refactor_units.specs.LocalNames.{IsLocalAt, IsLocalNumber}
use Rattle.refactor_units.proofs.PlainRenames.{HasOwnName, kept_harmless, planned_plain, same_closure, used_there}

module _ (w : Workspace) (sound : ListsFaults w []) (known : Verdicts) (right : AreVerdicts w known) (p : Package) (is : IsCheckedPackage w known p) (n : ℕ)
    (local : IsLocalNumber p n) where
  used : (place : Place) × IsUseOf w known (Declared p.path n) place
  used = used_there w sound known right p is n local.own local.declares local.has_name

  named : HasOwnName (IsCheckedPackage w known) (Declared p.path n)
  named x also e import = local.has_name (subst (λ (y : Package). IsUnnamedImport y n) (one_package w known x p also is e) import)

  -- no object prints its name, and no other package sees it
  unprinted : IsUnprinted (IsCheckedPackage w known) (Declared p.path n)
  unprinted = record { inside = p; is_package = is; of_path = refl; holds = local.inner }

  unseen : (set : List Declaration) (name q : List ℕ) → IsUnseen w known (Declared p.path n) set name q
  unseen set name q = inr (λ x also e. subst (λ (y : Package). IsHiddenIn y n name) (one_package w known p x is also (sym e)) (inl local.inner))

-- the rename that is planned is one of this declaration
module _ (snapshot : Snapshot) (path : List ℕ) (offset : ℕ) (h : IsLocalAt snapshot.files path offset) (name : List ℕ) (change : Change)
    (sound : ListsFaults snapshot.files []) (form : IsNewName name) (renamed : IsRenamed snapshot path offset name change) where
  abbrev w : Workspace
  w = snapshot.files

  abbrev known : Verdicts
  known = renamed.renaming.may.renamable.asked.known

  abbrev right : AreVerdicts w known
  right = renamed.renaming.may.renamable.asked.right

  is_package : IsCheckedPackage w known h.declared_in
  is_package = package_stays w w h.known known h.right right h.declared_in (same_closure w h.declared_in.path)
      h.is_package.is_package

  abbrev d : Declaration
  d = renamed.renaming.may.renamable.asked.declaration

  same : d ≡ Declared h.declared_in.path h.number
  same =
      one_held w known path offset d (Declared h.declared_in.path h.number) renamed.renaming.may.renamable.asked.has
      (held_stays w w h.known known h.right right path (same_closure w (folder path)) offset (Declared h.declared_in.path h.number) h.has)

  plain : IsPlainRename w known d name change.edits
  plain =
      planned_plain snapshot path offset name change sound form renamed
      (subst (λ e. (place : Place) × IsUseOf w known e place) (sym same) (used w sound known right h.declared_in is_package h.number h.is_local))
      (subst (HasOwnName (IsCheckedPackage w known)) (sym same) (named w sound known right h.declared_in is_package h.number h.is_local))

  carried : CarriesUnits w change.files []
  carried =
      subst (λ (x : Change). CarriesUnits w x.files []) (sym renamed.is_change)
      (local_carried w known d name change.edits plain renamed.preserves.bindings (kept_harmless w known d name change.edits plain renamed.preserves)
      (own_alone (IsCheckedPackage w known) d plain.rename.set plain.rename.is_set (λ m. subst IsMember same m))
      (subst (IsUnprinted (IsCheckedPackage w known)) (sym same) (unprinted w sound known right h.declared_in is_package h.number h.is_local))
      (λ q.
      subst (λ e. IsUnseen w known e plain.rename.set name q) (sym same)
      (unseen w sound known right h.declared_in is_package h.number h.is_local plain.rename.set name q)))

pub local_carries : (snapshot : Snapshot) (path : List ℕ) (offset : ℕ) (name : List ℕ) → ListsFaults snapshot.files [] →
    IsLocalAt snapshot.files path offset → CarriesPlanned snapshot path offset name []
local_carries snapshot path offset name sound h = record {
  sound = sound;
  carries = λ change plans. carried snapshot path offset h name change plans.0.sound plans.0.form plans.1;
}

pub local_renames : (w : Workspace) (path : List ℕ) (offset : ℕ) (name : List ℕ) → ListsFaults w [] → IsLocalAt w path offset →
    CarriesRename w path offset name []
local_renames w path offset name sound h snapshot same =
    local_carries snapshot path offset name (subst (λ x. ListsFaults x []) (sym same) sound) (subst (λ x. IsLocalAt x path offset) (sym same) h)
