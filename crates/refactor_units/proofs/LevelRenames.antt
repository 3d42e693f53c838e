-- A planned rename of a package-level declaration is a plain one, and its files carry the units over with the new name.
use Rattle.std.proofs.Common.{ℕ, ◌≡◌, List, [], ◌∷◌, sym, subst}
use Rattle.base_edits.specs.EditSet.{edited}
use Rattle.base_files.specs.Path.{folder}
use Rattle.base_files.specs.Workspace.{Workspace}
use Rattle.base_files.specs.declared.place.Place.{Place}
use Rattle.types_declared.specs.Package.{Package}
use Rattle.workspace_check.specs.FaultLists.{ListsFaults}
use Rattle.workspace_check.specs.Verdicts.{Verdicts, AreVerdicts}
use Rattle.workspace_snapshot.specs.declared.change.Change.{Change}
use Rattle.workspace_snapshot.specs.declared.snapshot.Snapshot.{Snapshot}
use Rattle.refs_binding.specs.declared.declaration.Declaration.{Declaration}
use Rattle.refs_binding.specs.declared.declaration.Declaration.TheVariants.{Declared}
use Rattle.refs_binding.specs.Uses.{IsCheckedPackage, IsUseOf}
use Rattle.refs_binding.proofs.Units.{one_package}
use Rattle.refs_lookup.proofs.Bindings.{held_stays}
use Rattle.refs_lookup.proofs.OneDeclaration.{one_held}
use Rattle.refs_lookup.proofs.Packages.{package_stays}
use Rattle.refactor_rename.specs.Literals.{IsUnnamedImport}
use Rattle.refactor_rename.specs.NewName.{IsNewName}
use Rattle.refactor_plan.specs.Plan.{IsRenamed}
use Rattle.build_names.specs.Words.{NameChange}
use Rattle.build_kept.specs.KnownUnits.{CarriesUnits}
use Rattle.law_renamed_workspaces.specs.Renames.{IsPlainRename}
use Rattle.law_objects.proofs.Globals.{globals_carried}
use Rattle.refactor_units.specs.CarriedNames.{CarriesPlanned, CarriesRename}
use Rattle.refactor_units.specs.LevelNames.{IsLevelAt, IsLevelNumber}
use Rattle.refactor_units.proofs.PlainRenames.{HasOwnName, planned_plain, same_closure, used_there}

module _ (w : Workspace) (sound : ListsFaults w []) (known : Verdicts) (right : AreVerdicts w known) (p : Package) (is : IsCheckedPackage w known p) (n : ℕ)
    (level : IsLevelNumber p n) where
  used : (place : Place) × IsUseOf w known (Declared p.path n) place
  used = used_there w sound known right p is n level.own level.declares level.has_name

  named : HasOwnName (IsCheckedPackage w known) (Declared p.path n)
  named x also e import = level.has_name (subst (λ (y : Package). IsUnnamedImport y n) (one_package w known x p also is e) import)

-- the rename that is planned is one of this declaration
module _ (snapshot : Snapshot) (path : List ℕ) (offset : ℕ) (name : List ℕ) (c : NameChange) (h : IsLevelAt snapshot.files path offset name c)
    (change : Change) (sound : ListsFaults snapshot.files []) (form : IsNewName name) (renamed : IsRenamed snapshot path offset name change) where
  abbrev w : Workspace
  w = snapshot.files

  abbrev known : Verdicts
  known = renamed.renaming.may.renamable.asked.known

  abbrev right : AreVerdicts w known
  right = renamed.renaming.may.renamable.asked.right

  is_package : IsCheckedPackage w known h.declared_in
  is_package = package_stays w w h.known known h.right right h.declared_in (same_closure w h.declared_in.path) h.is_package

  abbrev d : Declaration
  d = renamed.renaming.may.renamable.asked.declaration

  same : d ≡ Declared h.declared_in.path h.number
  same =
      one_held w known path offset d (Declared h.declared_in.path h.number) renamed.renaming.may.renamable.asked.has
      (held_stays w w h.known known h.right right path (same_closure w (folder path)) offset (Declared h.declared_in.path h.number) h.has)

  plain : IsPlainRename w known d name change.edits
  plain =
      planned_plain snapshot path offset name change sound form renamed
      (subst (λ e. (place : Place) × IsUseOf w known e place) (sym same) (used w sound known right h.declared_in is_package h.number h.is_level))
      (subst (HasOwnName (IsCheckedPackage w known)) (sym same) (named w sound known right h.declared_in is_package h.number h.is_level))

  carried : CarriesUnits w change.files (c ∷ [])
  carried =
      subst (λ (x : Change). CarriesUnits w x.files (c ∷ [])) (sym renamed.is_change)
      (subst (λ z. CarriesUnits w (edited change.edits w) (z ∷ [])) (sym h.is_change)
      (globals_carried w known h.declared_in h.number name change.edits (subst (λ e. IsPlainRename w known e name change.edits) same plain)
      renamed.preserves.bindings is_package h.is_level.level h.paths))

pub level_carries : (snapshot : Snapshot) (path : List ℕ) (offset : ℕ) (name : List ℕ) (c : NameChange) → ListsFaults snapshot.files [] →
    IsLevelAt snapshot.files path offset name c → CarriesPlanned snapshot path offset name (c ∷ [])
level_carries snapshot path offset name c sound h = record {
  sound = sound;
  carries = λ change plans. carried snapshot path offset name c h change plans.0.sound plans.0.form plans.1;
}

pub level_renames : (w : Workspace) (path : List ℕ) (offset : ℕ) (name : List ℕ) (c : NameChange) → ListsFaults w [] → IsLevelAt w path offset name c →
    CarriesRename w path offset name (c ∷ [])
level_renames w path offset name c sound h snapshot same =
    level_carries snapshot path offset name c (subst (λ x. ListsFaults x []) (sym same) sound)
    (subst (λ x. IsLevelAt x path offset name c) (sym same) h)
