-- Objects follow a planned rename.
use Rattle.std.proofs.Common.{ℕ, ◌≡◌, inl, inr, List, [], refl, ap, sym, subst, ◌∙◌}
use Rattle.base_edits.specs.EditSet.{edited}
use Rattle.base_edits.specs.RevisionsOfEdits.{revision_of}
use Rattle.base_files.specs.Workspace.{Workspace}
use Rattle.base_files.specs.declared.place.Place.{Place}
use Rattle.go_scope.specs.declared.model.Block.TheVariants.{File}
use Rattle.go_scope.specs.declared.model.Block.TheVariants.{Package as PackageBlock}
use Rattle.go_scope.specs.Bindings.{IsPackageLevel}
use Rattle.types_declared.specs.Package.{ExportData, Package}
use Rattle.workspace_check.specs.FaultLists.{ListsFaults}
use Rattle.workspace_check.specs.Verdicts.{Verdicts, AreVerdicts}
use Rattle.workspace_snapshot.specs.declared.change.Change.{Change}
use Rattle.workspace_snapshot.specs.declared.snapshot.Snapshot.{Snapshot}
use Rattle.refs_binding.specs.declared.declaration.Declaration.{Declaration}
use Rattle.refs_binding.specs.declared.declaration.Declaration.TheVariants.{Predeclared, Declared, Field, Method}
use Rattle.refs_binding.specs.Uses.{IsCheckedPackage, IsUseOf, HasDeclaration}
use Rattle.refs_binding.proofs.Units.{one_package}
use Rattle.refactor_rename.specs.Literals.{IsUnnamedImport}
use Rattle.refactor_rename.specs.NewName.{IsNewName}
use Rattle.refactor_plan.specs.Plan.{IsRenamed}
use Rattle.refactor_plan.proofs.UsedMembers.{declared_counts, member_used}
use Rattle.build_object.specs.Names.{type_name}
use Rattle.build_unit.specs.Units.{IsCompiled}
use Rattle.law_objects.specs.Replaced.{Replaced, of_global, of_methods, text_by}
use Rattle.law_objects.specs.Objects.{AreTypesOfMethods, HasObjectText, IsUnprinted, ReplacesNames}
use Rattle.law_objects.proofs.Laws.{globals, members, unprinted}
use Rattle.law_objects.proofs.UnitTexts.{object_of_unit, object_there, one_text_of_unit, text_of_unit}
use Rattle.law_objects.specs.KeptObjects.{KeepObjects}
use Rattle.law_objects.proofs.GainedObjectsLaws.{unnamed_renames_keep_objects}
use Rattle.law_renamed_workspaces.specs.Harmless.{IsHarmless}
use Rattle.law_renamed_workspaces.specs.RenamedData.{IsAlone}
use Rattle.law_renamed_workspaces.specs.Renames.{IsMember, IsPlainRename}
use Rattle.refactor_units.specs.PlannedObjects.{PlannedRenamesRenameObjects, RenamesBuiltObjects, RenamesInObjects, RenamesObjects, ReplacesBuiltNames}
use Rattle.refactor_units.proofs.PlainRenames.{HasOwnName, kept_harmless, planned_plain, planned_set, used_there}
use Rattle.refactor_units.proofs.AloneRenames.{alone}
use Rattle.refactor_units.proofs.UnnamedRenames.{named_or_not, planned_unnamed}

-- some identifier is bound to the declaration
module _ (w : Workspace) (sound : ListsFaults w []) (known : Verdicts) (right : AreVerdicts w known) (path : List ℕ) (offset : ℕ) where
  abbrev K : Package → Type 0
  K = IsCheckedPackage w known

  abbrev Used : Declaration → Type 0
  Used d = (place : Place) × IsUseOf w known d place

  used_declared : (d : Declaration) → HasDeclaration w known path offset d → HasOwnName K d → (p : Package) (n : ℕ) → K p → d ≡ Declared p.path n → Used d
  used_declared d has named p n is same =
      let counted = declared_counts w sound known right path offset d has p n is same in
      let own_name = subst (HasOwnName K) same named in
      subst Used (sym same) (used_there w sound known right p is n counted.own counted.counts.declares (own_name p is refl))

  used_unprinted : (d : Declaration) → HasDeclaration w known path offset d → HasOwnName K d → IsUnprinted K d → Used d
  used_unprinted (Predeclared n) has named none = absurd none
  used_unprinted (Declared q n) has named none =
      used_declared (Declared q n) has named none.inside n none.is_package (ap (λ r. Declared r n) (sym none.of_path))
  used_unprinted (Field s) has named none = member_used w sound known right path offset (Field s) has tt
  used_unprinted (Method s) has named none = absurd none

  -- a member has a name of its own, and is used
  member_named : (d : Declaration) → IsMember d → HasOwnName K d
  member_named (Predeclared n) member = absurd member
  member_named (Declared q n) member = absurd member
  member_named (Field s) member = tt
  member_named (Method s) member = tt

  -- a package-level declaration is no import
  level_named : (own : Package) (n : ℕ) → K own → IsPackageLevel own.layout n → HasOwnName K (Declared own.path n)
  level_named own n is level x also e unnamed =
      let import = subst (λ (y : Package). IsUnnamedImport y n) (one_package w known x own also is e) unnamed in
      let block : File import.0.0 ≡ PackageBlock = sym import.0.1 ∙ level in
      cc

  number_named : (p : Package) (n : ℕ) → K p → (IsUnnamedImport p n → ⊥) → HasOwnName K (Declared p.path n)
  number_named p n is named x also e unnamed = named (subst (λ (y : Package). IsUnnamedImport y n) (one_package w known x p also is e) unnamed)

module _ (snapshot : Snapshot) (path : List ℕ) (offset : ℕ) (name : List ℕ) (change : Change) (sound : ListsFaults snapshot.files []) (form : IsNewName name)
    (renamed : IsRenamed snapshot path offset name change) where
  abbrev w : Workspace
  w = snapshot.files

  abbrev known : Verdicts
  known = renamed.renaming.may.renamable.asked.known

  abbrev right : AreVerdicts w known
  right = renamed.renaming.may.renamable.asked.right

  abbrev d : Declaration
  d = renamed.renaming.may.renamable.asked.declaration

  abbrev has : HasDeclaration w known path offset d
  has = renamed.renaming.may.renamable.asked.has

  abbrev x : Workspace
  x = edited change.edits w

  abbrev set : List Declaration
  set = renamed.renaming.set

  abbrev IsUsed : Type 0
  IsUsed = (place : Place) × IsUseOf w known d place

  abbrev plain : HasOwnName (IsCheckedPackage w known) d → IsUsed → IsPlainRename w known d name change.edits
  plain named used = planned_plain snapshot path offset name change sound form renamed used named

  harmless : HasOwnName (IsCheckedPackage w known) d → IsUsed → IsHarmless w known (revision_of w change.edits)
  harmless named used = kept_harmless w known d name change.edits (plain named used) renamed.preserves

  module _ (after : Verdicts) (right_after : AreVerdicts x after) where
    named_stay : HasOwnName (IsCheckedPackage w known) d → IsUnprinted (IsCheckedPackage w known) d → KeepObjects w known x after
    named_stay named none =
        let used = used_unprinted w sound known right path offset d has named none in
        unprinted w known after d name change.edits (plain named used) right_after (harmless named used)
        (subst (IsAlone d) (sym (planned_set snapshot path offset name change sound form renamed used named))
        (alone w sound known right d renamed.renaming.set renamed.renaming.edits.is_set none)) none

    -- a declaration of scopes that is not package-level
    inner_stay : (p : Package) (n : ℕ) → IsCheckedPackage w known p → d ≡ Declared p.path n → IsUnprinted (IsCheckedPackage w known) d →
        KeepObjects w known x after
    inner_stay p n is same none = elim (named_or_not p n) [
      | inl unnamed ↦
          unnamed_renames_keep_objects w known after p n name change.edits
          (planned_unnamed snapshot path offset name change sound form renamed p n is same unnamed) right_after renamed.preserves.bindings
      | inr named ↦
          named_stay (subst (HasOwnName (IsCheckedPackage w known)) (sym same) (number_named w sound known right path offset p n is named)) none
    ]

    stay : (e : Declaration) → d ≡ e → IsUnprinted (IsCheckedPackage w known) e → IsUnprinted (IsCheckedPackage w known) d → KeepObjects w known x after
    stay (Predeclared n) same none also = absurd none
    stay (Declared q n) same none also = inner_stay none.inside n none.is_package (same ∙ ap (λ r. Declared r n) (sym none.of_path)) also
    stay (Field s) same none also = named_stay (subst (HasOwnName (IsCheckedPackage w known)) (sym same) tt) also
    stay (Method s) same none also = absurd none

    objects : RenamesInObjects w known d set name x after
    objects q = record {
      unprinted = λ none. stay d refl none none q;
      package_level = λ own n same is level.
          let named = subst (HasOwnName (IsCheckedPackage w known)) (sym same) (level_named w sound known right path offset own n is level) in
          globals w known after own n name change.edits
          (subst (λ e. IsPlainRename w known e name change.edits) same
          (plain named (used_declared w sound known right path offset d has named own n is same))) right_after renamed.preserves.bindings is level q;
      methods = λ member called has_name types are.
          let named = member_named w sound known right path offset d member in
          let used = member_used w sound known right path offset d has member in
          members w known after d called name change.edits (plain named used) member right_after (harmless named used) has_name types
          (subst (λ l. AreTypesOfMethods w known l types) (sym (planned_set snapshot path offset name change sound form renamed used named)) are) q;
    }

  -- the objects that builds make

  abbrev after : Verdicts
  after = renamed.preserves.bindings.after

  all : RenamesInObjects w known d set name x after
  all = objects renamed.preserves.bindings.after renamed.preserves.bindings.right_after

  one_built : (q : List ℕ) (j : ExportData) (new other : List ℕ) → HasObjectText x after q other → IsCompiled x q j new → new ≡ other
  one_built q j new other h c =
      let k = renamed.preserves.bindings in
      one_text_of_unit x k.after k.right_after q (object_there x k.after q other h) k.sound j new other c h

  replaced : (r : Replaced) → ReplacesNames w known x after r → ReplacesBuiltNames w x r
  replaced r replaces q there i j old new c built =
      one_built q j new (text_by r (type_name c.files_of) c.is_object.object)
      (replaces q c.files_of c.is_object.object (object_of_unit w known right q there i old c)) built

  built : RenamesBuiltObjects w known d set name x
  built = record {
    unprinted = λ none q there i j old new c now.
        one_built q j new old ((all q).unprinted none old (text_of_unit w known right q there i old c)) now;
    package_level = λ own n same is level.
        replaced (of_global own.path (own.names n) name) (λ q. (all q).package_level own n same is level);
    methods = λ member called has_name types are.
        replaced (of_methods types called name) (λ q. (all q).methods member called has_name types are);
  }

  files : change.files ≡ x
  files = ap (λ (z : Change). z.files) renamed.is_change

  follow : RenamesObjects w path offset name change.files
  follow = record {
    asked = renamed.renaming.may.renamable.asked;
    set = set;
    is_set = renamed.renaming.edits.is_set;
    objects = subst (λ z. (a : Verdicts) → AreVerdicts z a → RenamesInObjects w known d set name z a) (sym files) objects;
    built = subst (RenamesBuiltObjects w known d set name) (sym files) built;
  }

pub planned_objects : PlannedRenamesRenameObjects
planned_objects snapshot path offset name change plans = follow snapshot path offset name change plans.0.sound plans.0.form plans.1
