-- What an admitted rename does to packages without faults, and to those that it does not affect.
use Rattle.std.proofs.Common.{◌≡◌, ℕ, inl, List, [], ◌∷◌, Some, refl, sym, ap, subst, ◌∙◌}
use Rattle.std.specs.Prelude.{Contains, Ok}
use Rattle.base_files.specs.Path.{folder}
use Rattle.base_files.specs.Packages.{package_paths}
use Rattle.base_files.specs.Workspace.{Workspace}
use Rattle.base_edits.specs.EditSet.{FileChanges, change_of, edited}
use Rattle.base_edits.specs.RevisionsOfEdits.{revision_of}
use Rattle.base_edits.specs.declared.change.FileChange.{FileChange}
use Rattle.base_edits.specs.declared.change.Fate.TheVariants.{Stays}
use Rattle.base_edits.specs.declared.edit.Edit.{Edit}
use Rattle.workspace_graph.specs.Packages.{IsInClosure}
use Rattle.workspace_graph.proofs.ByPath.{is_package}
use Rattle.workspace_check.specs.Closures.{HasSameClosure}
use Rattle.workspace_check.specs.Verdicts.{Verdicts, AreVerdicts}
use Rattle.workspace_snapshot.specs.declared.snapshot.Snapshot.{Snapshot}
use Rattle.workspace_snapshot.specs.declared.change.Change.{Change}
use Rattle.history_machine.specs.Machine.{Content}
use Rattle.history_machine.proofs.RunLaws.{undo_restores}
use Rattle.types_declared.specs.Package.{Package}
use Rattle.refs_binding.specs.declared.declaration.Declaration.{Declaration}
use Rattle.refs_binding.specs.declared.declaration.Declaration.TheVariants.{Predeclared, Declared, Field, Method}
use Rattle.refs_binding.specs.Uses.{IsCheckedPackage}
use Rattle.refs_places.specs.Homes.{IsHomeOfSome}
use Rattle.refs_places.specs.Outside.{declaring_path}
use Rattle.refactor_rename.specs.Naming.{IsFixed}
use Rattle.refactor_part.specs.FaultlessPart.{faultless_part}
use Rattle.refactor_part.proofs.PartClosures.{reaches_in_whole}
use Rattle.refactor_part.proofs.PartEdits.{AreApart, staying_apart}
use Rattle.refactor_part.proofs.PartFiles.{from_part}
use Rattle.refactor_affected.specs.Renames.{IsAffectedByRename, PlansAffectedRename}
use Rattle.law_implementing.proofs.RenamedHomes.{set_has_it, set_homes}
use Rattle.law_plans.specs.SoundRenames.{RenamesSound, RenamesKeepSoundBindings, UndoTakesAffectedRenamesBack}
use Rattle.law_plans.proofs.AffectedAfter.{affected_stay_sound, faulty_apart, leaves_others}
use Rattle.law_plans.proofs.SoundAfter.{preserves_sound}
use Rattle.law_plans.proofs.StayingFiles.{each_goes_staying, none_comes_staying}
use Rattle.law_plans.proofs.OthersRenamed.{edited_reaches, others_renamed}

-- a declaration that can be renamed is one of a package
pub home_of : (P : Package → Type 0) (d : Declaration) → (IsFixed P d → ⊥) → (home : List ℕ) × (declaring_path d ≡ Some home)
home_of P (Predeclared n) not = absurd (not (inl tt))
home_of P (Declared path n) not = (path, refl)
home_of P (Field s) not = (s.package, refl)
home_of P (Method s) not = (s.package, refl)

module _ (snapshot : Snapshot) (path : List ℕ) (offset : ℕ) (name : List ℕ) (change : Change) (plan : PlansAffectedRename snapshot path offset name (Ok
    change)) where
  abbrev w : Workspace
  w = snapshot.files

  abbrev s : FileChanges
  s = change.edits

  abbrev known : Verdicts
  known = plan.0.sound.known

  abbrev right : AreVerdicts snapshot.files plan.0.sound.known
  right = plan.0.sound.right

  stay : (c : FileChange) → Contains s.changed c → c.fate ≡ Stays
  stay c has = (plan.1.renaming.edits.edits.edits.only c has).stays

  abbrev none : change.edits.added ≡ []
  none = plan.1.renaming.edits.edits.edits.none_added

  apart : AreApart s w
  apart = staying_apart s w stay

  -- where a file with an edit lies
  reaches : (file : List ℕ) (c : FileChange) (e : Edit) (rest : List Edit) → change_of s file ≡ Some c → c.edits ≡ e ∷ rest →
      (home : List ℕ) × (IsHomeOfSome plan.1.renaming.set home × IsInClosure w (folder file) home)
  reaches file c e rest is edits =
      let may = plan.1.renaming.may.renamable in
      let asked = may.asked in
      let coupled = plan.1.renaming.edits in
      let home = home_of _ asked.declaration may.not_fixed in
      let part = faultless_part w known in
      let closed = edited_reaches part asked.known asked.right asked.declaration plan.1.renaming.set name s coupled.edits home.0 home.1
      (set_has_it (IsCheckedPackage part asked.known) asked.declaration plan.1.renaming.set coupled.is_set)
      (set_homes (IsCheckedPackage part asked.known) asked.declaration plan.1.renaming.set coupled.is_set home) file c e rest is edits in
      let fine = (from_part w known (folder file) (is_package part (folder file) closed.0 closed.1.1)).1 in
      (closed.0, (closed.1.0, reaches_in_whole w known right (folder file) closed.0 fine closed.1.1))

  unaffected : (p : List ℕ) → Contains (package_paths w) p → (IsAffectedByRename w (faultless_part w known) path offset p → ⊥) → HasSameClosure w (edited s w) p
  unaffected p has not =
      let may = plan.1.renaming.may.renamable in
      others_renamed w s none apart stay (IsHomeOfSome plan.1.renaming.set) reaches p
      (λ home is closed. not (record {
        start = home;
        begins = record { asked = may.asked; set = plan.1.renaming.set; is_set = plan.1.renaming.edits.is_set; declares = is };
        in_closure = closed;
      }))

  pub renamed_sound : RenamesSound w path offset name s (edited s w)
  renamed_sound =
      let back = none_comes_staying w known s none apart stay in
      let preserved = preserves_sound w known right s none apart back (each_goes_staying w known s none apart stay back right) plan.1.preserves.bindings
      plan.1.fit_part
      (λ p has faulty. unaffected p has (faulty_apart w (IsAffectedByRename w (faultless_part w known) path offset) plan.1.sound known right p has faulty)) in
      record {
        asked = plan.0;
        affected_sound = plan.1.sound;
        renaming = plan.1.renaming;
        files = refl;
        preserves = preserved;
        in_part = plan.1.preserves;
        affected_after = affected_stay_sound w (IsAffectedByRename w (faultless_part w known) path offset) (revision_of w s) plan.1.sound preserved;
        others = leaves_others w (IsAffectedByRename w (faultless_part w known) path offset) (edited s w) unaffected;
      }

-- The state after a committed rename, from the snapshot on which the rename was planned.
pub renames_keep_sound : RenamesKeepSoundBindings
renames_keep_sound snapshot path offset name change old new basis number plan step =
    let same : snapshot.files ≡ old.current.files = sym (ap (λ (c : Change). c.base) plan.1.is_change) ∙ step.1.0.0.1 in
    let files : edited change.edits snapshot.files ≡ new.current.files =
    sym (ap (λ (c : Content). c.current.files) step.1.2.2 ∙ ap (λ (c : Change). c.files) plan.1.is_change) in
    subst (λ (x : Workspace). RenamesSound old.current.files path offset name change.edits x) files
    (subst (λ (x : Workspace). RenamesSound x path offset name change.edits (edited change.edits snapshot.files)) same
    (renamed_sound snapshot path offset name change plan))

pub undo_takes_affected_back : UndoTakesAffectedRenamesBack
undo_takes_affected_back snapshot path offset name change start changed settled end basis number between reply plan committed run quiet undone =
    undo_restores start changed settled end basis number change between reply committed run quiet undone
