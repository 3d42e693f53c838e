-- In a workspace without faults a rename is planned as in its part, which is the workspace itself.
use Rattle.std.proofs.Common.{◌≡◌, ℕ, inl, inr, true, false, List, [], ◌∷◌, subst, sym}
use Rattle.std.specs.Prelude.{◌⊎◌, Contains, Ok, Err}
use Rattle.std.proofs.lemmas.Bool.{true≢false}
use Rattle.base_files.specs.Path.{folder}
use Rattle.base_files.specs.Workspace.{Workspace}
use Rattle.base_files.specs.declared.place.Place.{Place}
use Rattle.base_files.specs.declared.fault_kind.FaultKind.{FaultKind}
use Rattle.base_files.specs.declared.refusal.Refusal.{Refusal}
use Rattle.base_files.specs.declared.refusal.Refusal.TheVariants as refusal
use Rattle.base_lemmas.proofs.Elements.{nothing_in, first_in}
use Rattle.workspace_check.specs.FaultLists.{ListsFaults}
use Rattle.workspace_check.specs.declared.fault.FileFault.{FileFault}
use Rattle.workspace_check.proofs.OneList.{no_fault, one_whole_list}
use Rattle.workspace_snapshot.specs.declared.snapshot.Snapshot.{Snapshot}
use Rattle.workspace_snapshot.specs.declared.change.Change.{Change}
use Rattle.refs_binding.specs.Uses.{HasFileAt, HasFirstFault, HasNoIdentifier, HasNoDeclaration}
use Rattle.refactor_rename.specs.NewName.{IsNewName}
use Rattle.refactor_part.specs.FirstFaults.{HaveNoFault}
use Rattle.refactor_part.proofs.PartClosures.{whole}
use Rattle.refactor_plan.specs.Plan.{PlansRename, IsValidRename, ResolvesToFixed, ResolvesToReserved, ResolvesToNamesake, HasConflict}
use Rattle.refactor_affected.specs.Steps.{is_of_fault}
use Rattle.refactor_affected.specs.Renames.{PlansAffectedRename, IsAskedInSound, IsRenamedBeside, IsRenameOverLimit, IsSoundRename, part_asked}

-- no package has a fault
abbrev pub none_faulty : (w : Workspace) → ListsFaults w [] → (P : List ℕ → Type 0) → HaveNoFault w P
none_faulty w sound P = record { known = sound.known; right = sound.right; none = λ f is. no_fault w sound is.path is.is_package f is.is_fault }

pub no_first_fault : (w : Workspace) → ListsFaults w [] → (place : Place) (kind : FaultKind) → HasFirstFault w place kind → ⊥
no_first_fault w sound place kind h =
    let f : FileFault = record { place = place; kind = kind } in
    nothing_in f (subst (λ (l : List FileFault). Contains l f) (one_whole_list w (f ∷ h.others) [] h.listed sound) (first_in f h.others))

module _ (snapshot : Snapshot) (path : List ℕ) (offset : ℕ) (name : List ℕ) where
  abbrev w : Workspace
  w = snapshot.files

  abbrev asked_in : IsValidRename w path name → IsAskedInSound w path name
  asked_in valid = record { file = valid.file; form = valid.form; sound = none_faulty w valid.sound (λ p. p ≡ folder path) }

  module _ (valid : IsValidRename w path name) where
    -- what holds of the workspace holds of the part
    in_part : (P : Workspace → Type 0) → P w → P (part_asked (asked_in valid))
    in_part P = subst P (sym (whole w valid.sound.known valid.sound.right valid.sound))

  pub refused_alike : (r : Refusal) → is_of_fault r ≡ false → PlansRename snapshot path offset name (Err r) →
      PlansAffectedRename snapshot path offset name (Err r)
  refused_alike refusal.Memory n h = tt
  refused_alike refusal.BadCommand n h = absurd h
  refused_alike refusal.BadPath n h = h
  refused_alike refusal.NoFile n h = h
  refused_alike refusal.TooLarge n h = (
    asked_in h.0,
    in_part h.0 (λ v. IsRenameOverLimit snapshot v path offset name) (record {
      sound = none_faulty w h.0.sound _;
      changes = h.1.changes;
      renaming = h.1.renaming;
      preserves = h.1.preserves;
      too_large = h.1.too_large;
    }),
  )
  refused_alike (refusal.Moved a) n h = absurd h
  refused_alike refusal.NothingToUndo n h = absurd h
  refused_alike refusal.NothingToRedo n h = absurd h
  refused_alike (refusal.Faulty place kind) n h = absurd (true≢false n)
  refused_alike refusal.NoIdentifier n h = (asked_in h.0, in_part h.0 (λ v. HasNoIdentifier v path offset) h.1)
  refused_alike refusal.NotRenamable n h = (asked_in h.0, in_part h.0 (λ v. HasNoDeclaration v path offset ⊎ ResolvesToFixed v path offset) h.1)
  refused_alike refusal.BadName n h = elim h [
    | inl form ↦ inl form
    | inr v ↦ inr (asked_in v.0, in_part v.0 (λ x. ResolvesToReserved x path offset name) v.1)
  ]
  refused_alike refusal.Same n h = (asked_in h.0, in_part h.0 (λ v. ResolvesToNamesake v path offset name) h.1)
  refused_alike (refusal.Captured a b) n h = (
    asked_in h.0,
    in_part h.0 (λ v. IsSoundRename w v path offset) (none_faulty w h.0.sound _),
    in_part h.0 (λ v. HasConflict v path offset name (refusal.Captured a b)) h.1,
  )
  refused_alike (refusal.Lost a) n h = (
    asked_in h.0,
    in_part h.0 (λ v. IsSoundRename w v path offset) (none_faulty w h.0.sound _),
    in_part h.0 (λ v. HasConflict v path offset name (refusal.Lost a)) h.1,
  )
  refused_alike refusal.NoPackage n h = absurd h
  refused_alike refusal.TargetTaken n h = absurd h
  refused_alike refusal.InsideItself n h = absurd h
  refused_alike refusal.JournalFull n h = absurd h
  refused_alike (refusal.Pending a) n h = absurd h
  refused_alike (refusal.Stale a) n h = absurd h
  refused_alike refusal.Already n h = absurd h
  refused_alike refusal.NoJob n h = absurd h
  refused_alike refusal.BodyShort n h = absurd h
  refused_alike (refusal.Coupled place) n h = (
    asked_in h.0,
    in_part h.0 (λ v. IsSoundRename w v path offset) (none_faulty w h.0.sound _),
    in_part h.0 (λ v. HasConflict v path offset name (refusal.Coupled place)) h.1,
  )
  refused_alike refusal.Disk n h = absurd h

  pub planned_alike : (change : Change) → PlansRename snapshot path offset name (Ok change) → PlansAffectedRename snapshot path offset name (Ok change)
  planned_alike change h = (
    asked_in h.0,
    in_part h.0 (λ v. IsRenamedBeside snapshot v path offset name change) (record {
      sound = none_faulty w h.0.sound _;
      renaming = h.1.renaming;
      preserves = h.1.preserves;
      fits = h.1.fits;
      fit_part = h.1.fit_files;
      fit_files = h.1.fit_files;
      is_change = h.1.is_change;
    }),
  )

  -- where the whole workspace names a fault, the file is there, and the name has its form
  pub fault_asked : (r : Refusal) → is_of_fault r ≡ true → PlansRename snapshot path offset name (Err r) → HasFileAt w path × IsNewName name
  fault_asked refusal.Memory is h = absurd (true≢false (sym is))
  fault_asked refusal.BadCommand is h = absurd (true≢false (sym is))
  fault_asked refusal.BadPath is h = absurd (true≢false (sym is))
  fault_asked refusal.NoFile is h = absurd (true≢false (sym is))
  fault_asked refusal.TooLarge is h = absurd (true≢false (sym is))
  fault_asked (refusal.Moved a) is h = absurd (true≢false (sym is))
  fault_asked refusal.NothingToUndo is h = absurd (true≢false (sym is))
  fault_asked refusal.NothingToRedo is h = absurd (true≢false (sym is))
  fault_asked (refusal.Faulty place kind) is h = (h.0, h.1)
  fault_asked refusal.NoIdentifier is h = absurd (true≢false (sym is))
  fault_asked refusal.NotRenamable is h = absurd (true≢false (sym is))
  fault_asked refusal.BadName is h = absurd (true≢false (sym is))
  fault_asked refusal.Same is h = absurd (true≢false (sym is))
  fault_asked (refusal.Captured a b) is h = absurd (true≢false (sym is))
  fault_asked (refusal.Lost a) is h = absurd (true≢false (sym is))
  fault_asked refusal.NoPackage is h = absurd (true≢false (sym is))
  fault_asked refusal.TargetTaken is h = absurd (true≢false (sym is))
  fault_asked refusal.InsideItself is h = absurd (true≢false (sym is))
  fault_asked refusal.JournalFull is h = absurd (true≢false (sym is))
  fault_asked (refusal.Pending a) is h = absurd (true≢false (sym is))
  fault_asked (refusal.Stale a) is h = absurd (true≢false (sym is))
  fault_asked refusal.Already is h = absurd (true≢false (sym is))
  fault_asked refusal.NoJob is h = absurd (true≢false (sym is))
  fault_asked refusal.BodyShort is h = absurd (true≢false (sym is))
  fault_asked (refusal.Coupled place) is h = absurd (true≢false (sym is))
  fault_asked refusal.Disk is h = absurd (true≢false (sym is))
