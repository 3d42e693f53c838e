-- Where the workspace has no fault, what is planned beside packages with faults is what is planned there.
use Rattle.std.proofs.Common.{◌≡◌, ◌⊎◌, ℕ, inl, inr, true, List, [], sym, subst}
use Rattle.std.specs.Prelude.{Result, Ok, Err}
use Rattle.std.proofs.lemmas.Bool.{cases_Bool, true≢false}
use Rattle.base_files.specs.Workspace.{Workspace}
use Rattle.base_files.specs.declared.place.Place.{Place}
use Rattle.base_files.specs.declared.fault_kind.FaultKind.{FaultKind}
use Rattle.base_files.specs.declared.refusal.Refusal.{Refusal}
use Rattle.base_files.specs.declared.refusal.Refusal.TheVariants as refusal
use Rattle.base_edits.specs.RevisionsOfEdits.{revision_of}
use Rattle.workspace_check.specs.FaultLists.{ListsFaults}
use Rattle.workspace_check.specs.declared.fault.FileFault.{FileFault}
use Rattle.workspace_check.proofs.OneList.{no_fault}
use Rattle.workspace_snapshot.specs.Fits.{FitsLimits}
use Rattle.workspace_snapshot.specs.declared.snapshot.Snapshot.{Snapshot}
use Rattle.workspace_snapshot.specs.declared.change.Change.{Change}
use Rattle.refs_binding.specs.Uses.{HasNoIdentifier, HasNoDeclaration}
use Rattle.refactor_preserve.specs.Preserved.{Preserves}
use Rattle.refactor_coupled.specs.Obstacles.{PreservesAll}
use Rattle.refactor_part.specs.FirstFaults.{HaveFirstFault}
use Rattle.refactor_part.proofs.Carried.{fault_moved}
use Rattle.refactor_part.proofs.PartClosures.{whole}
use Rattle.refactor_plan.specs.Plan.{PlansRename, IsValidRename, RenamesIdentifier, ResolvesToFixed, ResolvesToReserved, ResolvesToNamesake, HasConflict}
use Rattle.refactor_plan.specs.MovePlan.{PlansMove, IsValidMove, MovesPackage, HasMoveConflict, HasNameConflict, IsTooLong}
use Rattle.refactor_affected.specs.Renames.{PlansAffectedRename, IsAskedInSound, HasAskedFault, own, affected, part_asked}
use Rattle.refactor_affected.specs.Moves.{PlansAffectedMove, IsSoundMove, IsMoveOverLimit, part_moved}
use Rattle.refactor_affected.specs.Steps.{is_of_fault}
use Rattle.refactor_affected.proofs.Sound.{no_first_fault, planned_alike, refused_alike}
use Rattle.refactor_affected.proofs.MovePlanned.{move_alike, move_alike_refused}
use Rattle.refactor_affected.proofs.WithinPart.{edited_within}
use Rattle.law_plans.specs.SoundRenames.{SoundWorkspacesPlanRenames}
use Rattle.law_plans.specs.SoundMoves.{SoundWorkspacesPlanMoves}

-- no packages have a first fault
no_first : (w : Workspace) (sound : ListsFaults w []) (P : List ℕ → Type 0) (place : Place) (kind : FaultKind) → HaveFirstFault w P place kind → ⊥
no_first w sound P place kind h =
    let f : FileFault = record { place = place; kind = kind } in
    let here = fault_moved w P h.known sound.known h.right sound.right f h.is_fault in
    no_fault w sound here.path here.is_package f here.is_fault

module _ (snapshot : Snapshot) (path : List ℕ) (offset : ℕ) (name : List ℕ) (sound : ListsFaults snapshot.files []) where
  abbrev w : Workspace
  w = snapshot.files

  valid : IsAskedInSound w path name → IsValidRename w path name
  valid asked = record { file = asked.file; form = asked.form; sound = sound }

  -- what holds of the part holds of the workspace
  of_part : (asked : IsAskedInSound w path name) (P : Workspace → Type 0) → P (part_asked asked) → P w
  of_part asked P = subst P (whole w asked.sound.known asked.sound.right sound)

  no_asked_fault : (place : Place) (kind : FaultKind) → HasAskedFault w path offset name place kind → ⊥
  no_asked_fault place kind (own file form h) = no_first w sound _ place kind h
  no_asked_fault place kind (affected asked may h) = no_first w sound _ place kind h

  refused_there : (r : Refusal) → PlansAffectedRename snapshot path offset name (Err r) → PlansRename snapshot path offset name (Err r)
  refused_there refusal.Memory h = tt
  refused_there refusal.BadCommand h = absurd h
  refused_there refusal.BadPath h = h
  refused_there refusal.NoFile h = h
  refused_there refusal.TooLarge h = (
    valid h.0,
    record {
      changes = h.1.changes;
      renaming = of_part h.0 (λ v. RenamesIdentifier v path offset name h.1.changes) h.1.renaming;
      preserves = of_part h.0 (λ v. PreservesAll v (revision_of v h.1.changes)) h.1.preserves;
      too_large = h.1.too_large;
    },
  )
  refused_there (refusal.Moved a) h = absurd h
  refused_there refusal.NothingToUndo h = absurd h
  refused_there refusal.NothingToRedo h = absurd h
  refused_there (refusal.Faulty place kind) h = absurd (no_asked_fault place kind h)
  refused_there refusal.NoIdentifier h = (valid h.0, of_part h.0 (λ v. HasNoIdentifier v path offset) h.1)
  refused_there refusal.NotRenamable h = (valid h.0, of_part h.0 (λ v. HasNoDeclaration v path offset ⊎ ResolvesToFixed v path offset) h.1)
  refused_there refusal.BadName h = elim h [
    | inl form ↦ inl form
    | inr x ↦ inr (valid x.0, of_part x.0 (λ v. ResolvesToReserved v path offset name) x.1)
  ]
  refused_there refusal.Same h = (valid h.0, of_part h.0 (λ v. ResolvesToNamesake v path offset name) h.1)
  refused_there (refusal.Captured a b) h = (valid h.0, of_part h.0 (λ v. HasConflict v path offset name (refusal.Captured a b)) h.2)
  refused_there (refusal.Lost a) h = (valid h.0, of_part h.0 (λ v. HasConflict v path offset name (refusal.Lost a)) h.2)
  refused_there refusal.NoPackage h = absurd h
  refused_there refusal.TargetTaken h = absurd h
  refused_there refusal.InsideItself h = absurd h
  refused_there refusal.JournalFull h = absurd h
  refused_there (refusal.Pending a) h = absurd h
  refused_there (refusal.Stale a) h = absurd h
  refused_there refusal.Already h = absurd h
  refused_there refusal.NoJob h = absurd h
  refused_there refusal.BodyShort h = absurd h
  refused_there (refusal.Coupled place) h = (valid h.0, of_part h.0 (λ v. HasConflict v path offset name (refusal.Coupled place)) h.2)
  refused_there refusal.Disk h = absurd h

  planned_there : (planned : Result Change Refusal) → PlansAffectedRename snapshot path offset name planned → PlansRename snapshot path offset name planned
  planned_there (Ok change) h = (
    valid h.0,
    record {
      renaming = of_part h.0 (λ v. RenamesIdentifier v path offset name change.edits) h.1.renaming;
      preserves = of_part h.0 (λ v. PreservesAll v (revision_of v change.edits)) h.1.preserves;
      fits = h.1.fits;
      fit_files = h.1.fit_files;
      is_change = h.1.is_change;
    },
  )
  planned_there (Err r) h = refused_there r h

  none_named : (r : Refusal) → is_of_fault r ≡ true → PlansRename snapshot path offset name (Err r) → ⊥
  none_named refusal.Memory is h = true≢false (sym is)
  none_named refusal.BadCommand is h = true≢false (sym is)
  none_named refusal.BadPath is h = true≢false (sym is)
  none_named refusal.NoFile is h = true≢false (sym is)
  none_named refusal.TooLarge is h = true≢false (sym is)
  none_named (refusal.Moved a) is h = true≢false (sym is)
  none_named refusal.NothingToUndo is h = true≢false (sym is)
  none_named refusal.NothingToRedo is h = true≢false (sym is)
  none_named (refusal.Faulty place kind) is h = no_first_fault w sound place kind h.2
  none_named refusal.NoIdentifier is h = true≢false (sym is)
  none_named refusal.NotRenamable is h = true≢false (sym is)
  none_named refusal.BadName is h = true≢false (sym is)
  none_named refusal.Same is h = true≢false (sym is)
  none_named (refusal.Captured a b) is h = true≢false (sym is)
  none_named (refusal.Lost a) is h = true≢false (sym is)
  none_named refusal.NoPackage is h = true≢false (sym is)
  none_named refusal.TargetTaken is h = true≢false (sym is)
  none_named refusal.InsideItself is h = true≢false (sym is)
  none_named refusal.JournalFull is h = true≢false (sym is)
  none_named (refusal.Pending a) is h = true≢false (sym is)
  none_named (refusal.Stale a) is h = true≢false (sym is)
  none_named refusal.Already is h = true≢false (sym is)
  none_named refusal.NoJob is h = true≢false (sym is)
  none_named refusal.BodyShort is h = true≢false (sym is)
  none_named (refusal.Coupled place) is h = true≢false (sym is)
  none_named refusal.Disk is h = true≢false (sym is)

  planned_here : (planned : Result Change Refusal) → PlansRename snapshot path offset name planned → PlansAffectedRename snapshot path offset name planned
  planned_here (Ok change) h = planned_alike snapshot path offset name change h
  planned_here (Err r) h = elim (cases_Bool (is_of_fault r)) [
    | inl is ↦ absurd (none_named r is h)
    | inr not ↦ refused_alike snapshot path offset name r not h
  ]

pub sound_renames : SoundWorkspacesPlanRenames
sound_renames snapshot path offset name planned sound =
    (planned_there snapshot path offset name sound planned, planned_here snapshot path offset name sound planned)

-- ---- moves
module _ (snapshot : Snapshot) (from to : List ℕ) (sound : ListsFaults snapshot.files []) where
  valid_move : IsSoundMove snapshot.files from to → IsValidMove snapshot.files from to
  valid_move asked = record { movable = asked.movable; sound = sound }

  of_moved : (asked : IsSoundMove snapshot.files from to) (P : Workspace → Type 0) → P (part_moved asked) → P snapshot.files
  of_moved asked P = subst P (whole snapshot.files asked.sound.known asked.sound.right sound)

  abbrev Conflicts : Refusal → Workspace → Type 0
  Conflicts r v = HasMoveConflict v from to r ⊎ HasNameConflict v from to r

  move_refused_there : (r : Refusal) → PlansAffectedMove snapshot from to (Err r) → PlansMove snapshot from to (Err r)
  move_refused_there refusal.Memory h = tt
  move_refused_there refusal.BadCommand h = absurd h
  move_refused_there refusal.BadPath h = h
  move_refused_there refusal.NoFile h = absurd h
  move_refused_there refusal.TooLarge h = (
    valid_move h.0,
    elim (of_moved h.0 (λ v. IsTooLong v from to ⊎ IsMoveOverLimit snapshot v from to) h.1) [
      | inl long ↦ inl long
      | inr large ↦ inr (record {
        changes = large.changes;
        moving = large.moving;
        preserves = large.preserves;
        too_large = λ fits. large.too_large (subst (FitsLimits snapshot.limits) (sym (edited_within snapshot.files large.changes)) fits);
      })
    ],
  )
  move_refused_there (refusal.Moved a) h = absurd h
  move_refused_there refusal.NothingToUndo h = absurd h
  move_refused_there refusal.NothingToRedo h = absurd h
  move_refused_there (refusal.Faulty place kind) h = absurd (no_first snapshot.files sound _ place kind h.1)
  move_refused_there refusal.NoIdentifier h = absurd h
  move_refused_there refusal.NotRenamable h = absurd h
  move_refused_there refusal.BadName h = absurd h
  move_refused_there refusal.Same h = h
  move_refused_there (refusal.Captured a b) h = (valid_move h.0, of_moved h.0 (Conflicts (refusal.Captured a b)) h.1)
  move_refused_there (refusal.Lost a) h = (valid_move h.0, of_moved h.0 (Conflicts (refusal.Lost a)) h.1)
  move_refused_there refusal.NoPackage h = h
  move_refused_there refusal.TargetTaken h = h
  move_refused_there refusal.InsideItself h = h
  move_refused_there refusal.JournalFull h = absurd h
  move_refused_there (refusal.Pending a) h = absurd h
  move_refused_there (refusal.Stale a) h = absurd h
  move_refused_there refusal.Already h = absurd h
  move_refused_there refusal.NoJob h = absurd h
  move_refused_there refusal.BodyShort h = absurd h
  move_refused_there (refusal.Coupled place) h = absurd h
  move_refused_there refusal.Disk h = absurd h

  move_there : (planned : Result Change Refusal) → PlansAffectedMove snapshot from to planned → PlansMove snapshot from to planned
  move_there (Ok change) h = (
    valid_move h.0,
    record {
      moving = of_moved h.0 (λ v. MovesPackage v from to change.edits) h.1.moving;
      preserves = of_moved h.0 (λ v. Preserves v (revision_of v change.edits)) h.1.preserves;
      fits = h.1.fits;
      fit_files = h.1.fit_files;
      is_change = h.1.is_change;
    },
  )
  move_there (Err r) h = move_refused_there r h

  none_named_move : (r : Refusal) → is_of_fault r ≡ true → PlansMove snapshot from to (Err r) → ⊥
  none_named_move refusal.Memory is h = true≢false (sym is)
  none_named_move refusal.BadCommand is h = true≢false (sym is)
  none_named_move refusal.BadPath is h = true≢false (sym is)
  none_named_move refusal.NoFile is h = true≢false (sym is)
  none_named_move refusal.TooLarge is h = true≢false (sym is)
  none_named_move (refusal.Moved a) is h = true≢false (sym is)
  none_named_move refusal.NothingToUndo is h = true≢false (sym is)
  none_named_move refusal.NothingToRedo is h = true≢false (sym is)
  none_named_move (refusal.Faulty place kind) is h = no_first_fault snapshot.files sound place kind h.1
  none_named_move refusal.NoIdentifier is h = true≢false (sym is)
  none_named_move refusal.NotRenamable is h = true≢false (sym is)
  none_named_move refusal.BadName is h = true≢false (sym is)
  none_named_move refusal.Same is h = true≢false (sym is)
  none_named_move (refusal.Captured a b) is h = true≢false (sym is)
  none_named_move (refusal.Lost a) is h = true≢false (sym is)
  none_named_move refusal.NoPackage is h = true≢false (sym is)
  none_named_move refusal.TargetTaken is h = true≢false (sym is)
  none_named_move refusal.InsideItself is h = true≢false (sym is)
  none_named_move refusal.JournalFull is h = true≢false (sym is)
  none_named_move (refusal.Pending a) is h = true≢false (sym is)
  none_named_move (refusal.Stale a) is h = true≢false (sym is)
  none_named_move refusal.Already is h = true≢false (sym is)
  none_named_move refusal.NoJob is h = true≢false (sym is)
  none_named_move refusal.BodyShort is h = true≢false (sym is)
  none_named_move (refusal.Coupled place) is h = true≢false (sym is)
  none_named_move refusal.Disk is h = true≢false (sym is)

  move_here : (planned : Result Change Refusal) → PlansMove snapshot from to planned → PlansAffectedMove snapshot from to planned
  move_here (Ok change) h = move_alike snapshot from to change h
  move_here (Err r) h = elim (cases_Bool (is_of_fault r)) [
    | inl is ↦ absurd (none_named_move r is h)
    | inr not ↦ move_alike_refused snapshot from to r not h
  ]

pub sound_moves : SoundWorkspacesPlanMoves
sound_moves snapshot from to planned sound = (move_there snapshot from to sound planned, move_here snapshot from to sound planned)
