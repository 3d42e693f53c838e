-- What was planned of a move in the part answers for the workspace.
use Rattle.std.proofs.Common.{◌≡◌, ℕ, inl, inr, true, false, List, refl, sym, ap, subst, ◌∙◌}
use Rattle.std.specs.Prelude.{◌⊎◌, Contains, Result, Ok, Err, is_some}
use Rattle.std.specs.FinMap.{get}
use Rattle.std.proofs.lemmas.Bool.{cases_Bool, true≢false}
use Rattle.base_files.specs.Packages.{package_paths}
use Rattle.base_files.specs.Workspace.{Workspace}
use Rattle.base_files.specs.declared.refusal.Refusal.{Refusal}
use Rattle.base_files.specs.declared.refusal.Refusal.TheVariants as refusal
use Rattle.base_edits.specs.EditSet.{FileChanges, edited}
use Rattle.base_edits.specs.Fits.{Fits}
use Rattle.base_edits.specs.RevisionsOfEdits.{revision_of}
use Rattle.base_edits.specs.declared.change.FileChange.{FileChange}
use Rattle.base_edits.proofs.Entries.{value_of, some_is}
use Rattle.workspace_graph.specs.Packages.{itself}
use Rattle.workspace_check.specs.Verdicts.{Verdicts, AreVerdicts}
use Rattle.workspace_check.proofs.Members.{passes}
use Rattle.workspace_check.proofs.OneVerdict.{right_below, verdict_by}
use Rattle.workspace_snapshot.specs.Fits.{FitsLimits}
use Rattle.workspace_snapshot.specs.declared.change.Change.{Change}
use Rattle.workspace_snapshot.specs.declared.change.ChangeKind.TheVariants.{Move}
use Rattle.workspace_snapshot.specs.declared.snapshot.Snapshot.{Snapshot}
use Rattle.refactor_preserve.specs.Preserved.{Preserves}
use Rattle.refactor_move.specs.Changes.{MovesOrEdits}
use Rattle.refactor_move.specs.MoveEdits.{IsFree}
use Rattle.refactor_part.specs.FaultlessPart.{faultless_part, part_of_snapshot}
use Rattle.refactor_part.specs.FirstFaults.{RefusesFirstOf}
use Rattle.refactor_part.proofs.Carried.{none_as}
use Rattle.refactor_part.specs.LeftOut.{IsLeftOut}
use Rattle.refactor_part.proofs.PartChanges.{folders_after, rest_after}
use Rattle.refactor_part.proofs.PartClosures.{part_sound, whole}
use Rattle.refactor_part.proofs.PartEdits.{AreApart, limits_of_part, fits_whole}
use Rattle.refactor_part.proofs.PartFiles.{into_part, stays_there}
use Rattle.refactor_plan.specs.MovePlan.{PlansMove, IsMovable, IsValidMove, HasFileUnder, MovesPackage, IsTooLarge, IsTooLong, HasMoveConflict}
use Rattle.refactor_plan.specs.MovePlan.{HasNameConflict}
use Rattle.refactor_plan.specs.Proposals.{proposed_change}
use Rattle.refactor_affected.specs.Moves.{PlansAffectedMove, changes_within, IsSoundMove, IsMoveOverLimit, IsMovedBeside, part_moved}
use Rattle.refactor_affected.specs.Starts.{IsAffectedByMove, moves}
use Rattle.refactor_affected.specs.Steps.{is_of_fault}
use Rattle.refactor_affected.specs.Whole.{IsWholeChange, DiffersByLeftOut}
use Rattle.refactor_affected.proofs.MovesApart.{move_edits_apart, moves_apart}
use Rattle.refactor_affected.proofs.WithinPart.{edited_within, fit_within}
use Rattle.refactor_affected.proofs.Sound.{no_first_fault, none_faulty}

module _ (snapshot : Snapshot) (known : Verdicts) (right : AreVerdicts snapshot.files known) (from to : List ℕ) (sound : IsSoundMove snapshot.files from to)
  where
    abbrev w : Workspace
    w = snapshot.files

    abbrev v : Workspace
    v = faultless_part w known

    -- asked by these verdicts
    abbrev pub asked : IsSoundMove w from to
    asked = record { movable = sound.movable; sound = none_as w (IsAffectedByMove w from to) known right sound.sound }

    -- the package that moves is one of the part
    is_package : Contains (package_paths w) from
    is_package = sound.movable.beside.elsewhere.asked.is_package

    fine : (known from).faulty ≡ false
    fine = elim (cases_Bool (known from).faulty) [
      | inr is ↦ is
      | inl faulty ↦ (
          let f = (verdict_by w from known (known from) (right_below w known right from) (right from is_package)).has_faults.0 faulty in
          absurd (asked.sound.none f.0 (record {
            path = from;
            is_package = is_package;
            among = record { start = from; begins = moves (inl refl); in_closure = itself is_package };
            is_fault = f.1;
          })))
    ]

    not_taken : HasFileUnder v to → ⊥
    not_taken h =
        let text = value_of (get v h.path) h.is_file in
        sound.movable.free h.path (some_is (get w h.path) text.0 (stays_there w known h.path text.0 text.1).1) h.under

    apart : (s : FileChanges) → MovesPackage v from to s → AreApart s w
    apart s moving = move_edits_apart w v moving.known from to s moving.edits sound.movable.free

    over : (s : FileChanges) → MovesPackage v from to s → FitsLimits snapshot.limits (edited (changes_within v s) w) → FitsLimits snapshot.limits (edited s v)
    over s moving fits =
        let are = moving.edits in
        let only : (c : FileChange) → Contains (changes_within v s).changed c → MovesOrEdits are.moved c =
        λ c has. are.only c (passes (λ (d : FileChange). is_some (get v d.path)) s.changed c has).1 in
        let apart_within = moves_apart are.moved (changes_within v s) only w (subst (IsFree w) (sym are.is_move.target) sound.movable.free) in
        subst (FitsLimits snapshot.limits) (edited_within v s) (limits_of_part w known (changes_within v s) are.none_added apart_within snapshot.limits fits)

    too_large : IsTooLarge (part_of_snapshot snapshot known) from to → IsMoveOverLimit snapshot v from to
    too_large h = record {
      changes = h.changes;
      moving = h.moving;
      preserves = h.preserves;
      too_large = λ fits. h.too_large (over h.changes h.moving fits);
    }

    pub move_refused : (r : Refusal) → PlansMove (part_of_snapshot snapshot known) from to (Err r) → PlansAffectedMove snapshot from to (Err r)
    move_refused refusal.Memory h = tt
    move_refused refusal.BadCommand h = absurd h
    move_refused refusal.BadPath h = absurd (h (sound.movable.beside.elsewhere.asked.source, sound.movable.beside.elsewhere.asked.target))
    move_refused refusal.NoFile h = absurd h
    move_refused refusal.TooLarge h = (asked, elim h.1 [ inl long ↦ inl long | inr large ↦ inr (too_large large) ])
    move_refused (refusal.Moved a) h = absurd h
    move_refused refusal.NothingToUndo h = absurd h
    move_refused refusal.NothingToRedo h = absurd h
    move_refused (refusal.Faulty place kind) h = absurd (no_first_fault v (part_sound w known right) place kind h.1)
    move_refused refusal.NoIdentifier h = absurd h
    move_refused refusal.NotRenamable h = absurd h
    move_refused refusal.BadName h = absurd h
    move_refused refusal.Same h = absurd (sound.movable.beside.elsewhere.other h.1)
    move_refused (refusal.Captured a b) h = (asked, h.1)
    move_refused (refusal.Lost a) h = (asked, h.1)
    move_refused refusal.NoPackage h = absurd (h.2 (into_part w known from is_package fine))
    move_refused refusal.TargetTaken h = absurd (not_taken h.1)
    move_refused refusal.InsideItself h = absurd (sound.movable.beside.outside h.1)
    move_refused refusal.JournalFull h = absurd h
    move_refused (refusal.Pending a) h = absurd h
    move_refused (refusal.Stale a) h = absurd h
    move_refused refusal.Already h = absurd h
    move_refused refusal.NoJob h = absurd h
    move_refused refusal.BodyShort h = absurd h
    move_refused (refusal.Coupled place) h = absurd h
    move_refused refusal.Disk h = absurd h

    module _ (planned : Change) (h : PlansMove (part_of_snapshot snapshot known) from to (Ok planned)) where
      abbrev s : FileChanges
      s = planned.edits

      pub kind_moves : planned.kind ≡ Move
      kind_moves = ap (λ (c : Change). c.kind) h.1.is_change

      pub move_fits : Fits s w
      move_fits = fits_whole w known s h.1.moving.edits.none_added (apart s h.1.moving) h.1.fit_files

      -- the files after them in the part and in the whole
      pub move_differs : (folders paths : List (List ℕ)) → IsLeftOut w known folders paths → DiffersByLeftOut planned.files (edited s w) folders paths
      move_differs folders paths left =
          let none = h.1.moving.edits.none_added in
          let all_apart = apart s h.1.moving in
          subst (λ (x : Workspace). DiffersByLeftOut x (edited s w) folders paths) (sym (ap (λ (c : Change). c.files) h.1.is_change)) (record {
            rest = rest_after w known s none all_apart h.1.fit_files folders paths left;
            packages = folders_after w known s none all_apart h.1.fit_files folders paths left;
          })

      changed : (change : Change) → change ≡ proposed_change snapshot Move s → FitsLimits snapshot.limits (edited s w) → IsMovedBeside snapshot v from to change
      changed change is fits =
          let same : s ≡ change.edits = sym (ap (λ (c : Change). c.edits) is) in
          record {
            moving = subst (MovesPackage v from to) same h.1.moving;
            preserves = subst (λ e. Preserves v (revision_of v e)) same h.1.preserves;
            fits = subst (λ e. FitsLimits snapshot.limits (edited e w)) same fits;
            fit_part = subst (λ e. Fits e v) same h.1.fit_files;
            fit_files = subst (λ e. Fits e w) same move_fits;
            is_change = is ∙ ap (proposed_change snapshot Move) same;
          }

      large : ¬ (FitsLimits snapshot.limits (edited s w)) → IsMoveOverLimit snapshot v from to
      large not = record {
        changes = s;
        moving = h.1.moving;
        preserves = h.1.preserves;
        too_large = λ fits. not (subst (λ e. FitsLimits snapshot.limits (edited e w)) (fit_within v s h.1.fit_files) fits);
      }

      admitted_refused : (r : Refusal) → IsWholeChange snapshot Move s (Err r) → PlansAffectedMove snapshot from to (Err r)
      admitted_refused refusal.Memory k = tt
      admitted_refused refusal.BadCommand k = absurd k
      admitted_refused refusal.BadPath k = absurd k
      admitted_refused refusal.NoFile k = absurd k
      admitted_refused refusal.TooLarge k = (asked, inr (large k))
      admitted_refused (refusal.Moved a) k = absurd k
      admitted_refused refusal.NothingToUndo k = absurd k
      admitted_refused refusal.NothingToRedo k = absurd k
      admitted_refused (refusal.Faulty a b) k = absurd k
      admitted_refused refusal.NoIdentifier k = absurd k
      admitted_refused refusal.NotRenamable k = absurd k
      admitted_refused refusal.BadName k = absurd k
      admitted_refused refusal.Same k = absurd k
      admitted_refused (refusal.Captured a b) k = absurd k
      admitted_refused (refusal.Lost a) k = absurd k
      admitted_refused refusal.NoPackage k = absurd k
      admitted_refused refusal.TargetTaken k = absurd k
      admitted_refused refusal.InsideItself k = absurd k
      admitted_refused refusal.JournalFull k = absurd k
      admitted_refused (refusal.Pending a) k = absurd k
      admitted_refused (refusal.Stale a) k = absurd k
      admitted_refused refusal.Already k = absurd k
      admitted_refused refusal.NoJob k = absurd k
      admitted_refused refusal.BodyShort k = absurd k
      admitted_refused (refusal.Coupled place) k = absurd k
      admitted_refused refusal.Disk k = absurd k

      admitted_by : (r : Result Change Refusal) → IsWholeChange snapshot Move s r → PlansAffectedMove snapshot from to r
      admitted_by (Ok change) k = (asked, changed change k.0 k.1)
      admitted_by (Err r) k = admitted_refused r k

      pub move_admitted : (r : Result Change Refusal) → IsWholeChange snapshot planned.kind s r → PlansAffectedMove snapshot from to r
      move_admitted r k = admitted_by r (subst (λ kind. IsWholeChange snapshot kind s r) kind_moves k)

-- ---- in a workspace without faults
module _ (snapshot : Snapshot) (from to : List ℕ) where
  abbrev sound_move : IsValidMove snapshot.files from to → IsSoundMove snapshot.files from to
  sound_move valid = record { movable = valid.movable; sound = none_faulty snapshot.files valid.sound (IsAffectedByMove snapshot.files from to) }

  module _ (valid : IsValidMove snapshot.files from to) where
    in_part : (P : Workspace → Type 0) → P snapshot.files → P (part_moved (sound_move valid))
    in_part P = subst P (sym (whole snapshot.files valid.sound.known valid.sound.right valid.sound))

  abbrev Conflicts : Refusal → Workspace → Type 0
  Conflicts r v = HasMoveConflict v from to r ⊎ HasNameConflict v from to r

  pub move_alike_refused : (r : Refusal) → is_of_fault r ≡ false → PlansMove snapshot from to (Err r) → PlansAffectedMove snapshot from to (Err r)
  move_alike_refused refusal.Memory n h = tt
  move_alike_refused refusal.BadCommand n h = absurd h
  move_alike_refused refusal.BadPath n h = h
  move_alike_refused refusal.NoFile n h = absurd h
  move_alike_refused refusal.TooLarge n h = (
    sound_move h.0,
    elim h.1 [
      | inl long ↦ inl (in_part h.0 (λ v. IsTooLong v from to) long)
      | inr large ↦ inr (in_part h.0 (λ v. IsMoveOverLimit snapshot v from to) (record {
        changes = large.changes;
        moving = large.moving;
        preserves = large.preserves;
        too_large = λ fits. large.too_large (subst (FitsLimits snapshot.limits) (edited_within snapshot.files large.changes) fits);
      }))
    ],
  )
  move_alike_refused (refusal.Moved a) n h = absurd h
  move_alike_refused refusal.NothingToUndo n h = absurd h
  move_alike_refused refusal.NothingToRedo n h = absurd h
  move_alike_refused (refusal.Faulty place kind) n h = absurd (true≢false n)
  move_alike_refused refusal.NoIdentifier n h = absurd h
  move_alike_refused refusal.NotRenamable n h = absurd h
  move_alike_refused refusal.BadName n h = absurd h
  move_alike_refused refusal.Same n h = h
  move_alike_refused (refusal.Captured a b) n h = (sound_move h.0, in_part h.0 (Conflicts (refusal.Captured a b)) h.1)
  move_alike_refused (refusal.Lost a) n h = (sound_move h.0, in_part h.0 (Conflicts (refusal.Lost a)) h.1)
  move_alike_refused refusal.NoPackage n h = h
  move_alike_refused refusal.TargetTaken n h = h
  move_alike_refused refusal.InsideItself n h = h
  move_alike_refused refusal.JournalFull n h = absurd h
  move_alike_refused (refusal.Pending a) n h = absurd h
  move_alike_refused (refusal.Stale a) n h = absurd h
  move_alike_refused refusal.Already n h = absurd h
  move_alike_refused refusal.NoJob n h = absurd h
  move_alike_refused refusal.BodyShort n h = absurd h
  move_alike_refused (refusal.Coupled place) n h = absurd h
  move_alike_refused refusal.Disk n h = absurd h

  pub move_alike : (change : Change) → PlansMove snapshot from to (Ok change) → PlansAffectedMove snapshot from to (Ok change)
  move_alike change h = (
    sound_move h.0,
    in_part h.0 (λ v. IsMovedBeside snapshot v from to change) (record {
      moving = h.1.moving;
      preserves = h.1.preserves;
      fits = h.1.fits;
      fit_part = h.1.fit_files;
      fit_files = h.1.fit_files;
      is_change = h.1.is_change;
    }),
  )

  -- where the whole workspace names a fault, the paths allow the move
  pub fault_movable : (r : Refusal) → is_of_fault r ≡ true → PlansMove snapshot from to (Err r) → IsMovable snapshot.files from to
  fault_movable refusal.Memory is h = absurd (true≢false (sym is))
  fault_movable refusal.BadCommand is h = absurd (true≢false (sym is))
  fault_movable refusal.BadPath is h = absurd (true≢false (sym is))
  fault_movable refusal.NoFile is h = absurd (true≢false (sym is))
  fault_movable refusal.TooLarge is h = absurd (true≢false (sym is))
  fault_movable (refusal.Moved a) is h = absurd (true≢false (sym is))
  fault_movable refusal.NothingToUndo is h = absurd (true≢false (sym is))
  fault_movable refusal.NothingToRedo is h = absurd (true≢false (sym is))
  fault_movable (refusal.Faulty place kind) is h = h.0
  fault_movable refusal.NoIdentifier is h = absurd (true≢false (sym is))
  fault_movable refusal.NotRenamable is h = absurd (true≢false (sym is))
  fault_movable refusal.BadName is h = absurd (true≢false (sym is))
  fault_movable refusal.Same is h = absurd (true≢false (sym is))
  fault_movable (refusal.Captured a b) is h = absurd (true≢false (sym is))
  fault_movable (refusal.Lost a) is h = absurd (true≢false (sym is))
  fault_movable refusal.NoPackage is h = absurd (true≢false (sym is))
  fault_movable refusal.TargetTaken is h = absurd (true≢false (sym is))
  fault_movable refusal.InsideItself is h = absurd (true≢false (sym is))
  fault_movable refusal.JournalFull is h = absurd (true≢false (sym is))
  fault_movable (refusal.Pending a) is h = absurd (true≢false (sym is))
  fault_movable (refusal.Stale a) is h = absurd (true≢false (sym is))
  fault_movable refusal.Already is h = absurd (true≢false (sym is))
  fault_movable refusal.NoJob is h = absurd (true≢false (sym is))
  fault_movable refusal.BodyShort is h = absurd (true≢false (sym is))
  fault_movable (refusal.Coupled place) is h = absurd (true≢false (sym is))
  fault_movable refusal.Disk is h = absurd (true≢false (sym is))

-- a package that the move affects has a fault
module _ (snapshot : Snapshot) (from to : List ℕ) (movable : IsMovable snapshot.files from to) where
  pub affected_refused : (r : Refusal) → RefusesFirstOf snapshot.files (IsAffectedByMove snapshot.files from to) (Err r) →
      PlansAffectedMove snapshot from to (Err r)
  affected_refused refusal.Memory h = tt
  affected_refused refusal.BadCommand h = absurd h
  affected_refused refusal.BadPath h = absurd h
  affected_refused refusal.NoFile h = absurd h
  affected_refused refusal.TooLarge h = absurd h
  affected_refused (refusal.Moved a) h = absurd h
  affected_refused refusal.NothingToUndo h = absurd h
  affected_refused refusal.NothingToRedo h = absurd h
  affected_refused (refusal.Faulty place kind) h = (movable, h)
  affected_refused refusal.NoIdentifier h = absurd h
  affected_refused refusal.NotRenamable h = absurd h
  affected_refused refusal.BadName h = absurd h
  affected_refused refusal.Same h = absurd h
  affected_refused (refusal.Captured a b) h = absurd h
  affected_refused (refusal.Lost a) h = absurd h
  affected_refused refusal.NoPackage h = absurd h
  affected_refused refusal.TargetTaken h = absurd h
  affected_refused refusal.InsideItself h = absurd h
  affected_refused refusal.JournalFull h = absurd h
  affected_refused (refusal.Pending a) h = absurd h
  affected_refused (refusal.Stale a) h = absurd h
  affected_refused refusal.Already h = absurd h
  affected_refused refusal.NoJob h = absurd h
  affected_refused refusal.BodyShort h = absurd h
  affected_refused (refusal.Coupled place) h = absurd h
  affected_refused refusal.Disk h = absurd h
