-- What was planned in the part answers for the workspace.
use Rattle.std.proofs.Common.{◌≡◌, ◌≢◌, ℕ, inl, inr, true, false, List, Option, Some, None, refl, sym, ap, subst, ◌∙◌}
use Rattle.std.specs.Prelude.{Result, Ok, Err, IsSome}
use Rattle.std.specs.Cmp.Lexicographic.{pointwise, bytes_decides}
use Rattle.std.specs.Prelude.{◌==◌}
use Rattle.std.specs.FinMap.{get, entries}
use Rattle.std.proofs.lemmas.Bool.{and_from, and_parts, cases_Bool}
use Rattle.base_files.specs.Path.{folder}
use Rattle.base_files.specs.Packages.{is_go, is_of_package}
use Rattle.base_files.specs.Workspace.{Workspace}
use Rattle.base_files.specs.declared.refusal.Refusal.{Refusal}
use Rattle.base_files.specs.declared.refusal.Refusal.TheVariants as refusal
use Rattle.base_edits.proofs.Entries.{entry_of, value_of}
use Rattle.workspace_graph.proofs.ByPath.{has_file}
use Rattle.workspace_check.specs.Verdicts.{Verdicts, AreVerdicts}
use Rattle.workspace_check.proofs.Members.{passed}
use Rattle.workspace_check.proofs.OneVerdict.{right_below, verdict_by}
use Rattle.workspace_snapshot.specs.declared.snapshot.Snapshot.{Snapshot}
use Rattle.workspace_snapshot.specs.declared.change.Change.{Change}
use Rattle.workspace_snapshot.specs.Fits.{FitsLimits}
use Rattle.workspace_snapshot.specs.declared.change.ChangeKind.TheVariants.{Rename}
use Rattle.base_edits.specs.EditSet.{FileChanges, edited}
use Rattle.base_edits.specs.Fits.{Fits}
use Rattle.base_edits.specs.RevisionsOfEdits.{revision_of}
use Rattle.refactor_coupled.specs.Obstacles.{PreservesAll}
use Rattle.refactor_part.specs.FaultlessPart.{faultless_part, part_of_snapshot, is_of_faulty}
use Rattle.refactor_part.specs.FirstFaults.{HaveNoFault, RefusesFirstOf}
use Rattle.refactor_part.specs.LeftOut.{IsLeftOut}
use Rattle.refactor_part.proofs.PartChanges.{folders_after, rest_after}
use Rattle.refactor_part.proofs.PartClosures.{part_sound}
use Rattle.refactor_part.proofs.PartEdits.{AreApart, limits_of_part, fits_whole, staying_apart}
use Rattle.refactor_part.proofs.PartFiles.{kept}
use Rattle.refactor_part.proofs.Carried.{none_as}
use Rattle.refs_binding.specs.Uses.{HasFileAt}
use Rattle.refactor_rename.specs.NewName.{IsNewName}
use Rattle.refactor_plan.specs.Plan.{PlansRename, RenamesIdentifier, HasConflict, IsRenameTooLarge}
use Rattle.refactor_plan.specs.Proposals.{proposed_change}
use Rattle.refactor_affected.specs.Renames.{IsRenamedBeside, PlansAffectedRename, IsAskedInSound, IsAffectedByRename, MayRename, affected, own, IsOwnPath}
use Rattle.refactor_affected.specs.Steps.{MarksRenamed, fault_or, refusal_after}
use Rattle.refactor_affected.specs.Whole.{IsWholeChange, AdmitsWhole, DiffersByLeftOut}
use Rattle.refactor_affected.proofs.Sound.{no_first_fault}

module _ (snapshot : Snapshot) (known : Verdicts) (right : AreVerdicts snapshot.files known) (path : List ℕ) (offset : ℕ) (name : List ℕ)
    (is_asked : IsAskedInSound snapshot.files path name) where
  abbrev w : Workspace
  w = snapshot.files

  abbrev v : Workspace
  v = faultless_part w known

  -- asked by these verdicts
  abbrev pub asked : IsAskedInSound w path name
  asked = record { file = is_asked.file; form = is_asked.form; sound = none_as w (IsOwnPath path) known right is_asked.sound }

  -- the file is one of the part
  fine : is_of_faulty known path ≡ false
  fine = elim (cases_Bool (is_of_faulty known path)) [
    | inr is ↦ is
    | inl faulty ↦ (
        let parts = and_parts (is_go path) (known (folder path)).faulty faulty in
        let text = value_of (get w path) (some_unless (get w path) is_asked.file.1) in
        let of : is_of_package (folder path) path ≡ true =
        and_from (is_go path) (pointwise ◌==◌ (folder path) (folder path)) parts.0 ((bytes_decides (folder path) (folder path)).1 refl) in
        let has = has_file w (folder path) (path, text.0) (passed (λ d. is_of_package (folder path) d.0) (entries w) (path, text.0) of (entry_of w path
        text.0 text.1)) in
        let f = (verdict_by w (folder path) known (known (folder path)) (right_below w known right (folder path)) (right (folder path) has)).has_faults.0
        parts.1 in
        absurd (asked.sound.none f.0 (record { path = folder path; is_package = has; among = refl; is_fault = f.1 })))
  ]
    where
      some_unless : (o : Option (List ℕ)) → o ≢ None → IsSome o
      some_unless None ne = absurd (ne refl)
      some_unless (Some x) ne = refl

  pub not_missing : get v path ≡ None → ⊥
  not_missing none = is_asked.file.1 (sym (kept w known path fine) ∙ none)

  abbrev Affected : List ℕ → Type 0
  Affected = IsAffectedByRename w v path offset

  -- the first fault of the affected packages
  affected_fault : (fault : Refusal) → MayRename v path offset name → RefusesFirstOf w Affected (Err fault) →
      PlansAffectedRename snapshot path offset name (Err fault)
  affected_fault refusal.Memory may h = tt
  affected_fault refusal.BadCommand may h = absurd h
  affected_fault refusal.BadPath may h = absurd h
  affected_fault refusal.NoFile may h = absurd h
  affected_fault refusal.TooLarge may h = absurd h
  affected_fault (refusal.Moved a) may h = absurd h
  affected_fault refusal.NothingToUndo may h = absurd h
  affected_fault refusal.NothingToRedo may h = absurd h
  affected_fault (refusal.Faulty place kind) may h = affected asked may h
  affected_fault refusal.NoIdentifier may h = absurd h
  affected_fault refusal.NotRenamable may h = absurd h
  affected_fault refusal.BadName may h = absurd h
  affected_fault refusal.Same may h = absurd h
  affected_fault (refusal.Captured a b) may h = absurd h
  affected_fault (refusal.Lost a) may h = absurd h
  affected_fault refusal.NoPackage may h = absurd h
  affected_fault refusal.TargetTaken may h = absurd h
  affected_fault refusal.InsideItself may h = absurd h
  affected_fault refusal.JournalFull may h = absurd h
  affected_fault (refusal.Pending a) may h = absurd h
  affected_fault (refusal.Stale a) may h = absurd h
  affected_fault refusal.Already may h = absurd h
  affected_fault refusal.NoJob may h = absurd h
  affected_fault refusal.BodyShort may h = absurd h
  affected_fault (refusal.Coupled place) may h = absurd h
  affected_fault refusal.Disk may h = absurd h

  -- at the byte there is nothing to rename
  pub none_affected : (Z : Type 0) (r : Refusal) → MarksRenamed {Z = Z} w v path offset (Err r) → PlansAffectedRename snapshot path offset name (Err r)
  none_affected Z refusal.Memory h = tt
  none_affected Z refusal.BadCommand h = absurd h
  none_affected Z refusal.BadPath h = absurd h
  none_affected Z refusal.NoFile h = absurd h
  none_affected Z refusal.TooLarge h = absurd h
  none_affected Z (refusal.Moved a) h = absurd h
  none_affected Z refusal.NothingToUndo h = absurd h
  none_affected Z refusal.NothingToRedo h = absurd h
  none_affected Z (refusal.Faulty place kind) h = absurd h
  none_affected Z refusal.NoIdentifier h = (asked, h)
  none_affected Z refusal.NotRenamable h = (asked, h)
  none_affected Z refusal.BadName h = absurd h
  none_affected Z refusal.Same h = absurd h
  none_affected Z (refusal.Captured a b) h = absurd h
  none_affected Z (refusal.Lost a) h = absurd h
  none_affected Z refusal.NoPackage h = absurd h
  none_affected Z refusal.TargetTaken h = absurd h
  none_affected Z refusal.InsideItself h = absurd h
  none_affected Z refusal.JournalFull h = absurd h
  none_affected Z (refusal.Pending a) h = absurd h
  none_affected Z (refusal.Stale a) h = absurd h
  none_affected Z refusal.Already h = absurd h
  none_affected Z refusal.NoJob h = absurd h
  none_affected Z refusal.BodyShort h = absurd h
  none_affected Z (refusal.Coupled place) h = absurd h
  none_affected Z refusal.Disk h = absurd h

  -- the name may be given where there are edits
  may_by : (s : FileChanges) → RenamesIdentifier v path offset name s → MayRename v path offset name
  may_by s renaming = record { may = renaming.may; other = renaming.other }

  -- a conflict, or the fault that comes before it
  conflict_or : (r : Refusal) (faults : Result (Unit {0}) Refusal) → HasConflict v path offset name r → RefusesFirstOf w Affected faults →
      (HaveNoFault w Affected → PlansAffectedRename snapshot path offset name (Err r)) →
      PlansAffectedRename snapshot path offset name (Err (fault_or r faults))
  conflict_or r (Ok done) h first so = so first
  conflict_or r (Err fault) h first so = affected_fault fault (may_by h.changes h.renaming) first

  -- the edits in the whole
  stay : (s : FileChanges) → RenamesIdentifier v path offset name s → AreApart s w
  stay s renaming = staying_apart s w (λ c has. (renaming.edits.edits.edits.only c has).stays)

  over : (s : FileChanges) → RenamesIdentifier v path offset name s → FitsLimits snapshot.limits (edited s w) → FitsLimits snapshot.limits (edited s v)
  over s renaming = limits_of_part w known s renaming.edits.edits.edits.none_added (stay s renaming) snapshot.limits

  large_or : (faults : Result (Unit {0}) Refusal) → IsRenameTooLarge (part_of_snapshot snapshot known) path offset name → RefusesFirstOf w Affected faults →
      PlansAffectedRename snapshot path offset name (Err (fault_or refusal.TooLarge faults))
  large_or (Ok done) h first = (
    asked,
    record {
      sound = first;
      changes = h.changes;
      renaming = h.renaming;
      preserves = h.preserves;
      too_large = λ fits. h.too_large (over h.changes h.renaming fits);
    },
  )
  large_or (Err fault) h first = affected_fault fault (may_by h.changes h.renaming) first

  pub refused : (r : Refusal) (faults : Result (Unit {0}) Refusal) → PlansRename (part_of_snapshot snapshot known) path offset name (Err r) →
      RefusesFirstOf w Affected faults → PlansAffectedRename snapshot path offset name (Err (refusal_after r faults))
  refused refusal.Memory faults h first = tt
  refused refusal.BadCommand faults h first = absurd h
  refused refusal.BadPath faults h first = absurd (h is_asked.file.0)
  refused refusal.NoFile faults h first = absurd (not_missing h.2)
  refused refusal.TooLarge faults h first = large_or faults h.1 first
  refused (refusal.Moved a) faults h first = absurd h
  refused refusal.NothingToUndo faults h first = absurd h
  refused refusal.NothingToRedo faults h first = absurd h
  refused (refusal.Faulty place kind) faults h first = absurd (no_first_fault v (part_sound w known right) place kind h.2)
  refused refusal.NoIdentifier faults h first = (asked, h.1)
  refused refusal.NotRenamable faults h first = (asked, h.1)
  refused refusal.BadName faults h first = elim h [
    | inl form ↦ absurd (form.1 is_asked.form)
    | inr reserved ↦ inr (asked, reserved.1)
  ]
  refused refusal.Same faults h first = (asked, h.1)
  refused (refusal.Captured a b) faults h first = conflict_or (refusal.Captured a b) faults h.1 first (λ sound. (asked, sound, h.1))
  refused (refusal.Lost a) faults h first = conflict_or (refusal.Lost a) faults h.1 first (λ sound. (asked, sound, h.1))
  refused refusal.NoPackage faults h first = absurd h
  refused refusal.TargetTaken faults h first = absurd h
  refused refusal.InsideItself faults h first = absurd h
  refused refusal.JournalFull faults h first = absurd h
  refused (refusal.Pending a) faults h first = absurd h
  refused (refusal.Stale a) faults h first = absurd h
  refused refusal.Already faults h first = absurd h
  refused refusal.NoJob faults h first = absurd h
  refused refusal.BodyShort faults h first = absurd h
  refused (refusal.Coupled place) faults h first = conflict_or (refusal.Coupled place) faults h.1 first (λ sound. (asked, sound, h.1))
  refused refusal.Disk faults h first = absurd h

  module _ (planned : Change) (h : PlansRename (part_of_snapshot snapshot known) path offset name (Ok planned)) where
    abbrev s : FileChanges
    s = planned.edits

    kind_renames : planned.kind ≡ Rename
    kind_renames = ap (λ (c : Change). c.kind) h.1.is_change

    pub rename_fits : Fits s w
    rename_fits = fits_whole w known s h.1.renaming.edits.edits.edits.none_added (stay s h.1.renaming) h.1.fit_files

    -- the files after them in the part and in the whole
    pub rename_differs : (folders paths : List (List ℕ)) → IsLeftOut w known folders paths → DiffersByLeftOut planned.files (edited s w) folders paths
    rename_differs folders paths left =
        let none = h.1.renaming.edits.edits.edits.none_added in
        let apart = stay s h.1.renaming in
        subst (λ (x : Workspace). DiffersByLeftOut x (edited s w) folders paths) (sym (ap (λ (c : Change). c.files) h.1.is_change)) (record {
          rest = rest_after w known s none apart h.1.fit_files folders paths left;
          packages = folders_after w known s none apart h.1.fit_files folders paths left;
        })

    changed : (change : Change) → HaveNoFault w Affected → change ≡ proposed_change snapshot Rename s → FitsLimits snapshot.limits (edited s w) →
        IsRenamedBeside snapshot v path offset name change
    changed change sound is fits =
        let same : s ≡ change.edits = sym (ap (λ (c : Change). c.edits) is) in
        record {
          sound = sound;
          renaming = subst (RenamesIdentifier v path offset name) same h.1.renaming;
          preserves = subst (λ e. PreservesAll v (revision_of v e)) same h.1.preserves;
          fits = subst (λ e. FitsLimits snapshot.limits (edited e w)) same fits;
          fit_part = subst (λ e. Fits e v) same h.1.fit_files;
          fit_files = subst (λ e. Fits e w) same rename_fits;
          is_change = is ∙ ap (proposed_change snapshot Rename) same;
        }

    admitted_refused : HaveNoFault w Affected → (r : Refusal) → IsWholeChange snapshot Rename s (Err r) → PlansAffectedRename snapshot path offset name (Err r)
    admitted_refused sound refusal.Memory k = tt
    admitted_refused sound refusal.BadCommand k = absurd k
    admitted_refused sound refusal.BadPath k = absurd k
    admitted_refused sound refusal.NoFile k = absurd k
    admitted_refused sound refusal.TooLarge k =
        (asked, record { sound = sound; changes = s; renaming = h.1.renaming; preserves = h.1.preserves; too_large = k })
    admitted_refused sound (refusal.Moved a) k = absurd k
    admitted_refused sound refusal.NothingToUndo k = absurd k
    admitted_refused sound refusal.NothingToRedo k = absurd k
    admitted_refused sound (refusal.Faulty a b) k = absurd k
    admitted_refused sound refusal.NoIdentifier k = absurd k
    admitted_refused sound refusal.NotRenamable k = absurd k
    admitted_refused sound refusal.BadName k = absurd k
    admitted_refused sound refusal.Same k = absurd k
    admitted_refused sound (refusal.Captured a b) k = absurd k
    admitted_refused sound (refusal.Lost a) k = absurd k
    admitted_refused sound refusal.NoPackage k = absurd k
    admitted_refused sound refusal.TargetTaken k = absurd k
    admitted_refused sound refusal.InsideItself k = absurd k
    admitted_refused sound refusal.JournalFull k = absurd k
    admitted_refused sound (refusal.Pending a) k = absurd k
    admitted_refused sound (refusal.Stale a) k = absurd k
    admitted_refused sound refusal.Already k = absurd k
    admitted_refused sound refusal.NoJob k = absurd k
    admitted_refused sound refusal.BodyShort k = absurd k
    admitted_refused sound (refusal.Coupled place) k = absurd k
    admitted_refused sound refusal.Disk k = absurd k

    admitted_by : HaveNoFault w Affected → (r : Result Change Refusal) → IsWholeChange snapshot Rename s r → PlansAffectedRename snapshot path offset name r
    admitted_by sound (Ok change) k = (asked, changed change sound k.0 k.1)
    admitted_by sound (Err r) k = admitted_refused sound r k

    pub admitted : (faults : Result (Unit {0}) Refusal) → RefusesFirstOf w Affected faults → (r : Result Change Refusal) →
        AdmitsWhole snapshot faults planned.kind s r → PlansAffectedRename snapshot path offset name r
    admitted (Ok done) first r k = admitted_by first r (subst (λ kind. IsWholeChange snapshot kind s r) kind_renames k)
    admitted (Err fault) first r k = subst (PlansAffectedRename snapshot path offset name) (sym k) (affected_fault fault (may_by s h.1.renaming) first)

-- the identifier's own package has a fault
module _ (snapshot : Snapshot) (path : List ℕ) (offset : ℕ) (name : List ℕ) (file : HasFileAt snapshot.files path) (form : IsNewName name) where
  pub own_refused : (r : Refusal) → RefusesFirstOf snapshot.files (IsOwnPath path) (Err r) → PlansAffectedRename snapshot path offset name (Err r)
  own_refused refusal.Memory h = tt
  own_refused refusal.BadCommand h = absurd h
  own_refused refusal.BadPath h = absurd h
  own_refused refusal.NoFile h = absurd h
  own_refused refusal.TooLarge h = absurd h
  own_refused (refusal.Moved a) h = absurd h
  own_refused refusal.NothingToUndo h = absurd h
  own_refused refusal.NothingToRedo h = absurd h
  own_refused (refusal.Faulty place kind) h = own file form h
  own_refused refusal.NoIdentifier h = absurd h
  own_refused refusal.NotRenamable h = absurd h
  own_refused refusal.BadName h = absurd h
  own_refused refusal.Same h = absurd h
  own_refused (refusal.Captured a b) h = absurd h
  own_refused (refusal.Lost a) h = absurd h
  own_refused refusal.NoPackage h = absurd h
  own_refused refusal.TargetTaken h = absurd h
  own_refused refusal.InsideItself h = absurd h
  own_refused refusal.JournalFull h = absurd h
  own_refused (refusal.Pending a) h = absurd h
  own_refused (refusal.Stale a) h = absurd h
  own_refused refusal.Already h = absurd h
  own_refused refusal.NoJob h = absurd h
  own_refused refusal.BodyShort h = absurd h
  own_refused (refusal.Coupled place) h = absurd h
  own_refused refusal.Disk h = absurd h
