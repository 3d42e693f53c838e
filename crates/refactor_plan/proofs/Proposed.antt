-- The answers on a proposed change, as cases of `PlansChange`.
use Rattle.std.proofs.Common.{◌≡◌, refl, sym, subst, ◌∙◌}
use Rattle.std.specs.Prelude.{Option, Some, None, Result, Ok, Err}
use Rattle.base_files.specs.Workspace.{Workspace}
use Rattle.base_files.specs.declared.place.Place.{Place}
use Rattle.base_files.specs.declared.refusal.Refusal.{Refusal}
use Rattle.base_files.specs.declared.refusal.Refusal.TheVariants.{TooLarge}
use Rattle.workspace_check.specs.Verdicts.{Verdicts}
use Rattle.base_edits.specs.EditSet.{FileChanges}
use Rattle.base_edits.specs.RevisionsOfEdits.{revision_of}
use Rattle.workspace_snapshot.specs.Fits.{FitsLimits}
use Rattle.workspace_snapshot.specs.declared.snapshot.Snapshot.{Snapshot}
use Rattle.workspace_snapshot.specs.declared.change.Change.{Change}
use Rattle.workspace_snapshot.specs.declared.change.ChangeKind.{ChangeKind}
use Rattle.refactor_preserve.specs.Planned.{KeepsLimits}
use Rattle.refactor_preserve.specs.Preserved.{Preserves}
use Rattle.refactor_conflict.specs.Conflicts.{IsConflict}
use Rattle.refactor_conflict.specs.ConflictRefusal.{refusal_for}
use Rattle.refactor_conflict.specs.Staying.{NoneIsLostBefore}
use Rattle.refactor_conflict.specs.declared.conflict.Capturer.{Capturer}
use Rattle.refactor_conflict.specs.declared.conflict.Capturer.TheVariants.{Universe, At}
use Rattle.refactor_conflict.specs.declared.conflict.Conflict.{Conflict}
use Rattle.refactor_plan.specs.Proposals.{IsConflictRefusal, PlansChange, proposed_change}

-- The refusal that names a conflict, which is the first one.
pub conflict_named : (w : Workspace) (known : Verdicts) (s : FileChanges) → (Preserves w (revision_of w s) → ⊥) → (c : Conflict) →
    IsConflict w known (revision_of w s) c → NoneIsLostBefore w known (revision_of w s) c.used → IsConflictRefusal w known s (refusal_for c.by c.used)
conflict_named w known s not c is first = (not, record { conflict = c; is_conflict = is; first = first; tells = refl })

pub conflict_planned : (snapshot : Snapshot) (known : Verdicts) (kind : ChangeKind) (s : FileChanges) (by : Option Capturer) (used : Place) →
    IsConflictRefusal snapshot.files known s (refusal_for by used) → PlansChange snapshot known kind s (Err (refusal_for by used))
conflict_planned snapshot known kind s None used h = h
conflict_planned snapshot known kind s (Some Universe) used h = h
conflict_planned snapshot known kind s (Some (At at)) used h = h

-- A change that keeps within the limits, or does not.
module _ (snapshot : Snapshot) (known : Verdicts) (kind : ChangeKind) (s : FileChanges) (change : Change)
    (is : change ≡ proposed_change snapshot kind s) (kept : Preserves snapshot.files (revision_of snapshot.files s)) where
  kept_refused : (r : Refusal) → KeepsLimits snapshot.limits change (Err r) → PlansChange snapshot known kind s (Err r)
  kept_refused TooLarge h = (kept, λ fits. h (subst (λ (c : Change). FitsLimits snapshot.limits c.files) (sym is) fits))
  kept_refused _ h = absurd h

  pub kept_planned : (r : Result Change Refusal) → KeepsLimits snapshot.limits change r → PlansChange snapshot known kind s r
  kept_planned (Ok same) h = (kept, subst (λ (c : Change). FitsLimits snapshot.limits c.files) is h.1, h.0 ∙ is)
  kept_planned (Err r) h = kept_refused r h
