-- The answers on a proposed rename, as cases of `PlansRenaming`.
use Rattle.std.proofs.Common.{◌≡◌, refl, sym, subst, ◌∙◌}
use Rattle.std.specs.Prelude.{Option, Some, None, Result, Ok, Err, option_map}
use Rattle.base_files.specs.Workspace.{Workspace}
use Rattle.base_files.specs.declared.place.Place.{Place}
use Rattle.base_files.specs.declared.refusal.Refusal.{Refusal}
use Rattle.base_files.specs.declared.refusal.Refusal.TheVariants.{TooLarge}
use Rattle.workspace_check.specs.Verdicts.{Verdicts}
use Rattle.base_edits.specs.EditSet.{FileChanges}
use Rattle.base_edits.specs.Revisions.{Revision}
use Rattle.base_edits.specs.RevisionsOfEdits.{revision_of}
use Rattle.workspace_snapshot.specs.Fits.{FitsLimits}
use Rattle.workspace_snapshot.specs.declared.snapshot.Snapshot.{Snapshot}
use Rattle.workspace_snapshot.specs.declared.change.Change.{Change}
use Rattle.workspace_snapshot.specs.declared.change.ChangeKind.TheVariants.{Rename}
use Rattle.refactor_preserve.specs.Planned.{KeepsLimits}
use Rattle.refactor_conflict.specs.Conflicts.{IsFirstConflict}
use Rattle.refactor_conflict.specs.ConflictRefusal.{refusal_for}
use Rattle.refactor_conflict.specs.Staying.{NoneIsLost}
use Rattle.refactor_conflict.specs.declared.conflict.Capturer.{Capturer}
use Rattle.refactor_conflict.specs.declared.conflict.Capturer.TheVariants.{Universe, At}
use Rattle.refactor_conflict.specs.declared.conflict.Conflict.{Conflict}
use Rattle.refactor_conflict.proofs.ConflictsDiffer.{not_staying}
use Rattle.refactor_coupled.specs.ObstacleRefusal.{refusal_of_obstacle}
use Rattle.refactor_coupled.specs.Obstacles.{HasNoObstacle, IsFirstObstacle, NoneChanges, PreservesAll}
use Rattle.refactor_coupled.specs.declared.obstacle.Obstacle.{Obstacle}
use Rattle.refactor_coupled.specs.declared.obstacle.Obstacle.TheVariants as obstacle
use Rattle.refactor_plan.specs.Proposals.{IsObstacleRefusal, PlansRenaming, proposed_change}

-- A first obstacle stands against the change.
pub stands_against : (w : Workspace) (known : Verdicts) (r : Revision) (o : Obstacle) → IsFirstObstacle w known r (Some o) → HasNoObstacle w known r → ⊥
stands_against w known r (obstacle.Conflict c) first none = not_staying w known r c first.0 (none.0 c.used)
stands_against w known r (obstacle.Coupled place) first none = none.1 place first.1

-- The first conflict is the first obstacle of a change after which none follows.
pub scope_obstacle : (w : Workspace) (known : Verdicts) (r : Revision) → (NoneIsLost w known r → NoneChanges w known r) → (o : Option Conflict) →
    IsFirstConflict w known r o → IsFirstObstacle w known r (option_map obstacle.Conflict o)
scope_obstacle w known r turns_none None h = (h, turns_none h)
scope_obstacle w known r turns_none (Some c) h = h

-- The refusal that names an obstacle, which is the first one.
pub obstacle_named : (w : Workspace) (known : Verdicts) (s : FileChanges) → (PreservesAll w (revision_of w s) → ⊥) → (o : Obstacle) →
    IsFirstObstacle w known (revision_of w s) (Some o) → IsObstacleRefusal w known s (refusal_of_obstacle o)
obstacle_named w known s not o first = (not, record { obstacle = o; first = first; tells = refl })

refused_for : (snapshot : Snapshot) (known : Verdicts) (s : FileChanges) (by : Option Capturer) (used : Place) →
    IsObstacleRefusal snapshot.files known s (refusal_for by used) → PlansRenaming snapshot known s (Err (refusal_for by used))
refused_for snapshot known s None used h = h
refused_for snapshot known s (Some Universe) used h = h
refused_for snapshot known s (Some (At at)) used h = h

pub obstacle_planned : (snapshot : Snapshot) (known : Verdicts) (s : FileChanges) (o : Obstacle) →
    IsObstacleRefusal snapshot.files known s (refusal_of_obstacle o) → PlansRenaming snapshot known s (Err (refusal_of_obstacle o))
obstacle_planned snapshot known s (obstacle.Conflict c) h = refused_for snapshot known s c.by c.used h
obstacle_planned snapshot known s (obstacle.Coupled place) h = h

-- A rename that keeps within the limits, or does not.
module _ (snapshot : Snapshot) (known : Verdicts) (s : FileChanges) (change : Change) (is : change ≡ proposed_change snapshot Rename s)
    (kept : PreservesAll snapshot.files (revision_of snapshot.files s)) where
  kept_too_large : (r : Refusal) → KeepsLimits snapshot.limits change (Err r) → PlansRenaming snapshot known s (Err r)
  kept_too_large TooLarge h = (kept, λ fits. h (subst (λ (c : Change). FitsLimits snapshot.limits c.files) (sym is) fits))
  kept_too_large _ h = absurd h

  pub kept_renamed : (r : Result Change Refusal) → KeepsLimits snapshot.limits change r → PlansRenaming snapshot known s r
  kept_renamed (Ok same) h = (kept, subst (λ (c : Change). FitsLimits snapshot.limits c.files) is h.1, h.0 ∙ is)
  kept_renamed (Err r) h = kept_too_large r h
