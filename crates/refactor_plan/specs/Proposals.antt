-- What a rename or a move proposes, and what is answered of its change.
use Rattle.std.specs.Prelude.{◌≡◌, ⊤, Some, Result, Ok, Err}
use Rattle.base_files.specs.Workspace.{Workspace}
use Rattle.base_files.specs.declared.refusal.Refusal.{Refusal}
use Rattle.base_files.specs.declared.refusal.Refusal.TheVariants.{Memory, TooLarge, Captured, Coupled, Lost}
use Rattle.workspace_check.specs.Found.{KnowsVerdicts}
use Rattle.workspace_check.specs.Verdicts.{Verdicts}
use Rattle.refs_binding.specs.Workspaces.{known_in}
use Rattle.base_edits.specs.EditSet.{FileChanges, edited}
use Rattle.base_edits.specs.Revisions.{Revision}
use Rattle.base_edits.specs.RevisionsOfEdits.{revision_of}
use Rattle.workspace_snapshot.specs.Fits.{FitsLimits}
use Rattle.workspace_snapshot.specs.declared.snapshot.Snapshot.{Snapshot}
use Rattle.workspace_snapshot.specs.declared.change.Change.{Change}
use Rattle.workspace_snapshot.specs.declared.change.ChangeKind.{ChangeKind}
use Rattle.workspace_snapshot.specs.declared.change.ChangeKind.TheVariants.{Rename}
use Rattle.refactor_preserve.specs.Preserved.{Preserves}
use Rattle.refactor_conflict.specs.Conflicts.{IsConflict}
use Rattle.refactor_conflict.specs.ConflictRefusal.{refusal_for}
use Rattle.refactor_conflict.specs.Staying.{NoneIsLostBefore}
use Rattle.refactor_conflict.specs.declared.conflict.Conflict.{Conflict}
use Rattle.refactor_coupled.specs.ObstacleRefusal.{refusal_of_obstacle}
use Rattle.refactor_coupled.specs.Obstacles.{IsFirstObstacle, PreservesAll}
use Rattle.refactor_coupled.specs.declared.obstacle.Obstacle.{Obstacle}
use Rattle.refactor_plan.specs.declared.proposal.Proposal.{Proposal}

-- The workspace of the proposal is that of its snapshot, and what is known of the packages is right.
pub record IsProposed (p : Proposal) : Type 0 where
  pub same : p.workspace.now.graph ≡ p.snapshot.now.files
  pub known : KnowsVerdicts p.workspace.now.graph p.known.now

-- The snapshot of a proposal. Its files are those of the proposal's workspace.
abbrev pub proposed_snapshot : Proposal → Snapshot
proposed_snapshot p = record { number = p.snapshot.now.number; limits = p.snapshot.now.limits; files = p.workspace.now.graph }

-- The verdicts on the packages of its workspace.
abbrev pub proposed_verdicts : Proposal → Verdicts
proposed_verdicts p = known_in p.workspace.now.findings

-- The change of a kind that has these edits of the snapshot's files.
abbrev pub proposed_change : Snapshot → ChangeKind → FileChanges → Change
proposed_change snapshot kind s = record { base = snapshot.files; kind = kind; edits = s; files = edited s snapshot.files }

-- The refusal names the first identifier, by path and offset, that the change loses or captures, and what captures it.
pub record NamesFirstConflict (w : Workspace) (known : Verdicts) (r : Revision) (refusal : Refusal) : Type 0 where
  pub conflict : Conflict
  pub is_conflict : IsConflict w known r conflict
  pub first : NoneIsLostBefore w known r conflict.used
  pub tells : refusal ≡ refusal_for conflict.by conflict.used

-- The refusal names what stands first against the change.
pub record NamesFirstObstacle (w : Workspace) (known : Verdicts) (r : Revision) (refusal : Refusal) : Type 0 where
  pub obstacle : Obstacle
  pub first : IsFirstObstacle w known r (Some obstacle)
  pub tells : refusal ≡ refusal_of_obstacle obstacle

-- These edits do not preserve bindings or implementing types, and the refusal names their first obstacle.
abbrev pub IsObstacleRefusal : Workspace → Verdicts → FileChanges → Refusal → Type 0
IsObstacleRefusal w known s refusal = (¬ (PreservesAll w (revision_of w s))) × NamesFirstObstacle w known (revision_of w s) refusal

-- These edits do not preserve bindings, and the refusal names their first conflict.
abbrev pub IsConflictRefusal : Workspace → Verdicts → FileChanges → Refusal → Type 0
IsConflictRefusal w known s refusal = (¬ (Preserves w (revision_of w s))) × NamesFirstConflict w known (revision_of w s) refusal

-- The change of a kind that these edits make of the snapshot, or a refusal where they do not preserve bindings or exceed a limit.
abbrev pub PlansChange : Snapshot → Verdicts → ChangeKind → FileChanges → Result Change Refusal → Type 0
PlansChange snapshot known kind s (Ok change) =
    Preserves snapshot.files (revision_of snapshot.files s) × FitsLimits snapshot.limits (edited s snapshot.files) × (change ≡ proposed_change snapshot kind s)
PlansChange snapshot known kind s (Err (Captured used by)) = IsConflictRefusal snapshot.files known s (Captured used by)
PlansChange snapshot known kind s (Err (Lost used)) = IsConflictRefusal snapshot.files known s (Lost used)
PlansChange snapshot known kind s (Err TooLarge) = Preserves snapshot.files (revision_of snapshot.files s) ×
    ¬ (FitsLimits snapshot.limits (edited s snapshot.files))
PlansChange snapshot known kind s (Err Memory) = ⊤
PlansChange snapshot known kind s (Err refusal) = ⊥

-- The change of a rename that these edits make of the snapshot, or a refusal where something stands against them or they exceed a limit.
abbrev pub PlansRenaming : Snapshot → Verdicts → FileChanges → Result Change Refusal → Type 0
PlansRenaming snapshot known s (Ok change) =
    PreservesAll snapshot.files (revision_of snapshot.files s) × FitsLimits snapshot.limits (edited s snapshot.files) × (change ≡ proposed_change snapshot
    Rename s)
PlansRenaming snapshot known s (Err (Captured used by)) = IsObstacleRefusal snapshot.files known s (Captured used by)
PlansRenaming snapshot known s (Err (Lost used)) = IsObstacleRefusal snapshot.files known s (Lost used)
PlansRenaming snapshot known s (Err (Coupled place)) = IsObstacleRefusal snapshot.files known s (Coupled place)
PlansRenaming snapshot known s (Err TooLarge) = PreservesAll snapshot.files (revision_of snapshot.files s) ×
    ¬ (FitsLimits snapshot.limits (edited s snapshot.files))
PlansRenaming snapshot known s (Err Memory) = ⊤
PlansRenaming snapshot known s (Err refusal) = ⊥
