-- What is planned beside packages with faults is planned in the part without them. So the laws on workspaces without faults tell of it.
use Rattle.std.specs.Prelude.{ℕ, List, Contains, Ok}
use Rattle.base_files.specs.Packages.{package_paths}
use Rattle.base_files.specs.Workspace.{Workspace}
use Rattle.base_edits.specs.EditSet.{FileChanges, edited}
use Rattle.workspace_check.specs.Closures.{HasSameClosure}
use Rattle.workspace_check.specs.Verdicts.{Verdicts}
use Rattle.workspace_snapshot.specs.declared.change.Change.{Change}
use Rattle.workspace_snapshot.specs.declared.change.ChangeKind.{ChangeKind}
use Rattle.workspace_snapshot.specs.declared.change.ChangeKind.TheVariants.{Move, Rename}
use Rattle.workspace_snapshot.specs.declared.snapshot.Snapshot.{Snapshot}
use Rattle.refactor_part.specs.FaultlessPart.{faultless_part, part_of_snapshot}
use Rattle.refactor_plan.specs.MovePlan.{PlansMove}
use Rattle.refactor_plan.specs.Plan.{PlansRename}
use Rattle.refactor_plan.specs.Proposals.{proposed_change}
use Rattle.refactor_affected.specs.Moves.{PlansAffectedMove}
use Rattle.refactor_affected.specs.Renames.{PlansAffectedRename}

-- Each package of `v` has the same closure in `w`, with the same texts. So it has the same unit there, and its identifiers the same bindings.
abbrev pub SharesClosures : (v w : Workspace) → Type 0
SharesClosures v w = (p : List ℕ) → Contains (package_paths v) p → HasSameClosure v w p

-- The change of the part that has this kind and these edits.
abbrev pub change_of_part : Snapshot → Verdicts → ChangeKind → FileChanges → Change
change_of_part snapshot known kind s = proposed_change (part_of_snapshot snapshot known) kind s

-- The packages of the part have in the whole workspace the closures that they have in the part, before the edits and after them.
pub record IsPartThroughout (w : Workspace) (known : Verdicts) (s : FileChanges) : Type 0 where
  pub before : SharesClosures (faultless_part w known) w
  pub after : SharesClosures (edited s (faultless_part w known)) (edited s w)

-- Where a rename is planned beside packages with faults, it is planned in the part, with the same edits.
abbrev pub RenamesArePlannedInPart : Type 0
RenamesArePlannedInPart = (snapshot : Snapshot) (path : List ℕ) (offset : ℕ) (name : List ℕ) (change : Change) →
    (planned : PlansAffectedRename snapshot path offset name (Ok change)) →
    PlansRename (part_of_snapshot snapshot planned.0.sound.known) path offset name
    (Ok (change_of_part snapshot planned.0.sound.known Rename change.edits)) ×
    IsPartThroughout snapshot.files planned.0.sound.known change.edits

-- Where a move is planned beside packages with faults, it is planned in the part, with the same edits.
abbrev pub MovesArePlannedInPart : Type 0
MovesArePlannedInPart = (snapshot : Snapshot) (from to : List ℕ) (change : Change) → (planned : PlansAffectedMove snapshot from to (Ok change)) →
    PlansMove (part_of_snapshot snapshot planned.0.sound.known) from to (Ok (change_of_part snapshot planned.0.sound.known Move change.edits)) ×
    IsPartThroughout snapshot.files planned.0.sound.known change.edits
