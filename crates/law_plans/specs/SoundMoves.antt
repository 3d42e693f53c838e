-- What an admitted move does to a history whose files may have faults.
use Rattle.std.specs.Prelude.{ℕ, ◌≡◌, ◌↔◌, [], List, Result, Ok}
use Rattle.base_files.specs.declared.refusal.Refusal.{Refusal}
use Rattle.base_files.specs.Workspace.{Workspace}
use Rattle.base_edits.specs.EditSet.{FileChanges, edited}
use Rattle.base_edits.specs.RevisionsOfEdits.{revision_of}
use Rattle.workspace_check.specs.FaultLists.{ListsFaults}
use Rattle.workspace_snapshot.specs.declared.snapshot.Snapshot.{Snapshot}
use Rattle.workspace_snapshot.specs.declared.change.Change.{Change}
use Rattle.history_machine.specs.declared.event.Event.{Event}
use Rattle.history_machine.specs.declared.event.Event.TheVariants.{Commit, Undo}
use Rattle.history_machine.specs.declared.event.Reply.{Reply}
use Rattle.history_machine.specs.declared.event.Reply.TheVariants.{Done}
use Rattle.history_machine.specs.Machine.{Machine}
use Rattle.history_machine.specs.Step.{Step}
use Rattle.history_machine.specs.Run.{Run, AdmitsNoChange, Restores}
use Rattle.refactor_coupled.specs.Obstacles.{PreservesAll}
use Rattle.refactor_plan.specs.MovePlan.{PlansMove, MovesPackage}
use Rattle.refactor_affected.specs.Moves.{IsSoundMove, PlansAffectedMove, part_moved}
use Rattle.refactor_affected.specs.Starts.{IsAffectedByMove}
use Rattle.law_plans.specs.SoundPackages.{AreSoundAfter, PreservesSound, LeavesOthers}

-- The edits move the package, in the packages without faults, and make the files `after` of `w`. No affected package has a fault before them
-- or after them. Packages without faults have none after them, and keep their bindings. Among their types the same ones implement the same
-- interfaces. Packages that the move does not affect keep their closures and their units.
pub record MovesSound (w : Workspace) (from to : List ℕ) (s : FileChanges) (after : Workspace) : Type 0 where
  pub asked : IsSoundMove w from to
  pub moving : MovesPackage (part_moved asked) from to s
  pub files : after ≡ edited s w
  pub preserves : PreservesSound w (revision_of w s)
  pub in_part : PreservesAll (part_moved asked) (revision_of (part_moved asked) s)
  pub affected_after : AreSoundAfter w (revision_of w s) (IsAffectedByMove w from to)
  pub others : LeavesOthers w after (IsAffectedByMove w from to)

-- Where a planned move is committed, so it is with the files of the states before and after it.
abbrev pub MovesKeepSoundBindings : Type 0
MovesKeepSoundBindings = (snapshot : Snapshot) (from to : List ℕ) (change : Change) (old new : Machine) (basis number : ℕ)
    → PlansAffectedMove snapshot from to (Ok change)
    → Step old (Commit basis change) (Done number) new
    → MovesSound old.current.files from to change.edits new.current.files

-- Where a planned move is committed and only quiet events follow, undo restores the state before the move, or changes nothing.
abbrev pub UndoTakesAffectedMovesBack : Type 0
UndoTakesAffectedMovesBack = (snapshot : Snapshot) (from to : List ℕ) (change : Change) (start changed settled end : Machine) (basis number : ℕ)
    (between : List (Event × Reply)) (reply : Reply)
    → PlansAffectedMove snapshot from to (Ok change)
    → Step start (Commit basis change) (Done number) changed
    → Run changed between settled → AdmitsNoChange between
    → Step settled (Undo settled.current.number) reply end
    → Restores start.current settled reply end

-- In a workspace without faults a move is planned as if faults were asked of all packages.
abbrev pub SoundWorkspacesPlanMoves : Type 0
SoundWorkspacesPlanMoves = (snapshot : Snapshot) (from to : List ℕ) (planned : Result Change Refusal)
    → ListsFaults snapshot.files []
    → PlansAffectedMove snapshot from to planned ↔ PlansMove snapshot from to planned
