-- What a planned and admitted move does to a history.
use Rattle.std.specs.Prelude.{ℕ, ◌≡◌, List, Ok}
use Rattle.base_edits.specs.EditSet.{edited}
use Rattle.workspace_snapshot.specs.declared.snapshot.Snapshot.{Snapshot}
use Rattle.workspace_snapshot.specs.declared.change.Change.{Change}
use Rattle.base_edits.specs.RevisionsOfEdits.{revision_of}
use Rattle.refactor_preserve.specs.Preserved.{Preserves}
use Rattle.refactor_plan.specs.MovePlan.{PlansMove, MovesPackage}
use Rattle.history_machine.specs.declared.event.Event.{Event}
use Rattle.history_machine.specs.declared.event.Event.TheVariants.{Commit, Undo}
use Rattle.history_machine.specs.declared.event.Reply.{Reply}
use Rattle.history_machine.specs.declared.event.Reply.TheVariants.{Done}
use Rattle.history_machine.specs.State.{State}
use Rattle.history_machine.specs.Machine.{Machine}
use Rattle.history_machine.specs.Step.{Step}
use Rattle.history_machine.specs.Run.{Run, AdmitsNoChange, Restores}

-- The state after the change has the files that its edits make of the state before. The edits move the package and preserve bindings.
pub record HasMovedExactly (from to : List ℕ) (change : Change) (before after : State) : Type 0 where
  pub moving : MovesPackage before.files from to change.edits
  pub files : after.files ≡ edited change.edits before.files
  pub preserves : Preserves before.files (revision_of before.files change.edits)

-- Where a planned move is committed, the current state after it has exactly the files of the move, and every binding is preserved.
abbrev pub MovesKeepBindings : Type 0
MovesKeepBindings = (snapshot : Snapshot) (from to : List ℕ) (change : Change) (old new : Machine) (basis number : ℕ)
    → PlansMove snapshot from to (Ok change)
    → Step old (Commit basis change) (Done number) new
    → HasMovedExactly from to change old.current new.current

-- Where a planned move is committed and only quiet events follow, undo restores the state before the move, or changes nothing.
abbrev pub UndoTakesMovesBack : Type 0
UndoTakesMovesBack = (snapshot : Snapshot) (from to : List ℕ) (change : Change) (start changed settled end : Machine) (basis number : ℕ)
    (between : List (Event × Reply)) (reply : Reply)
    → PlansMove snapshot from to (Ok change)
    → Step start (Commit basis change) (Done number) changed
    → Run changed between settled → AdmitsNoChange between
    → Step settled (Undo settled.current.number) reply end
    → Restores start.current settled reply end
