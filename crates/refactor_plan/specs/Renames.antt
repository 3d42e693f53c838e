-- What a planned and admitted rename does to a history.
use Rattle.std.specs.Prelude.{ℕ, ◌≡◌, List, Ok}
use Rattle.base_edits.specs.EditSet.{edited}
use Rattle.workspace_snapshot.specs.declared.snapshot.Snapshot.{Snapshot}
use Rattle.workspace_snapshot.specs.declared.change.Change.{Change}
use Rattle.base_edits.specs.RevisionsOfEdits.{revision_of}
use Rattle.refactor_coupled.specs.Obstacles.{PreservesAll}
use Rattle.refactor_plan.specs.Plan.{PlansRename, RenamesIdentifier}
use Rattle.history_machine.specs.declared.event.Event.{Event}
use Rattle.history_machine.specs.declared.event.Event.TheVariants.{Commit, Undo}
use Rattle.history_machine.specs.declared.event.Reply.{Reply}
use Rattle.history_machine.specs.declared.event.Reply.TheVariants.{Done}
use Rattle.history_machine.specs.State.{State}
use Rattle.history_machine.specs.Machine.{Machine}
use Rattle.history_machine.specs.Step.{Step}
use Rattle.history_machine.specs.Run.{Run, AdmitsNoChange, Restores}

-- The state after the change has the files that its edits make of the state before. The edits rename the identifier at the byte and
-- preserve bindings and implementing types.
pub record HasRenamedExactly (path : List ℕ) (offset : ℕ) (name : List ℕ) (change : Change) (before after : State) : Type 0 where
  pub renaming : RenamesIdentifier before.files path offset name change.edits
  pub files : after.files ≡ edited change.edits before.files
  pub preserves : PreservesAll before.files (revision_of before.files change.edits)

-- Where a planned rename is committed, the current state after it has exactly the files of the rename, and every binding is preserved.
abbrev pub RenamesKeepBindings : Type 0
RenamesKeepBindings = (snapshot : Snapshot) (path : List ℕ) (offset : ℕ) (name : List ℕ) (change : Change) (old new : Machine) (basis number : ℕ)
    → PlansRename snapshot path offset name (Ok change)
    → Step old (Commit basis change) (Done number) new
    → HasRenamedExactly path offset name change old.current new.current

-- Where a planned rename is committed and only quiet events follow, undo restores the state before the rename, or changes nothing.
abbrev pub UndoTakesRenamesBack : Type 0
UndoTakesRenamesBack = (snapshot : Snapshot) (path : List ℕ) (offset : ℕ) (name : List ℕ) (change : Change) (start changed settled end : Machine)
    (basis number : ℕ)
    (between : List (Event × Reply)) (reply : Reply)
    → PlansRename snapshot path offset name (Ok change)
    → Step start (Commit basis change) (Done number) changed
    → Run changed between settled → AdmitsNoChange between
    → Step settled (Undo settled.current.number) reply end
    → Restores start.current settled reply end
