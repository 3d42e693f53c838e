-- Undo and redo restore bindings.
use Rattle.std.specs.Prelude.{ℕ, ◌↔◌, List}
use Rattle.base_files.specs.Workspace.{Workspace}
use Rattle.base_files.specs.declared.place.Place.{Place}
use Rattle.workspace_check.specs.Verdicts.{Verdicts, AreVerdicts}
use Rattle.refs_binding.specs.declared.declaration.Declaration.{Declaration}
use Rattle.refs_binding.specs.Uses.{IsUseOf}
use Rattle.workspace_snapshot.specs.declared.change.Change.{Change}
use Rattle.history_machine.specs.declared.event.Event.{Event}
use Rattle.history_machine.specs.declared.event.Event.TheVariants.{Commit, Undo, Redo}
use Rattle.history_machine.specs.declared.event.Reply.{Reply}
use Rattle.history_machine.specs.declared.event.Reply.TheVariants.{Done}
use Rattle.history_machine.specs.Machine.{Machine}
use Rattle.history_machine.specs.Run.{Run, AdmitsNoChange}
use Rattle.history_machine.specs.Step.{Step}

-- In both workspaces the uses of each declaration are at identical places.
abbrev pub AreBoundAlike : Workspace → Workspace → Type 0
AreBoundAlike w x = (known other : Verdicts) → AreVerdicts w known → AreVerdicts x other
    → (d : Declaration) (place : Place) → IsUseOf w known d place ↔ IsUseOf x other d place

-- Where an admitted change is undone, each identifier is bound to what it was bound to before the change.
abbrev pub UndoRestoresBindings : Type 0
UndoRestoresBindings = (start changed settled end : Machine) (basis number undone : ℕ) (change : Change) (between : List (Event × Reply))
    → Step start (Commit basis change) (Done number) changed
    → Run changed between settled → AdmitsNoChange between
    → Step settled (Undo settled.current.number) (Done undone) end
    → AreBoundAlike start.current.files end.current.files

-- Where an undo is redone, each identifier is bound to what it was bound to before the undo.
abbrev pub RedoRestoresBindings : Type 0
RedoRestoresBindings = (start undone settled end : Machine) (basis number redone : ℕ) (between : List (Event × Reply))
    → Step start (Undo basis) (Done number) undone
    → Run undone between settled → AdmitsNoChange between
    → Step settled (Redo settled.current.number) (Done redone) end
    → AreBoundAlike start.current.files end.current.files
