-- A state that becomes current again has the files that it had, so its identifiers have the bindings that they had.
use Rattle.std.proofs.Common.{◌≡◌, ap, sym, subst}
use Rattle.base_files.specs.Workspace.{Workspace}
use Rattle.history_machine.proofs.RunLaws.{undo_restores, redo_restores}
use Rattle.history_machine.specs.State.{State}
use Rattle.history_machine.specs.declared.event.Reply.TheVariants.{Done}
use Rattle.refs_binding.proofs.Alike.{use_for}
use Rattle.refactor_plan.specs.Restored.{AreBoundAlike, UndoRestoresBindings, RedoRestoresBindings}

bound_alike : (w x : Workspace) → w ≡ x → AreBoundAlike w x
bound_alike w x e =
    subst (AreBoundAlike w) e (λ known other right also d place. (use_for w known other right also d place, use_for w other known also right d place))

files_again : (old new : State) → new ≡ old → AreBoundAlike old.files new.files
files_again old new e = bound_alike old.files new.files (ap (λ (s : State). s.files) (sym e))

pub undo_binds : UndoRestoresBindings
undo_binds = λ start changed settled end basis number undone change between step run quiet back.
    files_again start.current end.current (undo_restores start changed settled end basis number change between (Done undone) step run quiet back).1

pub redo_binds : RedoRestoresBindings
redo_binds = λ start undone settled end basis number redone between step run quiet again.
    files_again start.current end.current (redo_restores start undone settled end basis number between (Done redone) step run quiet again).1
