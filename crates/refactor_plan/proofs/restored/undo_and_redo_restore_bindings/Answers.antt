-- The answers to the goals of `restored::undo_and_redo_restore_bindings`.
use Rattle.refactor_plan.proofs.BoundAlike.{undo_binds, redo_binds}
use Rattle.refactor_plan.proofs.restored.undo_and_redo_restore_bindings.Goals as goal

pub returns-clause-undo : goal.returns-clause-undo
returns-clause-undo c = undo_binds

pub returns-clause-redo : goal.returns-clause-redo
returns-clause-redo c = redo_binds
