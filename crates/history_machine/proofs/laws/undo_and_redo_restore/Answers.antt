-- The answers to the goals of `laws::undo_and_redo_restore`.
use Rattle.history_machine.proofs.RunLaws.{undo_restores, redo_restores, moves_cursor}
use Rattle.history_machine.proofs.laws.undo_and_redo_restore.Goals as goal

pub returns-clause-undo : goal.returns-clause-undo
returns-clause-undo c = undo_restores

pub returns-clause-redo : goal.returns-clause-redo
returns-clause-redo c = redo_restores

pub returns-clause-cursor : goal.returns-clause-cursor
returns-clause-cursor c = moves_cursor
