-- By the lemmas of undo and redo.
use Rattle.law_history.proofs.Reached.{redo_reaches, undo_reaches}
use Rattle.law_history.proofs.nearest.nearest_states_return.Goals as goal

pub returns-clause-undo : goal.returns-clause-undo
returns-clause-undo c = undo_reaches

pub returns-clause-redo : goal.returns-clause-redo
returns-clause-redo c = redo_reaches
