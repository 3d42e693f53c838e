-- By the lemmas of undo and redo.
use Rattle.law_chapters.proofs.Leading.{redo_restores_over_borders, undo_restores_over_borders}
use Rattle.law_chapters.proofs.borders.undo_and_redo_lead_over_borders.Goals as goal

pub returns-clause-undo : goal.returns-clause-undo
returns-clause-undo c = undo_restores_over_borders

pub returns-clause-redo : goal.returns-clause-redo
returns-clause-redo c = redo_restores_over_borders
