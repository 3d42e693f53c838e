-- The law of a history's moves.
use Rattle.std.specs.Prelude.{◌≡◌, length}
use Rattle.base_files.specs.Workspace.{Workspace}
use Rattle.history_inverses.specs.Inverses.{Inverses}
use Rattle.history_inverses.specs.Moves.{MovesBack, MovesForth}

-- the cursor stands where it stood, between as many inverses
pub record StandsAgain (old new : Inverses) : Type 0 where
  pub behind : length new.behind ≡ length old.behind
  pub ahead : length new.ahead ≡ length old.ahead

-- Undo and then redo give the files back. Each inverse may differ from the one that was there before, and makes the same files.
abbrev pub RedoReturns : Type 0
RedoReturns = (start undone end : Inverses) (before between after : Workspace) → MovesBack start before undone between → MovesForth undone between end after →
    (after ≡ before) × StandsAgain start end
