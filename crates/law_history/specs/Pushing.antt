-- What a push makes of a history of inverses, and what undo and redo make of it then.
use Rattle.std.specs.Prelude.{◌≡◌, ◌-◌, [], ◌∷◌, ◌++◌}
use Rattle.base_files.specs.Workspace.{Workspace}
use Rattle.base_edits.specs.EditSet.{FileChanges}
use Rattle.base_edits.specs.Inverse.{IsInverse}
use Rattle.history_inverses.specs.Inverses.{Inverses, StandsAt, latest}
use Rattle.history_inverses.specs.Laws.{StandsAgain}
use Rattle.history_inverses.specs.Moves.{MovesBack, MovesForth}

-- The history after a push of this inverse, as `History::push` leaves it.
abbrev pub pushed : Inverses → FileChanges → Inverses
pushed old way = record { behind = latest old.depth (old.behind ++ way ∷ []); ahead = []; depth = old.depth; spare = old.spare - 1 }

-- A change makes the files `after`, and its inverse is pushed. Then the inverses of the history lead from these files.
abbrev pub PushesStand : Type 0
PushesStand = (old : Inverses) (way : FileChanges) (before after : Workspace) → StandsAt old before → IsInverse way after before →
    StandsAt (pushed old way) after

-- Undo after such a push gives the files before the change.
abbrev pub PushesAreUndone : Type 0
PushesAreUndone = (old undone : Inverses) (way : FileChanges) (before after end : Workspace) → IsInverse way after before →
    MovesBack (pushed old way) after undone end → end ≡ before

-- Redo and then undo give the files back. Each inverse may differ from the one that was there before, and makes the same files.
abbrev pub UndoReturns : Type 0
UndoReturns = (start redone end : Inverses) (before between after : Workspace) → MovesForth start before redone between → MovesBack redone between end after →
    (after ≡ before) × StandsAgain start end
