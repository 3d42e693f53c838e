-- What undo and redo reach, and what events that are turned away and deliveries leave as it was.
use Rattle.std.specs.Prelude.{◌≡◌, ℕ, List, [], ◌∷◌, ◌++◌}
use Rattle.std.specs.List.{AllByRecursion}
use Rattle.build_carry.specs.Finished.{GainsUnit}
use Rattle.build_unit.specs.declared.built.Built.{Built}
use Rattle.build_unit.specs.declared.job.JobRecord.{JobRecord}
use Rattle.history_machine.specs.JournalSteps.{IsTurnedAway}
use Rattle.history_machine.specs.Machine.{Machine}
use Rattle.history_machine.specs.Run.{Restores, Run}
use Rattle.history_machine.specs.State.{State}
use Rattle.history_machine.specs.Step.{Step}
use Rattle.history_machine.specs.declared.event.Event.{Event}
use Rattle.history_machine.specs.declared.event.Event.TheVariants.{Deliver, Redo, Undo}
use Rattle.history_machine.specs.declared.event.Reply.{Reply}
use Rattle.history_machine.specs.declared.event.Reply.TheVariants.{Done}

-- The undo of the current number makes the nearest state before it current, with its number, files and units. Or memory or room in the
-- journal is wanting, and nothing changes.
abbrev pub UndoReachesNearest : Type 0
UndoReachesNearest = (old new : Machine) (far : List State) (near : State) (reply : Reply) → old.earlier ≡ far ++ near ∷ [] →
    Step old (Undo old.current.number) reply new → Restores near old reply new

-- So does the redo of the current number with the nearest state after it.
abbrev pub RedoReachesNearest : Type 0
RedoReachesNearest = (old new : Machine) (far : List State) (near : State) (reply : Reply) → old.later ≡ far ++ near ∷ [] →
    Step old (Redo old.current.number) reply new → Restores near old reply new

-- Each event is refused for want of memory or of room in the journal, and its Job comes back.
abbrev pub AreTurnedAway : List (Event × Reply) → Type 0
AreTurnedAway = AllByRecursion (λ e. IsTurnedAway e.0 e.1)

-- After events that are turned away the machine is what it was. So each later reply is one that it might have given before them.
abbrev pub TurnedAwayChangeNothing : Type 0
TurnedAwayChangeNothing = (old settled : Machine) (events : List (Event × Reply)) → Run old events settled → AreTurnedAway events → settled ≡ old

-- A state gains the unit of a package. The states that undo and redo reach keep what they have, and so do its own number and files.
pub record KeepsNeighbours (old : Machine) (job : JobRecord) (built : Built) (new : Machine) : Type 0 where
  pub earlier : new.earlier ≡ old.earlier
  pub later : new.later ≡ old.later
  pub number : new.current.number ≡ old.current.number
  pub files : new.current.files ≡ old.current.files
  pub gains : GainsUnit old.current.files old.current.finished job.package built.unit new.current.finished

-- A delivery that is done changes the finished units of the current state alone.
abbrev pub DeliveriesKeepNeighbours : Type 0
DeliveriesKeepNeighbours = (old new : Machine) (job : JobRecord) (built : Built) (number : ℕ) → Step old (Deliver job built) (Done number) new →
    KeepsNeighbours old job built new
