-- Which entries' events wake workers, and when a worker takes a Job.
use Rattle.std.specs.Prelude.{◌≡◌, ℕ, ◌+◌, ◌%◌, ◌^◌, ⊤, Bool, false, length, Some}
use Rattle.base_files.specs.Packages.{package_paths}
use Rattle.history_book.specs.WorkLeft.{HasJob}
use Rattle.history_machine.specs.JournalSteps.{JournalStep}
use Rattle.history_machine.specs.Machine.{Machine}
use Rattle.history_machine.specs.State.{State}
use Rattle.history_machine.specs.declared.entry.Entry.{Entry}
use Rattle.history_machine.specs.declared.entry.EntryKind.{EntryKind}
use Rattle.history_machine.specs.declared.entry.EntryKind.TheVariants.{Commit, Undo, Redo, Deliver, GiveBack, Look, Log, Take}
use Rattle.history_machine.specs.declared.entry.Line.{Line}
use Rattle.history_machine.specs.declared.entry.Told.{Told}
use Rattle.history_machine.specs.declared.entry.Told.TheVariants.{Done, Refused}
use Rattle.history_machine.specs.declared.event.Event.{Event}
use Rattle.history_machine.specs.declared.event.Reply.{Reply}

-- the event was answered `Done`
abbrev pub WasDone : Told → Type 0
WasDone (Done number) = ⊤
WasDone (Refused reason) = ⊥

-- The event of an entry with this kind and outcome may make a package wait. A change, an undo, a redo or a Job that is given back was done.
-- Or a delivery was refused, whose Job is out no more.
abbrev pub MayWake : EntryKind → Told → Type 0
MayWake Commit (Done number) = ⊤
MayWake Undo (Done number) = ⊤
MayWake Redo (Done number) = ⊤
MayWake GiveBack (Done number) = ⊤
MayWake Deliver (Refused reason) = ⊤
MayWake other out = ⊥

-- an event of this kind changes the workspace, or delivers a Job
abbrev pub BringsNews : EntryKind → Type 0
BringsNews Look = ⊥
BringsNews Log = ⊥
BringsNews Take = ⊥
BringsNews GiveBack = ⊥
BringsNews other = ⊤

-- the event of an entry with this line was answered `Done`, and changed the workspace or delivered a Job
abbrev pub IsNews : Line → Type 0
IsNews line = BringsNews line.kind × WasDone line.out

-- the count after an entry with this line: it grows by one, within 64 bits, if the event is news; else it stays
abbrev pub CountsNews : Line → (old new : ℕ) → Type 0
CountsNews line old new = (IsNews line → new ≡ (old + 1) % 2 ^ 64) × (¬ (IsNews line) → new ≡ old)

-- a worker takes a Job of the book: the workers were not stopped, and a Take has one
abbrev pub HasWork : (is_stopped : Bool) → Machine → Type 0
HasWork is_stopped book = (is_stopped ≡ false) × HasJob book

-- the table of the state's finished packages has a place for each package, as that of each state of a book
abbrev pub HasTable : State → Type 0
HasTable state = length state.finished ≡ length (package_paths state.files)

-- Where a step makes a Take have a Job, the line of its entry may wake a worker. So none sleeps beside a package that waits for want of a
-- call.
abbrev pub NoWakeMissed : Type 0
NoWakeMissed = (old new : Machine) (event : Event) (reply : Reply) (entry : Entry)
    → HasTable old.current
    → JournalStep old event reply (Some entry) new
    → ¬ (HasJob old) → HasJob new
    → MayWake entry.line.kind entry.line.out
