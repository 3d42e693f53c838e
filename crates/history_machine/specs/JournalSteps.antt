-- A step of the machine, with the entry that it adds to the journal.
use Rattle.std.specs.Prelude.{◌≡◌, ◌⊎◌, ℕ, [], ◌∷◌, ◌++◌, Option, Some, None}
use Rattle.base_files.specs.declared.refusal.Refusal.TheVariants.{Memory, JournalFull}
use Rattle.history_machine.specs.declared.entry.Entry.{Entry}
use Rattle.history_machine.specs.declared.entry.Told.{Told}
use Rattle.history_machine.specs.declared.event.Event.{Event}
use Rattle.history_machine.specs.declared.event.Reply.{Reply}
use Rattle.history_machine.specs.Journal.{entry_of, told_of}
use Rattle.history_machine.specs.Machine.{Machine}
use Rattle.history_machine.specs.Step.{Step, refused}

-- the entry is that of the event and its reply, where `current` is the number of the current state before the event
abbrev pub IsEntryOf : ℕ → Event → Reply → Entry → Type 0
IsEntryOf current event reply entry = (told : Told) × (told_of reply ≡ Some told) × (entry ≡ entry_of current event reply told)

-- the entry is that of the event and its reply; there is none exactly where the reply leaves none
abbrev pub LeavesEntry : ℕ → Event → Reply → Option Entry → Type 0
LeavesEntry current event reply (Some entry) = IsEntryOf current event reply entry
LeavesEntry current event reply None = told_of reply ≡ None

-- the event is refused for want of memory or of room in the journal, and its Job comes back
abbrev pub IsTurnedAway : Event → Reply → Type 0
IsTurnedAway event reply = (reply ≡ refused event Memory) ⊎ (reply ≡ refused event JournalFull)

-- the journal gains this entry, which is that of the event and its reply; without an entry the event is turned away, and nothing changes
abbrev pub GainsEntry : Machine → Event → Reply → Option Entry → Machine → Type 0
GainsEntry old event reply (Some entry) new = IsEntryOf old.current.number event reply entry × (new.journal ≡ old.journal ++ entry ∷ [])
GainsEntry old event reply None new = IsTurnedAway event reply × (new ≡ old)

-- One step of the machine, with the entry that it adds.
abbrev pub JournalStep : Machine → Event → Reply → Option Entry → Machine → Type 0
JournalStep old event reply kept new = Step old event reply new × GainsEntry old event reply kept new
