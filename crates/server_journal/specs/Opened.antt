-- The book that the bytes of a journal lead to.
use Rattle.std.specs.Prelude.{◌≡◌, ◌+◌, ◌⊎◌, ℕ, ⊤, List, [], ◌∷◌, length}
use Rattle.base_files.specs.declared.limits.Limits.{Limits}
use Rattle.history_machine.specs.Machine.{Machine}
use Rattle.history_records.specs.Records.{HasRecords, IsCutShort, IsDamaged}
use Rattle.history_records.specs.declared.reading.RecordsFault.{RecordsFault}
use Rattle.history_records.specs.declared.reading.RecordsFault.TheVariants as records
use Rattle.server_journal.specs.Recovered.{IsRecovered, StopsAt}
use Rattle.server_journal.specs.declared.opened.JournalFault.{JournalFault}
use Rattle.server_journal.specs.declared.opened.JournalFault.TheVariants.{Memory, Full, Unfit}
use Rattle.server_journal.specs.declared.repeating.RecoveryFault.{RecoveryFault}
use Rattle.server_journal.specs.declared.repeating.RecoveryFault.TheVariants as recovery

-- The first record is the heading, and the history of the book has exactly the changes of the others. Without records it has none.
abbrev pub IsRecoveredFrom : Limits → (heading : List ℕ) → List (List ℕ) → Machine → Type 0
IsRecoveredFrom limits heading [] book = IsRecovered limits [] book
IsRecoveredFrom limits heading (first ∷ records) book = (first ≡ heading) × IsRecovered limits records book

-- The book is recovered from the records with which the bytes begin. These have `whole` bytes, and behind them at most a record stands that was
-- cut off.
abbrev pub IsBookIn : Limits → (heading bytes : List ℕ) → Machine → (whole : ℕ) → Type 0
IsBookIn limits heading bytes book whole =
    (records : List (List ℕ)) × (torn : List ℕ) × HasRecords bytes records torn × IsCutShort torn × (whole + length torn ≡ length bytes)
    × IsRecoveredFrom limits heading records book

-- The first of the records is not the heading, or the others lead to one that is not possible.
abbrev pub HasNoBook : Limits → (heading : List ℕ) → List (List ℕ) → Type 0
HasNoBook limits heading [] = ⊥
HasNoBook limits heading (first ∷ records) = (first ≡ heading → ⊥) ⊎ StopsAt limits records

-- why no book is recovered from records: they have none, its journal has no room, or memory was wanting
abbrev pub FailsFrom : Limits → (heading : List ℕ) → List (List ℕ) → JournalFault → Type 0
FailsFrom limits heading records Memory = ⊤
FailsFrom limits heading records Full = ⊤
FailsFrom limits heading records Unfit = HasNoBook limits heading records
FailsFrom limits heading records other = ⊥

-- why the bytes lead to no book: they are damaged or their records have none, its journal has no room, or memory was wanting
abbrev pub FailsToOpen : Limits → (heading bytes : List ℕ) → JournalFault → Type 0
FailsToOpen limits heading bytes Memory = ⊤
FailsToOpen limits heading bytes Full = ⊤
FailsToOpen limits heading bytes Unfit =
    IsDamaged bytes ⊎ ((records : List (List ℕ)) × (torn : List ℕ) × HasRecords bytes records torn × HasNoBook limits heading records)
FailsToOpen limits heading bytes other = ⊥

-- the fault for which a journal is not opened, where its records are not found
abbrev pub of_records : RecordsFault → JournalFault
of_records records.Memory = Memory
of_records records.Damaged = Unfit

-- the fault for which a journal is not opened, where no book is recovered
abbrev pub of_recovery : RecoveryFault → JournalFault
of_recovery recovery.Memory = Memory
of_recovery recovery.Full = Full
of_recovery recovery.NoHistory = Unfit
