-- The laws of kept changes.
use Rattle.std.specs.Prelude.{◌≡◌, ℕ, List, ◌++◌, length, Some, false}
use Rattle.base_files.specs.declared.limits.Limits.{Limits}
use Rattle.history_machine.specs.Machine.{Machine, content}
use Rattle.history_records.specs.Encoded.{AreBytesOf}
use Rattle.history_records.specs.Records.{FitsRecord, HasNoRecord, IsCutShort, record_bytes}
use Rattle.history_records.specs.declared.change.KeptChange.{KeptChange}
use Rattle.law_changes.specs.Changes.{HasChanges, states_kept}
use Rattle.server_journal.specs.Keeping.{KeepsChanges}
use Rattle.server_journal.specs.Opened.{FailsToOpen, IsBookIn}
use Rattle.server_journal.specs.Recovered.{AreRecordedChanges, IsPossible, StopsAt}
use Rattle.server_journal.specs.declared.opened.JournalFault.TheVariants.{Unfit}

-- No history has the changes of records that lead to one that is not possible.
abbrev pub StoppedHasNoHistory : Type 0
StoppedHasNoHistory = (limits : Limits) (records : List (List ℕ)) → StopsAt limits records
    → (changes : List KeptChange) → AreRecordedChanges records changes → (book : Machine) → HasChanges limits changes book → ⊥

-- No book is recovered from bytes that are unfit.
abbrev pub UnfitHasNoBook : Type 0
UnfitHasNoBook = (limits : Limits) (heading bytes : List ℕ) → FailsToOpen limits heading bytes Unfit
    → (book : Machine) (whole : ℕ) → IsBookIn limits heading bytes book whole → ⊥

-- A store holds the changes of a book's history, and perhaps a part of one more record behind them. Then a book is recovered from its bytes, and
-- each such book has the states of the first one: with the same numbers, in the same order, and the same one is current.
abbrev pub NothingIsLost : Type 0
NothingIsLost = (heading : List ℕ) (limits : Limits) (bytes torn : List ℕ) (book : Machine) → KeepsChanges heading limits (Some bytes) false book
    → HasNoRecord torn → IsCutShort torn
    → IsBookIn limits heading (bytes ++ torn) book (length bytes)
    × ((other : Machine) (whole : ℕ) → IsBookIn limits heading (bytes ++ torn) other whole → states_kept (content other) ≡ states_kept (content book))

-- A store holds the changes of a book's history, and behind them the record of one more, which is possible and was not answered. A part of a
-- record may follow. Then the bytes are not unfit.
abbrev pub UnansweredIsFit : Type 0
UnansweredIsFit = (heading : List ℕ) (limits : Limits) (bytes held torn : List ℕ) (book : Machine) (change : KeptChange)
    → KeepsChanges heading limits (Some bytes) false book → IsPossible change (states_kept (content book)) → AreBytesOf held change → FitsRecord held
    → HasNoRecord torn → IsCutShort torn → FailsToOpen limits heading (bytes ++ (record_bytes held ++ torn)) Unfit → ⊥
