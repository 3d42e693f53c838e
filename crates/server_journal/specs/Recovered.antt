-- The book that the changes of records lead to.
use Rattle.std.specs.Prelude.{◌≡◌, ◌≢◌, ℕ, ⊤, List, [], ◌∷◌, ◌++◌, Some}
use Rattle.base_edits.specs.Fits.{Fits}
use Rattle.base_files.specs.declared.limits.Limits.{Limits}
use Rattle.base_files.specs.declared.refusal.Refusal.{Refusal}
use Rattle.base_files.specs.declared.refusal.Refusal.TheVariants as refusal
use Rattle.history_machine.specs.Machine.{Machine, content}
use Rattle.history_machine.specs.Step.{Step}
use Rattle.history_machine.specs.declared.event.Event.{Event}
use Rattle.history_machine.specs.declared.event.Reply.TheVariants.{Done}
use Rattle.history_records.specs.Encoded.{AreBytesOf}
use Rattle.history_records.specs.declared.change.KeptChange.{KeptChange}
use Rattle.history_records.specs.declared.change.KeptChange.TheVariants.{Commit, Undo, Redo}
use Rattle.law_changes.specs.Changes.{HasChanges, KeptStates, change_done, states_kept}
use Rattle.server_journal.specs.declared.repeating.RecoveryFault.{RecoveryFault}
use Rattle.server_journal.specs.declared.repeating.RecoveryFault.TheVariants.{Full, Memory, NoHistory}

-- each record holds the bytes of the change at its place
abbrev pub AreRecordedChanges : List (List ℕ) → List KeptChange → Type 0
AreRecordedChanges [] [] = ⊤
AreRecordedChanges (held ∷ records) (change ∷ changes) = AreBytesOf held change × AreRecordedChanges records changes
AreRecordedChanges [] (change ∷ changes) = ⊥
AreRecordedChanges (held ∷ records) [] = ⊥

-- an event that is this change is done, and leads from the one machine to the other
abbrev pub Repeats : Machine → KeptChange → Machine → Type 0
Repeats old change new = (asked : Event) × (number : ℕ) × (change_done (Done number) asked ≡ Some change) × Step old asked (Done number) new

-- The change may be made in these states. Its basis is the number of the current one. Edits fit the current files; an undo or a redo has a
-- state to which it leads.
abbrev pub IsPossible : KeptChange → KeptStates → Type 0
IsPossible (Commit basis edits) states = (basis ≡ states.current.0) × Fits edits states.current.1
IsPossible (Undo basis) states = (basis ≡ states.current.0) × (states.earlier ≢ [])
IsPossible (Redo basis) states = (basis ≡ states.current.0) × (states.later ≢ [])

-- a refusal that does not depend on how much memory or room is there
abbrev pub IsForGood : Refusal → Type 0
IsForGood refusal.Memory = ⊥
IsForGood refusal.JournalFull = ⊥
IsForGood other = ⊤

-- why the change is not made once more
abbrev pub FailsToRepeat : Machine → KeptChange → RecoveryFault → Type 0
FailsToRepeat book change Memory = ⊤
FailsToRepeat book change Full = ⊤
FailsToRepeat book change NoHistory = IsPossible change (states_kept (content book)) → ⊥

-- why the change of a record is not made once more
abbrev pub FailsAtRecord : Machine → List ℕ → RecoveryFault → Type 0
FailsAtRecord book held Memory = ⊤
FailsAtRecord book held Full = ⊤
FailsAtRecord book held NoHistory = (change : KeptChange) → AreBytesOf held change → IsPossible change (states_kept (content book)) → ⊥

-- The history of the book has exactly the changes of the records. `HasChanges` has all that is known of how it came about.
abbrev pub IsRecovered : Limits → List (List ℕ) → Machine → Type 0
IsRecovered limits records book = (changes : List KeptChange) × AreRecordedChanges records changes × ∥ HasChanges limits changes book ∥₁

-- The records before one of them lead to a book. That one holds the bytes of no change that is possible in the book's states.
abbrev pub StopsAt : Limits → List (List ℕ) → Type 0
StopsAt limits records =
    (front : List (List ℕ)) × (held : List ℕ) × (rest : List (List ℕ)) × (book : Machine) × (records ≡ front ++ held ∷ rest) × IsRecovered limits front book
    × ((change : KeptChange) → AreBytesOf held change → IsPossible change (states_kept (content book)) → ⊥)

-- why no book is recovered: the records lead to one that is not possible, the journal has no room, or memory was wanting
abbrev pub FailsToRecover : Limits → List (List ℕ) → RecoveryFault → Type 0
FailsToRecover limits records Memory = ⊤
FailsToRecover limits records Full = ⊤
FailsToRecover limits records NoHistory = StopsAt limits records
