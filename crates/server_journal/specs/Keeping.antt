-- Steps of a book whose changes are kept in a store.
use Rattle.std.specs.Prelude.{◌≡◌, ◌⊎◌, ℕ, ⊤, Bool, true, false, List, ◌∷◌, Option, Some, None, IfSome, IsSome}
use Rattle.std.specs.List.{AllByRecursion}
use Rattle.base_files.specs.declared.limits.Limits.{Limits}
use Rattle.base_files.specs.declared.refusal.Refusal.{Refusal}
use Rattle.history_machine.specs.JournalSteps.{JournalStep}
use Rattle.history_machine.specs.Machine.{Machine, content}
use Rattle.history_machine.specs.Step.{Step, refused}
use Rattle.history_machine.specs.declared.entry.Entry.{Entry}
use Rattle.history_machine.specs.declared.entry.Told.TheVariants.{Done as ToldDone}
use Rattle.history_machine.specs.declared.event.Event.{Event}
use Rattle.history_machine.specs.declared.event.Reply.{Reply}
use Rattle.history_records.specs.Encoded.{IsKeptChange, change_bytes}
use Rattle.history_records.specs.Records.{FitsRecord, record_bytes, records_bytes}
use Rattle.history_records.specs.declared.change.KeptChange.{KeptChange}
use Rattle.law_changes.specs.Changes.{HasChanges, change_asked, change_done, states_kept}
use Rattle.server_journal.specs.Recovered.{AreRecordedChanges, IsPossible}
use Rattle.server_journal.specs.Stores.{Grows}

-- the bytes are those of the heading's record, and behind it of one record for each of these changes
abbrev pub AreKeptBytes : (heading bytes : List ℕ) → List KeptChange → Type 0
AreKeptBytes heading bytes changes =
    (records : List (List ℕ)) × AreRecordedChanges records changes × AllByRecursion FitsRecord (heading ∷ records) × (bytes ≡ records_bytes (heading ∷ records))

-- Where it is known what the store holds, it holds exactly the changes of the book's history, in their order. Of a store that was given up this
-- is not said.
abbrev pub KeepsChanges : (heading : List ℕ) → Limits → (holds : Option (List ℕ)) → (is_lost : Bool) → Machine → Type 0
KeepsChanges heading limits holds true book = ⊤
KeepsChanges heading limits holds false book =
    IfSome holds (λ bytes. (changes : List KeptChange) × AreKeptBytes heading bytes changes × ∥ HasChanges limits changes book ∥₁)

-- It holds these changes behind some heading.
abbrev pub KeepsHistory : (holds : Option (List ℕ)) → (is_lost : Bool) → Machine → Type 0
KeepsHistory holds is_lost book = (heading : List ℕ) × (limits : Limits) × KeepsChanges heading limits holds is_lost book

-- the record of the change stands behind what the store held, and it is not given up
pub record Intends (before after : Option (List ℕ)) (was_lost is_lost : Bool) (change : KeptChange) : Type 0 where
  pub grows : Grows before (record_bytes (change_bytes change)) after
  pub was_open : was_lost ≡ false
  pub is_open : is_lost ≡ false
  pub kept : IsKeptChange change
  pub fits : FitsRecord (change_bytes change)

-- the entry's event was done
abbrev pub IsDoneEntry : Option Entry → Type 0
IsDoneEntry None = ⊥
IsDoneEntry (Some entry) = (number : ℕ) × (entry.line.out ≡ ToldDone number)

-- no step by this event is a change that is done
abbrev pub IsNeedless : Machine → Event → Type 0
IsNeedless old event = (reply : Reply) (new : Machine) → Step old event reply new → change_done reply event ≡ None

-- the event asks for this change, which is possible in the machine's states
abbrev pub IsAtHand : Machine → Event → KeptChange → Type 0
IsAtHand old event change = (change_asked event ≡ Some change) × IsPossible change (states_kept (content old))

-- What stands before a step: no record is needed, or that of its change was added. Only a change that is possible has a record: so what the
-- store holds always leads to a book.
abbrev pub IsIntended : Machine → Event → (before after : Option (List ℕ)) → (was_lost is_lost : Bool) → (is_added : Bool) → Type 0
IsIntended old event before after was_lost is_lost true =
    (change : KeptChange) × IsAtHand old event change × Intends before after was_lost is_lost change
IsIntended old event before after was_lost is_lost false = IsNeedless old event × (after ≡ before) × (is_lost ≡ was_lost)

-- One step of a book. Or the event asks for a change that could not be kept: it is refused for that, and nothing changes.
abbrev pub KeptStep : (unkept : Refusal) → Machine → Event → Reply → Option Entry → Machine → Type 0
KeptStep unkept old event reply left new =
    JournalStep old event reply left new
    ⊎ ((reply ≡ refused event unkept) × IsSome (change_asked event) × (left ≡ None) × (new ≡ old))
