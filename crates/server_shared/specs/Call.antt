-- Calls at a seat, and the receipts that they leave.
use Rattle.std.specs.Prelude.{◌≡◌, ◌<◌, ℕ, List, [], ◌∷◌, ◌++◌, ◌⊎◌, All, length, Option, Some, None, Result, Ok, Err}
use Rattle.base_files.specs.declared.refusal.Refusal.{Refusal}
use Rattle.base_files.specs.declared.refusal.Refusal.TheVariants.{Memory, JournalFull}
use Rattle.base_files.specs.Packages.{package_paths}
use Rattle.history_machine.specs.declared.event.Event.{Event}
use Rattle.history_machine.specs.declared.event.Event.TheVariants.{Look, Take}
use Rattle.history_machine.specs.declared.event.Reply.{Reply}
use Rattle.history_machine.specs.declared.event.Reply.TheVariants.{Looked}
use Rattle.history_machine.specs.declared.view.View.{View}
use Rattle.history_machine.specs.Machine.{Machine}
use Rattle.history_machine.specs.Step.{HasRoom, refused}
use Rattle.history_book.specs.WorkLeft.{IsFinishedAt}
use Rattle.server_shared.specs.declared.receipt.Receipt.{Receipt}
use Rattle.server_shared.specs.Held.{MayLackRoom, jobs_in_hand}
use Rattle.server_shared.specs.Steps.{IsReceiptOf, IsReplayed, TurnsAway}

-- The event is turned away at a seat with these receipts: memory is wanting, and the seat has no room for one more. It never lacks room
-- where a Job in hand is given back. Or a book turns the event away: memory
-- is wanting, or its journal, of at most `most` entries, has no room.
abbrev pub IsTurnedAwayAt : ℕ → List Receipt → Event → Reply → Type 0
IsTurnedAwayAt most old event reply = ((reply ≡ refused event Memory) × MayLackRoom event (jobs_in_hand old)) ⊎ TurnsAway most event reply

-- The event is one step of a book, at this index of the journal, and the seat gains its receipt. Without an index the event is turned
-- away, and the seat gains none. The journal has at most `most` entries.
abbrev pub Calls : ℕ → List Receipt → Event → Reply → Option ℕ → List Receipt → Type 0
Calls most old event reply (Some index) new =
    (receipt : Receipt) × (receipt.index ≡ index) × IsReceiptOf most event reply receipt × (new ≡ old ++ receipt ∷ [])
Calls most old event reply None new = IsTurnedAwayAt most old event reply × (new ≡ old)

-- the event is called at the seat, and gets this reply
abbrev pub CallsWith : ℕ → List Receipt → Event → Reply → List Receipt → Type 0
CallsWith most old event reply new = (index : Option ℕ) × Calls most old event reply index new

-- Some book, whose journal has at most `most` entries, has no room for the event's entry. It is what its events made of the opening state.
abbrev pub MayFill : ℕ → Event → Type 0
MayFill most event = (book : Machine) × (book.limits.journal ≡ most) × IsReplayed book × ¬ (HasRoom book event)

-- The refusal of a wait is for want of memory. Or the journal of a book, of at most `most` entries, has no room for a Take, so that no
-- package can be built.
abbrev pub IsWaitLack : ℕ → Refusal → Type 0
IsWaitLack most refusal = (refusal ≡ Memory) ⊎ ((refusal ≡ JournalFull) × MayFill most Take)

-- each package of the view's files is finished
abbrev pub IsBuilt : View → Type 0
IsBuilt view = (number : ℕ) → number < length (package_paths view.snapshot.files) → IsFinishedAt view.finished number

-- What a wait shows, with the receipt of its look: a view in which each package is finished, as some book showed it. A wait that is refused
-- makes no look.
abbrev pub LooksBuilt : ℕ → Result View Refusal → Option Receipt → Type 0
LooksBuilt most (Ok view) (Some receipt) = IsReceiptOf most Look (Looked view) receipt × IsBuilt view
LooksBuilt most (Err refusal) None = IsWaitLack most refusal
LooksBuilt most shown kept = ⊥

-- The seat gains the receipt of one look, which shows a view in which each package is finished. Or the wait is refused, and the seat gains
-- none.
abbrev pub LooksOnceBuilt : ℕ → List Receipt → Result View Refusal → List Receipt → Type 0
LooksOnceBuilt most old (Ok view) new = ((index : ℕ) × Calls most old Look (Looked view) (Some index) new) × IsBuilt view
LooksOnceBuilt most old (Err refusal) new = IsWaitLack most refusal × (new ≡ old)

-- The seat gains receipts, each with the property P.
abbrev pub Gains : (Receipt → Type 0) → List Receipt → List Receipt → Type 0
Gains P old new = (gained : List Receipt) × (new ≡ old ++ gained) × All P gained
