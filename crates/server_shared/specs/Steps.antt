-- Steps of a shared book under its lock.
use Rattle.std.specs.Prelude.{◌≡◌, ◌⊎◌, ℕ, Bool, IsTrue, length, IsSome, Option, Some, None}
use Rattle.base_files.specs.declared.refusal.Refusal.TheVariants.{Disk}
use Rattle.history_machine.specs.declared.event.Event.{Event}
use Rattle.history_machine.specs.declared.event.Reply.{Reply}
use Rattle.history_machine.specs.JournalSteps.{JournalStep}
use Rattle.history_machine.specs.Chapters.{HasHistory}
use Rattle.history_machine.specs.Machine.{Machine}
use Rattle.history_machine.specs.Step.{refused}
use Rattle.law_changes.specs.Changes.{change_asked}
use Rattle.server_shared.specs.declared.receipt.Receipt.{Receipt}

-- The machine is what some run over borders makes of the opening state. Where no entries were closed, its content is the replay of its
-- journal.
abbrev pub IsReplayed : Machine → Type 0
IsReplayed m = ∥ HasHistory m ∥₁

-- One step of a book, with a receipt of the entry that it adds. The book is what its events made of the opening state. Without a receipt the
-- event is turned away: the journal has no room for its entry, or memory is wanting.
abbrev pub ReceiptStep : Machine → Event → Reply → Option Receipt → Machine → Type 0
ReceiptStep old event reply (Some receipt) new = IsReplayed old × (receipt.index ≡ length old.journal) × JournalStep old event reply (Some receipt.entry) new
ReceiptStep old event reply None new = IsReplayed old × JournalStep old event reply None new

-- The event asks for a change that could not be kept on the disk. It is refused for that.
abbrev pub IsUnkept : Event → Reply → Type 0
IsUnkept event reply = (reply ≡ refused event Disk) × IsSome (change_asked event)

-- One step of a book. Where its changes are kept, the event's change may be one that could not be kept: then nothing changes.
abbrev pub KeptReceiptStep : (is_kept : Bool) → Machine → Event → Reply → Option Receipt → Machine → Type 0
KeptReceiptStep is_kept old event reply kept new =
    ReceiptStep old event reply kept new ⊎ (IsTrue is_kept × IsUnkept event reply × (kept ≡ None) × (new ≡ old))

-- The receipt is that of one step of some book, by this event and with this reply. The book's journal has at most `most` entries.
abbrev pub IsReceiptOf : ℕ → Event → Reply → Receipt → Type 0
IsReceiptOf most event reply receipt = (old : Machine) × (new : Machine) × (old.limits.journal ≡ most) × ReceiptStep old event reply (Some receipt) new

-- Some book turns the event away with this reply. Its journal has at most `most` entries. Or the event's change could not be kept on the disk.
abbrev pub TurnsAway : ℕ → Event → Reply → Type 0
TurnsAway most event reply = IsUnkept event reply ⊎ ((old : Machine) × (new : Machine) × (old.limits.journal ≡ most) × ReceiptStep old event reply None new)

-- the receipt is that of a step by this event; without a receipt the event is turned away
abbrev pub IsReceiptOrNone : ℕ → Event → Reply → Option Receipt → Type 0
IsReceiptOrNone most event reply (Some receipt) = IsReceiptOf most event reply receipt
IsReceiptOrNone most event reply None = TurnsAway most event reply
