-- The journal: the entry of each event and its reply, and the line that a log shows of it.
use Rattle.std.specs.Prelude.{◌≡◌, ℕ, ◌-◌, ◌∷◌, ◌++◌, [], ⊤, List, Option, Some, None, if◌then◌else◌, nat_lt, slice_get}
use Rattle.std.specs.Option.{option_map}
use Rattle.base_edits.specs.EditSet.{FileChanges}
use Rattle.base_files.specs.declared.refusal.Refusal.{Refusal}
use Rattle.base_files.specs.declared.refusal.Refusal.TheVariants.{Moved, NothingToUndo, NothingToRedo, Stale, Already, NoJob}
use Rattle.history_machine.specs.declared.entry.Entry.{Entry}
use Rattle.history_machine.specs.declared.entry.EntryKind.{EntryKind}
use Rattle.history_machine.specs.declared.entry.EntryKind.TheVariants as kind
use Rattle.history_machine.specs.declared.entry.ShownEntry.{ShownEntry}
use Rattle.history_machine.specs.declared.entry.ShownEntry.TheVariants.{OfLine, Closed, Unwritten}
use Rattle.history_machine.specs.declared.entry.Reason.{Reason}
use Rattle.history_machine.specs.declared.entry.Reason.TheVariants as reason
use Rattle.history_machine.specs.declared.entry.Told.{Told}
use Rattle.history_machine.specs.declared.entry.Told.TheVariants as told
use Rattle.history_machine.specs.declared.event.Event.{Event}
use Rattle.history_machine.specs.declared.event.Event.TheVariants.{Look, Log, Commit, Undo, Redo, Take, Deliver, GiveBack}
use Rattle.history_machine.specs.declared.event.Reply.{Reply}
use Rattle.history_machine.specs.declared.event.Reply.TheVariants.{Looked, Logged, Done, Taken, Refused, Back}

-- the kind of an event
abbrev pub event_kind : Event → EntryKind
event_kind Look = kind.Look
event_kind (Log number) = kind.Log
event_kind (Commit basis change) = kind.Commit
event_kind (Undo basis) = kind.Undo
event_kind (Redo basis) = kind.Redo
event_kind Take = kind.Take
event_kind (Deliver job built) = kind.Deliver
event_kind (GiveBack job) = kind.GiveBack

-- the basis that the event gives, the number of the event's Job, or else the number of the current state
abbrev pub event_basis : ℕ → Event → ℕ
event_basis current (Commit basis change) = basis
event_basis current (Undo basis) = basis
event_basis current (Redo basis) = basis
event_basis current (Deliver job built) = job.number
event_basis current (GiveBack job) = job.number
event_basis current event = current

-- the number of the entry that a log asks for, or the ticket of the Job that the event hands in; other events have none
abbrev pub event_subject : Event → Option ℕ
event_subject (Log number) = Some number
event_subject (Deliver job built) = Some job.ticket
event_subject (GiveBack job) = Some job.ticket
event_subject event = None

-- the ticket of the Job that the reply hands out, or else this subject
abbrev pub subject_after : Option ℕ → Reply → Option ℕ
subject_after subject (Taken job) = Some job.ticket
subject_after subject reply = subject

-- the edits of an admitted change; any other event and reply have none
abbrev pub edits_of : Event → Reply → Option FileChanges
edits_of (Commit basis change) (Done number) = Some change.edits
edits_of event reply = None

-- the reason that an entry keeps of a refusal; a refusal that leaves no entry has none
abbrev pub reason_of : Refusal → Option Reason
reason_of (Moved current) = Some (reason.Moved current)
reason_of NothingToUndo = Some reason.NothingToUndo
reason_of NothingToRedo = Some reason.NothingToRedo
reason_of (Stale current) = Some (reason.Stale current)
reason_of Already = Some reason.Already
reason_of NoJob = Some reason.NoJob
reason_of refusal = None

-- The outcome that the entry keeps of a reply. A refusal for want of memory, or of room in the journal, has none, since its event has no
-- entry.
abbrev pub told_of : Reply → Option Told
told_of (Looked view) = Some (told.Done view.snapshot.number)
told_of (Logged number line) = Some (told.Done number)
told_of (Done number) = Some (told.Done number)
told_of (Taken job) = Some (told.Done job.number)
told_of (Refused refusal) = option_map (λ why. told.Refused why) (reason_of refusal)
told_of (Back refusal job unit) = option_map (λ why. told.Refused why) (reason_of refusal)

-- the entry of an event, its reply and this outcome, where `current` is the number of the current state before the event
abbrev pub entry_of : ℕ → Event → Reply → Told → Entry
entry_of current event reply out = record {
  line = record { kind = event_kind event; basis = event_basis current event; out = out };
  subject = subject_after (event_subject event) reply;
  edits = edits_of event reply;
}

-- what is shown of an entry: its line; nothing where there is none yet
abbrev pub shown_of : Option Entry → ShownEntry
shown_of None = Unwritten
shown_of (Some entry) = OfLine entry.line

-- What is shown of the entry of this number, where the journals that were closed have `begun` entries. Of one of theirs it is shown where the
-- journal begins.
abbrev pub shown_at : (begun : ℕ) → List Entry → (number : ℕ) → ShownEntry
shown_at begun journal number = if nat_lt number begun then Closed begun else shown_of (slice_get journal (number - begun))

-- where the event is a log, the reply shows the entry that it asks for; the journal is that before the event
abbrev pub ShowsLine : (begun : ℕ) → List Entry → Event → Reply → Type 0
ShowsLine begun journal (Log number) (Logged current shown) = shown ≡ shown_at begun journal number
ShowsLine begun journal event reply = ⊤

-- The new journal is the old one and the entry of the event and its reply. The reply to a log shows an entry of the old journal.
pub record Records (current begun : ℕ) (old : List Entry) (event : Event) (reply : Reply) (new : List Entry) : Type 0 where
  pub out : Told
  pub tells : told_of reply ≡ Some out
  pub shows : ShowsLine begun old event reply
  pub journal : new ≡ old ++ entry_of current event reply out ∷ []
