-- The events that questions are, and the replies that their answers are.
use Rattle.std.specs.Prelude.{ℕ, Option, Some, None, Result, Ok, Err}
use Rattle.base_files.specs.declared.refusal.Refusal.{Refusal}
use Rattle.base_edits.specs.EditSet.{FileChanges}
use Rattle.history_book.specs.declared.changing.Changing.{Changing}
use Rattle.history_book.specs.declared.changing.Changing.TheVariants as changing
use Rattle.history_machine.specs.declared.entry.ShownEntry.{ShownEntry}
use Rattle.history_machine.specs.declared.event.Event.{Event}
use Rattle.history_machine.specs.declared.event.Event.TheVariants.{Commit, Undo, Redo, Deliver, GiveBack}
use Rattle.history_machine.specs.declared.event.Reply.{Reply}
use Rattle.history_machine.specs.declared.event.Reply.TheVariants.{Logged, Refused}
use Rattle.history_book.specs.declared.handing.HandingIn.{HandingIn}
use Rattle.history_book.specs.declared.handing.HandingIn.TheVariants as handing

-- the event that a commit, an undo or a redo is
abbrev pub changing_event : Changing → Event
changing_event (changing.Commit basis change) = Commit basis change
changing_event (changing.Undo basis) = Undo basis
changing_event (changing.Redo basis) = Redo basis

-- the event that hands a Job in
abbrev pub handing_event : HandingIn → Event
handing_event (handing.Deliver job built) = Deliver job built
handing_event (handing.GiveBack job) = GiveBack job

-- the reply that the answer to a log is
abbrev pub logged : Result (ℕ × ShownEntry) Refusal → Reply
logged (Ok shown) = Logged shown.0 shown.1
logged (Err refusal) = Refused refusal

-- the edits of an admitted change; none where it is refused
abbrev pub edits_made : Result (ℕ × FileChanges) Refusal → Option FileChanges
edits_made (Ok made) = Some made.1
edits_made (Err refusal) = None
