-- The replies that an event may get.
use Rattle.std.specs.Prelude.{⊤}
use Rattle.history_machine.specs.declared.event.Event.{Event}
use Rattle.history_machine.specs.declared.event.Event.TheVariants.{Look, Log, Commit, Undo, Redo, Take, Deliver, GiveBack}
use Rattle.history_machine.specs.declared.event.Reply.{Reply}
use Rattle.history_machine.specs.declared.event.Reply.TheVariants.{Looked, Logged, Done, Taken, Refused, Back}
use Rattle.history_machine.specs.Step.{HandsOver}

-- The reply is of a form that the event may get. `Looked` answers a look alone, `Logged` a log, `Taken` a Take, and `Done` any other event.
-- `Back` answers only an event that brings a Job, and returns what it brought.
abbrev pub MayReply : Event → Reply → Type 0
MayReply Look (Looked view) = ⊤
MayReply Look (Refused refusal) = ⊤
MayReply (Log asked) (Logged current line) = ⊤
MayReply (Log asked) (Refused refusal) = ⊤
MayReply (Commit basis change) (Done number) = ⊤
MayReply (Commit basis change) (Refused refusal) = ⊤
MayReply (Undo basis) (Done number) = ⊤
MayReply (Undo basis) (Refused refusal) = ⊤
MayReply (Redo basis) (Done number) = ⊤
MayReply (Redo basis) (Refused refusal) = ⊤
MayReply Take (Taken job) = ⊤
MayReply Take (Refused refusal) = ⊤
MayReply (Deliver job built) (Done number) = ⊤
MayReply (Deliver job built) (Refused refusal) = ⊤
MayReply (Deliver job built) (Back refusal back unit) = HandsOver (Deliver job built) back unit
MayReply (GiveBack job) (Done number) = ⊤
MayReply (GiveBack job) (Back refusal back unit) = HandsOver (GiveBack job) back unit
MayReply event reply = ⊥
