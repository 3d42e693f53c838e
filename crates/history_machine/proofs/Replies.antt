-- The replies that the machine gives.
use Rattle.std.proofs.Common.{refl}
use Rattle.base_files.specs.declared.refusal.Refusal.{Refusal}
use Rattle.base_files.specs.declared.refusal.Refusal.TheVariants.{Memory, JournalFull, NoJob}
use Rattle.history_machine.specs.declared.event.Event.{Event}
use Rattle.history_machine.specs.declared.event.Event.TheVariants.{Look, Log, Commit, Undo, Redo, Take, Deliver, GiveBack}
use Rattle.history_machine.specs.declared.event.Reply.{Reply}
use Rattle.history_machine.specs.declared.event.Reply.TheVariants.{Looked, Logged, Done, Taken, Refused, Back}
use Rattle.history_machine.specs.Machine.{Machine}
use Rattle.history_machine.specs.Step.{Step, refused}
use Rattle.history_machine.specs.MayReply.{MayReply}

pub may_reply : (old : Machine) (event : Event) (reply : Reply) (new : Machine) → Step old event reply new → MayReply event reply
may_reply old Look (Looked view) new s = tt
may_reply old Look (Refused refusal) new s = tt
may_reply old (Log asked) (Logged current line) new s = tt
may_reply old (Log asked) (Refused refusal) new s = tt
may_reply old (Commit basis change) (Done number) new s = tt
may_reply old (Commit basis change) (Refused refusal) new s = tt
may_reply old (Undo basis) (Done number) new s = tt
may_reply old (Undo basis) (Refused refusal) new s = tt
may_reply old (Redo basis) (Done number) new s = tt
may_reply old (Redo basis) (Refused refusal) new s = tt
may_reply old Take (Taken job) new s = tt
may_reply old Take (Refused refusal) new s = tt
may_reply old (Deliver job built) (Done number) new s = tt
may_reply old (Deliver job built) (Refused refusal) new s = tt
may_reply old (Deliver job built) (Back Memory back unit) new s = s.0
may_reply old (Deliver job built) (Back JournalFull back unit) new s = s.0
may_reply old (Deliver job built) (Back NoJob back unit) new s = s.1.1
may_reply old (GiveBack job) (Done number) new s = tt
may_reply old (GiveBack job) (Back Memory back unit) new s = s.0
may_reply old (GiveBack job) (Back JournalFull back unit) new s = s.0
may_reply old (GiveBack job) (Back NoJob back unit) new s = s.1.1
may_reply old (GiveBack job) (Refused Memory) new s = absurd (s.0 tt)
may_reply old (GiveBack job) (Refused JournalFull) new s = absurd (s.0 tt)
may_reply old event (Back Memory back unit) new s = absurd s.0
may_reply old event (Back JournalFull back unit) new s = absurd s.0
may_reply old event reply new s = absurd s.1

-- an event may be refused, and get back its Job and what was built
pub refused_may : (event : Event) (refusal : Refusal) → MayReply event (refused event refusal)
refused_may Look refusal = tt
refused_may (Log asked) refusal = tt
refused_may (Commit basis change) refusal = tt
refused_may (Undo basis) refusal = tt
refused_may (Redo basis) refusal = tt
refused_may Take refusal = tt
refused_may (Deliver job built) refusal = (refl, refl)
refused_may (GiveBack job) refusal = (refl, refl)
