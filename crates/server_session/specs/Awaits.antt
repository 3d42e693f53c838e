-- Waiting for the next message, and when replies are sent.
use Rattle.std.specs.Prelude.{◌≡◌, ℕ, List, ⊤, Option, Result, Ok, Err, Bool, true, false}
use Rattle.std.specs.Io.KnownBytes.{Keeps}
use Rattle.base_files.specs.declared.limits.Limits.{Limits}
use Rattle.server_read.specs.declared.input.InputFault.TheVariants as input
use Rattle.server_read.specs.declared.next.Next.{Next}
use Rattle.server_read.specs.NextMessage.{ReadsNext}
use Rattle.server_session.specs.declared.exchange.SessionFault.{SessionFault}
use Rattle.server_session.specs.declared.exchange.SessionFault.TheVariants.{Memory, Read, Write, Turns}

-- The text that was written stays, and the next message is read; if sending fails, nothing is read. `before` and `after` are what the
-- reader has left, `held` and `holds` what the writer holds.
abbrev pub AwaitsNext : Limits → (before after held holds : Option (List ℕ)) → Result Next SessionFault → Type 0
AwaitsNext limits before after held holds (Ok next) = ReadsNext limits before after (Ok next) × Keeps held holds
AwaitsNext limits before after held holds (Err Read) = ReadsNext limits before after (Err input.Read) × Keeps held holds
AwaitsNext limits before after held holds (Err Turns) = ReadsNext limits before after (Err input.Turns) × Keeps held holds
AwaitsNext limits before after held holds (Err Write) = (after ≡ before) × Keeps held holds
AwaitsNext limits before after held holds (Err Memory) = ⊥

-- everything that was written is sent, unless the writer failed or nothing was begun
abbrev pub LeavesSent : {T : Type 0} → Type 0 → Result T SessionFault → Type 0
LeavesSent sent (Ok value) = sent
LeavesSent sent (Err Read) = sent
LeavesSent sent (Err Turns) = sent
LeavesSent sent (Err Write) = ⊤
LeavesSent sent (Err Memory) = ⊤

-- Everything that one step of a session wrote is sent, unless the session goes on, the writer failed or nothing was begun.
abbrev pub StepLeavesSent : Type 0 → Result Bool SessionFault → Type 0
StepLeavesSent sent (Ok true) = ⊤
StepLeavesSent sent (Ok false) = sent
StepLeavesSent sent (Err Read) = sent
StepLeavesSent sent (Err Turns) = sent
StepLeavesSent sent (Err Write) = ⊤
StepLeavesSent sent (Err Memory) = ⊤
