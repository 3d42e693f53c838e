-- One step of a session.
use Rattle.std.proofs.Common.{◌≡◌, ℕ, List, [], ◌++◌, Option, None, Some, Ok, Err, Result, Bool, true, false, not, refl, sym, ap, subst, ◌∙◌, inl, inr}
use Rattle.std.specs.Prelude.{MatchResult}
use Rattle.std.specs.Io.KnownBytes.{Appends}
use Rattle.base_files.specs.declared.limits.Limits.{Limits}
use Rattle.history_machine.specs.declared.event.Event.{Event}
use Rattle.history_machine.specs.declared.event.Reply.{Reply as EventReply}
use Rattle.server_commands.specs.Wait.{WaitLaw}
use Rattle.server_commands.specs.declared.response.Response.{Response}
use Rattle.server_read.specs.declared.message.Message.{Message}
use Rattle.server_read.specs.declared.message.Message.TheVariants.{Ask, Unknown, CutShort}
use Rattle.server_commands.specs.declared.response.Response.TheVariants.{Refused}
use Rattle.base_files.specs.declared.refusal.Refusal.TheVariants as refusal
use Rattle.server_read.specs.declared.next.Next.TheVariants as next
use Rattle.server_session.specs.declared.exchange.SessionFault.{SessionFault}
use Rattle.server_session.specs.declared.exchange.SessionFault.TheVariants.{Memory, Read, Write, Turns}
use Rattle.server_session.specs.Answers.{AnswersMessage}
use Rattle.server_session.specs.Replies.{reply_text}
use Rattle.server_read.specs.Last.{is_last}
use Rattle.server_session.specs.Awaits.{AwaitsNext}
use Rattle.server_session.specs.Sending.{AnswersNext, SendsOut}
use Rattle.server_session.specs.declared.outgoing.Outgoing.{Outgoing}
use Rattle.server_session.specs.declared.outgoing.Outgoing.TheVariants.{End, Reply}
use Rattle.server_session.specs.Transcript.{StepEnds}
use Rattle.server_session.proofs.Exchanges.{Exchange-none, Exchange-one, BreaksOff-one}
use Rattle.server_session.proofs.Sent.{kept_nil, kept_then}

-- `a` and `b` are what the reader has left before and after. `x`, `y` and `z` are what the writer holds: before sending, after it, and
-- after the reply.
module _ {D : Type 0} (steps : D → Event → EventReply → D → Type 0) (waits : WaitLaw D) (limits : Limits) where
  -- the next message was not read
  pub step_stopped : (a b x y : Option (List ℕ)) (d : D) (fault : SessionFault) → AwaitsNext limits a b x y (Err fault)
      → StepEnds steps waits limits a b x y d d (Err fault)
  step_stopped a b x y d Memory h = absurd h
  step_stopped None b x y d Read h = tt
  step_stopped None b x y d Turns h = tt
  step_stopped None b x y d Write h = tt
  step_stopped (Some input) b x y d Read h =
      (h.0.0, h.0.1, [], rw (← h.0.2) (Exchange-none steps waits limits input d), h.0.3, kept_nil x y h.1, h.0.4)
  step_stopped (Some input) b x y d Turns h =
      (h.0.0, h.0.1, [], rw (← h.0.2) (Exchange-none steps waits limits input d), h.0.3, kept_nil x y h.1, h.0.4)
  step_stopped (Some input) b x y d Write h = (input, [], inl (Exchange-none steps waits limits input d), h.0, kept_nil x y h.1)

  pub step_ended : (a b x y : Option (List ℕ)) (d : D) → AwaitsNext limits a b x y (Ok next.End)
      → StepEnds steps waits limits a b x y d d (Ok false)
  step_ended None b x y d h = tt
  step_ended (Some input) b x y d h = (input, h.0.0, [], Exchange-none steps waits limits input d, h.0.1, h.0.2, kept_nil x y h.1)

  pub step_answered : (a b x y z : Option (List ℕ)) (old new : D) (message : Message) (reply : Response)
      → AwaitsNext limits a b x y (Ok (next.Message message)) → AnswersMessage steps waits old message reply new → Appends y z (reply_text reply)
      → StepEnds steps waits limits a b x z old new (Ok (not (is_last message)))
  step_answered None b x y z old new (Ask command) reply h k w = tt
  step_answered None b x y z old new Unknown reply h k w = tt
  step_answered None b x y z old new CutShort reply h k w = tt
  step_answered (Some input) b x y z old new (Ask command) reply h k w = (
    h.0.0,
    reply_text reply,
    Exchange-one steps waits limits input h.0.0 old new (Ask command) reply h.0.1 k,
    h.0.2,
    kept_then x y z (reply_text reply) h.1 w,
  )
  step_answered (Some input) b x y z old new Unknown reply h k w =
      (h.0.0, reply_text reply, Exchange-one steps waits limits input h.0.0 old new Unknown reply h.0.1 k, h.0.2, kept_then x y z (reply_text reply) h.1 w)
  step_answered (Some input) b x y z old new CutShort reply h k w = (
    h.0.0,
    h.0.0,
    reply_text reply,
    Exchange-one steps waits limits input h.0.0 old new CutShort reply h.0.1 k,
    inl (h.0.1.1.4, h.0.1.1.4),
    h.0.2,
    kept_then x y z (reply_text reply) h.1 w,
  )

  pub step_cut : (a b x y z : Option (List ℕ)) (old new : D) (message : Message) (reply : Response) (written unwritten : List ℕ)
      → AwaitsNext limits a b x y (Ok (next.Message message)) → AnswersMessage steps waits old message reply new
      → reply_text reply ≡ written ++ unwritten → Appends y z written
      → StepEnds steps waits limits a b x z old new (Err Write)
  step_cut None b x y z old new message reply written unwritten h k e w = tt
  step_cut (Some input) b x y z old new message reply written unwritten h k e w = (
    h.0.0,
    written,
    inr (BreaksOff-one steps waits limits input h.0.0 old new message reply written unwritten h.0.1 k e),
    h.0.2,
    kept_then x y z written h.1 w,
  )

  -- a message is read and answered
  pub next_answered : (a b x y : Option (List ℕ)) (old new : D) (message : Message) (reply : Response)
      → AwaitsNext limits a b x y (Ok (next.Message message)) → AnswersMessage steps waits old message reply new
      → AnswersNext steps waits limits a b x y old new (Ok (Reply reply (is_last message)))
  next_answered None b x y old new message reply h k = (h.1, tt)
  next_answered (Some input) b x y old new message reply h k = (h.1, (message, h.0.0, h.0.1, k, refl, h.0.2))

  -- a command is dropped for want of memory
  pub next_refused : (a b x y : Option (List ℕ)) (d : D) → AwaitsNext limits a b x y (Ok next.NoRoom)
      → AnswersNext steps waits limits a b x y d d (Ok (Reply (Refused refusal.Memory) false))
  next_refused None b x y d h = (h.1, tt)
  next_refused (Some input) b x y d h = (h.1, (Ask h.0.0, h.0.1, h.0.2, inr (refl, refl), refl, h.0.3))

  -- The reply is sent, whole or in part. Of a reader that does not tell its bytes nothing is said.
  unknown_step : (b x z : Option (List ℕ)) (old new : D) (result : Result Bool SessionFault) → (result ≡ Err Memory → ⊥)
      → StepEnds steps waits limits None b x z old new result
  unknown_step b x z old new (Ok true) other = tt
  unknown_step b x z old new (Ok false) other = tt
  unknown_step b x z old new (Err Read) other = tt
  unknown_step b x z old new (Err Turns) other = tt
  unknown_step b x z old new (Err Write) other = tt
  unknown_step b x z old new (Err Memory) other = absurd (other refl)

  never_memory : (result : Result Bool SessionFault) (last : Bool) → MatchResult result (λ goes_on. goes_on ≡ not last) (λ fault. fault ≡ Write)
      → result ≡ Err Memory → ⊥
  never_memory (Ok goes_on) last h e = cc
  never_memory (Err fault) last h e = cc

  answered_step : (input : List ℕ) (b x y z : Option (List ℕ)) (old new : D) (reply : Response) (last : Bool) (result : Result Bool SessionFault)
      → AnswersNext steps waits limits (Some input) b x y old new (Ok (Reply reply last)) → SendsOut (Reply reply last) y z result
      → StepEnds steps waits limits (Some input) b x z old new result
  answered_step input b x y z old new reply last (Ok goes_on) h w =
      let m = h.1 in
      subst (λ (g : Bool). StepEnds steps waits limits (Some input) b x z old new (Ok g)) (sym (w.1 ∙ ap not m.4))
      (step_answered (Some input) b x y z old new m.0 reply ((m.1, m.2, m.5), h.0) m.3 w.0)
  answered_step input b x y z old new reply last (Err fault) h w =
      let m = h.1 in
      subst (λ (f : SessionFault). StepEnds steps waits limits (Some input) b x z old new (Err f)) (sym w.1)
      (step_cut (Some input) b x y z old new m.0 reply w.0.written w.0.unwritten ((m.1, m.2, m.5), h.0) m.3 w.0.whole w.0.appended)

  -- the two parts of a step make the step
  pub step_in_parts : (a b x y z : Option (List ℕ)) (old new : D) (outgoing : Outgoing) (result : Result Bool SessionFault)
      → AnswersNext steps waits limits a b x y old new (Ok outgoing) → SendsOut outgoing y z result
      → StepEnds steps waits limits a b x z old new result
  step_in_parts a b x y z old new End result h w =
      subst (λ (r : Result Bool SessionFault). StepEnds steps waits limits a b x z old new r) (sym w.0)
      (subst (λ (holds : Option (List ℕ)). StepEnds steps waits limits a b x holds old new (Ok false)) (sym w.1) h)
  step_in_parts None b x y z old new (Reply reply last) result h w = unknown_step b x z old new result (never_memory result last w.1)
  step_in_parts (Some input) b x y z old new (Reply reply last) result h w = answered_step input b x y z old new reply last result h w
