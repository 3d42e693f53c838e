-- The two parts of a step of a session: a message is read and answered, and then its reply is sent.
use Rattle.std.specs.Prelude.{◌≡◌, ℕ, List, Option, Some, IfSome, MatchResult, Result, Ok, Err, Bool, false, not}
use Rattle.std.specs.Io.KnownBytes.{Keeps}
use Rattle.base_files.specs.declared.limits.Limits.{Limits}
use Rattle.history_machine.specs.declared.event.Event.{Event}
use Rattle.history_machine.specs.declared.event.Reply.{Reply as EventReply}
use Rattle.server_commands.specs.Wait.{WaitLaw}
use Rattle.server_read.specs.Failures.{WritesText}
use Rattle.server_read.specs.Last.{is_last}
use Rattle.server_read.specs.Wire.{Says}
use Rattle.server_read.specs.declared.message.Message.{Message}
use Rattle.server_session.specs.Answers.{AnswersMessage}
use Rattle.server_session.specs.Replies.{reply_text}
use Rattle.server_session.specs.Transcript.{StepEnds}
use Rattle.server_session.specs.declared.exchange.SessionFault.{SessionFault}
use Rattle.server_session.specs.declared.exchange.SessionFault.TheVariants.{Write}
use Rattle.server_session.specs.declared.outgoing.Outgoing.{Outgoing}
use Rattle.server_session.specs.declared.outgoing.Outgoing.TheVariants.{End, Reply}

-- The next message is read and answered, from old to new, and its reply is left to be sent. Nothing is written. Where the input is over, and
-- after a fault, the step ends so. `before` and `after` are what the reader has left, `held` and `holds` what the writer holds.
abbrev pub AnswersNext : {D : Type 0} → (D → Event → EventReply → D → Type 0) → WaitLaw D → Limits → (before after held holds : Option (List ℕ)) → D → D →
    Result Outgoing SessionFault → Type 0
AnswersNext steps waits limits before after held holds old new (Ok End) = StepEnds steps waits limits before after held holds old new (Ok false)
AnswersNext steps waits limits before after held holds old new (Ok (Reply reply last)) = Keeps held holds × IfSome before (λ input.
    (message : Message) × (rest : List ℕ) × Says limits input message rest × AnswersMessage steps waits old message reply new
    × (last ≡ is_last message) × (after ≡ Some rest))
AnswersNext steps waits limits before after held holds old new (Err fault) = StepEnds steps waits limits before after held holds old new (Err fault)

-- The reply is written, and the session goes on unless it is the last one. If the writer fails, a first part of the reply is written. Without a
-- reply nothing is written, and the session ends.
abbrev pub SendsOut : Outgoing → (held holds : Option (List ℕ)) → Result Bool SessionFault → Type 0
SendsOut End held holds result = (result ≡ Ok false) × (holds ≡ held)
SendsOut (Reply reply last) held holds result =
    WritesText held holds (reply_text reply) result × MatchResult result (λ goes_on. goes_on ≡ not last) (λ fault. fault ≡ Write)
