-- The transcript of a session: the messages that it reads, its replies, and their text.
use Rattle.std.specs.Prelude.{◌≡◌, ◌≢◌, ◌⊎◌, ℕ, List, [], ◌∷◌, ◌++◌, Option, Some, IfSome, Result, Ok, Err, Bool, true, false}
use Rattle.std.specs.List.{flat_map}
use Rattle.std.specs.Io.KnownBytes.{Appends, Keeps}
use Rattle.base_files.specs.declared.limits.Limits.{Limits}
use Rattle.history_machine.specs.declared.event.Event.{Event}
use Rattle.history_machine.specs.declared.event.Reply.{Reply}
use Rattle.server_commands.specs.Wait.{WaitLaw}
use Rattle.server_commands.specs.declared.response.Response.{Response}
use Rattle.server_read.specs.declared.message.Message.{Message}
use Rattle.server_session.specs.declared.exchange.SessionFault.{SessionFault}
use Rattle.server_session.specs.declared.exchange.SessionFault.TheVariants.{Memory, Read, Write, Turns}
use Rattle.server_read.specs.Wire.{Reads, Ends, StaysWithin}
use Rattle.server_session.specs.Replies.{reply_text}
use Rattle.server_session.specs.Answers.{AnswersAll}

-- The input up to `rest` is read as messages, which the desk answers in order, from old to new. `text` is the text of the replies.
pub record Exchange {D : Type 0} (steps : D → Event → Reply → D → Type 0) (waits : WaitLaw D) (limits : Limits) (input rest : List ℕ) (old new : D)
    (text : List ℕ) : Type 0 where
  pub messages : List Message
  pub replies : List Response
  pub read : Reads limits input messages rest
  pub run : AnswersAll steps waits old messages replies new
  pub written : text ≡ flat_map reply_text replies

-- The input up to `rest` is read as messages, which the desk answers in order, from old to new. `text` is the text of all replies but the
-- last, and a first part of the last.
pub record BreaksOff {D : Type 0} (steps : D → Event → Reply → D → Type 0) (waits : WaitLaw D) (limits : Limits) (input rest : List ℕ) (old new : D)
    (text : List ℕ) : Type 0 where
  pub messages : List Message
  pub earlier : List Response
  pub last : Response
  pub read : Reads limits input messages rest
  pub run : AnswersAll steps waits old messages (earlier ++ last ∷ []) new
  pub written : List ℕ
  pub unwritten : List ℕ
  pub cut : reply_text last ≡ written ++ unwritten
  pub joined : text ≡ flat_map reply_text earlier ++ written

-- The exchange ends because the writer failed. All replies are written but can't be sent, or the last reply is written in part.
abbrev pub CutsOff : {D : Type 0} → (D → Event → Reply → D → Type 0) → WaitLaw D → Limits → (input rest : List ℕ) → D → D → List ℕ → Type 0
CutsOff steps waits limits input rest old new text = Exchange steps waits limits input rest old new text ⊎ BreaksOff steps waits limits input rest old new text

-- The end of a session, over an input that is known. `before` and `after` are what the reader has left, `held` and `holds` what the writer
-- holds.
abbrev pub SessionEnds : {D : Type 0} → (D → Event → Reply → D → Type 0) → WaitLaw D → Limits → (before after held holds : Option (List ℕ)) → D → D →
    Result (Unit {0}) SessionFault → Type 0
-- all messages are answered, and nothing is read beyond the end of the session
SessionEnds steps waits limits before after held holds old new (Ok done) = IfSome before (λ input.
    (mid : List ℕ) × (rest : List ℕ) × (text : List ℕ) × Exchange steps waits limits input mid old new text
    × Ends limits mid rest × (after ≡ Some rest) × Appends held holds text)
-- nothing is read, done or written
SessionEnds steps waits limits before after held holds old new (Err Memory) = Keeps before after × (new ≡ old) × Keeps held holds
-- all messages that are read whole are answered; `part` is read after them, and has no whole message in front
SessionEnds steps waits limits before after held holds old new (Err Read) = IfSome before (λ input.
    (part : List ℕ) × (rest : List ℕ) × (text : List ℕ) × Exchange steps waits limits input (part ++ rest) old new text
    × (after ≡ Some rest) × Appends held holds text × StaysWithin limits part rest)
SessionEnds steps waits limits before after held holds old new (Err Turns) = IfSome before (λ input.
    (part : List ℕ) × (rest : List ℕ) × (text : List ℕ) × Exchange steps waits limits input (part ++ rest) old new text
    × (after ≡ Some rest) × Appends held holds text × StaysWithin limits part rest)
-- nothing is read or done after the message whose reply is not written whole, or not sent
SessionEnds steps waits limits before after held holds old new (Err Write) = IfSome before (λ input.
    (rest : List ℕ) × (text : List ℕ) × CutsOff steps waits limits input rest old new text × (after ≡ Some rest) × Appends held holds text)

-- The reader's count of failures changes exactly for the fault `Read`, and the writer's exactly for `Write`.
abbrev pub CountsFaults : {T : Type 0} → (read_before read_after write_before write_after : ℕ) → Result T SessionFault → Type 0
CountsFaults a b c d (Ok done) = (b ≡ a) × (d ≡ c)
CountsFaults a b c d (Err Memory) = (b ≡ a) × (d ≡ c)
CountsFaults a b c d (Err Read) = (b ≢ a) × (d ≡ c)
CountsFaults a b c d (Err Write) = (b ≡ a) × (d ≢ c)
CountsFaults a b c d (Err Turns) = (b ≡ a) × (d ≡ c)

-- One step of a session: a message is read and answered. True where the session goes on.
abbrev pub StepEnds : {D : Type 0} → (D → Event → Reply → D → Type 0) → WaitLaw D → Limits → (before after held holds : Option (List ℕ)) → D → D →
    Result Bool SessionFault → Type 0
StepEnds steps waits limits before after held holds old new (Ok true) = IfSome before (λ input.
    (rest : List ℕ) × (text : List ℕ) × Exchange steps waits limits input rest old new text × (after ≡ Some rest) × Appends held holds text)
StepEnds steps waits limits before after held holds old new (Ok false) = SessionEnds steps waits limits before after held holds old new (Ok tt)
StepEnds steps waits limits before after held holds old new (Err Memory) = ⊥
StepEnds steps waits limits before after held holds old new (Err Read) = SessionEnds steps waits limits before after held holds old new (Err Read)
StepEnds steps waits limits before after held holds old new (Err Turns) = SessionEnds steps waits limits before after held holds old new (Err Turns)
StepEnds steps waits limits before after held holds old new (Err Write) = SessionEnds steps waits limits before after held holds old new (Err Write)

-- A whole session in memory: all messages of the input are answered, in order, from old to new, and `text` is the text of the replies.
abbrev pub IsTranscript : {D : Type 0} → (D → Event → Reply → D → Type 0) → WaitLaw D → Limits → List ℕ → D → D → List ℕ → Type 0
IsTranscript steps waits limits input old new text =
    (mid : List ℕ) × (rest : List ℕ) × Exchange steps waits limits input mid old new text × Ends limits mid rest

-- A session in memory that ends early, with this fault.
abbrev pub EndsEarly : {D : Type 0} → (D → Event → Reply → D → Type 0) → WaitLaw D → Limits → List ℕ → D → D → SessionFault → Type 0
EndsEarly steps waits limits input old new fault =
    (rest : List ℕ) × (text : List ℕ) × SessionEnds steps waits limits (Some input) (Some rest) (Some []) (Some text) old new (Err fault)
