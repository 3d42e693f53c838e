-- Exchanges, one after another.
use Rattle.std.proofs.Common.{◌≡◌, ℕ, List, [], ◌∷◌, ◌++◌, refl, sym, subst, inl, inr, append-nil, append_assoc}
use Rattle.std.specs.List.{flat_map}
use Rattle.std.proofs.lemmas.Grind.{flat_map-append}
use Rattle.base_files.specs.declared.limits.Limits.{Limits}
use Rattle.history_machine.specs.declared.event.Event.{Event}
use Rattle.history_machine.specs.declared.event.Reply.{Reply}
use Rattle.server_commands.specs.Wait.{WaitLaw}
use Rattle.server_commands.specs.declared.response.Response.{Response}
use Rattle.server_read.specs.declared.message.Message.{Message}
use Rattle.server_read.specs.Wire.{Says, Reads}
use Rattle.server_session.specs.Answers.{AnswersMessage, AnswersAll, AnswersOneAtMost, AnswersSome}
use Rattle.server_session.specs.Replies.{reply_text}
use Rattle.server_session.specs.Transcript.{Exchange, BreaksOff, CutsOff}

pub Reads-append : (limits : Limits) (input mid rest : List ℕ) (ms ns : List Message)
    → Reads limits input ms mid → Reads limits mid ns rest → Reads limits input (ms ++ ns) rest
Reads-append limits input mid rest [] ns h k = rw h k
Reads-append limits input mid rest (m ∷ ms) ns h k = (h.0, h.1, Reads-append limits h.0 mid rest ms ns h.2 k)

pub AnswersAll-append : {D : Type 0} (steps : D → Event → Reply → D → Type 0) (waits : WaitLaw D)
    (old mid new : D) (ms ns : List Message) (rs ss : List Response)
    → AnswersAll steps waits old ms rs mid → AnswersAll steps waits mid ns ss new → AnswersAll steps waits old (ms ++ ns) (rs ++ ss) new
AnswersAll-append steps waits old mid new [] ns [] ss h k = rw (← h) k
AnswersAll-append steps waits old mid new [] ns (r ∷ rs) ss h k = absurd h
AnswersAll-append steps waits old mid new (m ∷ ms) ns [] ss h k = absurd h
AnswersAll-append steps waits old mid new (m ∷ ms) ns (r ∷ rs) ss h k = (h.0, h.1, AnswersAll-append steps waits h.0 mid new ms ns rs ss h.2 k)

pub answers_none : {D : Type 0} (steps : D → Event → Reply → D → Type 0) (waits : WaitLaw D) (old : D) → AnswersSome steps waits old old
answers_none steps waits old = ([], [], refl)

-- some messages, and then one or none
pub answers_more : {D : Type 0} (steps : D → Event → Reply → D → Type 0) (waits : WaitLaw D) (old mid new : D)
    → AnswersSome steps waits old mid → AnswersOneAtMost steps waits mid new → AnswersSome steps waits old new
answers_more {D} steps waits old mid new h k = elim k [
  | inl same ↦ (h.0, h.1, subst (λ (x : D). AnswersAll steps waits old h.0 h.1 x) (sym same) h.2)
  | inr one ↦ (
    h.0 ++ one.0 ∷ [],
    h.1 ++ one.1 ∷ [],
    AnswersAll-append steps waits old mid new h.0 (one.0 ∷ []) h.1 (one.1 ∷ []) h.2 (new, one.2, refl),
  )
]

-- the exchange of no message
pub Exchange-none : {D : Type 0} (steps : D → Event → Reply → D → Type 0) (waits : WaitLaw D) (limits : Limits) (input : List ℕ) (old : D)
    → Exchange steps waits limits input input old old []
Exchange-none steps waits limits input old = record { messages = []; replies = []; read = refl; run = refl; written = refl }

-- the exchange of one message and its reply
pub Exchange-one : {D : Type 0} (steps : D → Event → Reply → D → Type 0) (waits : WaitLaw D)
    (limits : Limits) (input rest : List ℕ) (old new : D) (message : Message) (reply : Response)
    → Says limits input message rest → AnswersMessage steps waits old message reply new
    → Exchange steps waits limits input rest old new (reply_text reply)
Exchange-one steps waits limits input rest old new message reply said answered = record {
  messages = message ∷ [];
  replies = reply ∷ [];
  read = (rest, said, refl);
  run = (new, answered, refl);
  written = sym (append-nil (reply_text reply));
}

pub Exchange-append : {D : Type 0} (steps : D → Event → Reply → D → Type 0) (waits : WaitLaw D)
    (limits : Limits) (input mid rest : List ℕ) (old now new : D) (text more : List ℕ)
    → Exchange steps waits limits input mid old now text → Exchange steps waits limits mid rest now new more
    → Exchange steps waits limits input rest old new (text ++ more)
Exchange-append steps waits limits input mid rest old now new text more a b = record {
  messages = a.messages ++ b.messages;
  replies = a.replies ++ b.replies;
  read = Reads-append limits input mid rest a.messages b.messages a.read b.read;
  run = AnswersAll-append steps waits old now new a.messages b.messages a.replies b.replies a.run b.run;
  written = rw (a.written, b.written) (sym (flat_map-append reply_text a.replies b.replies));
}

-- one message whose reply is not written whole
pub BreaksOff-one : {D : Type 0} (steps : D → Event → Reply → D → Type 0) (waits : WaitLaw D)
    (limits : Limits) (input rest : List ℕ) (old new : D) (message : Message) (reply : Response)
    (written unwritten : List ℕ) → Says limits input message rest → AnswersMessage steps waits old message reply new → reply_text reply ≡ written ++ unwritten
    → BreaksOff steps waits limits input rest old new written
BreaksOff-one steps waits limits input rest old new message reply written unwritten said answered cut = record {
  messages = message ∷ [];
  earlier = [];
  last = reply;
  read = (rest, said, refl);
  run = (new, answered, refl);
  written = written;
  unwritten = unwritten;
  cut = cut;
  joined = refl;
}

pub BreaksOff-after : {D : Type 0} (steps : D → Event → Reply → D → Type 0) (waits : WaitLaw D)
    (limits : Limits) (input mid rest : List ℕ) (old now new : D) (text more : List ℕ)
    → Exchange steps waits limits input mid old now text → BreaksOff steps waits limits mid rest now new more
    → BreaksOff steps waits limits input rest old new (text ++ more)
BreaksOff-after steps waits limits input mid rest old now new text more a b = record {
  messages = a.messages ++ b.messages;
  earlier = a.replies ++ b.earlier;
  last = b.last;
  read = Reads-append limits input mid rest a.messages b.messages a.read b.read;
  run = rw (append_assoc a.replies b.earlier (b.last ∷ []))
      (AnswersAll-append steps waits old now new a.messages b.messages a.replies (b.earlier ++ b.last ∷ []) a.run b.run);
  written = b.written;
  unwritten = b.unwritten;
  cut = b.cut;
  joined = rw (a.written, b.joined, flat_map-append reply_text a.replies b.earlier)
      (sym (append_assoc (flat_map reply_text a.replies) (flat_map reply_text b.earlier) b.written));
}

-- an exchange, and one after it in which the writer failed
pub CutsOff-after : {D : Type 0} (steps : D → Event → Reply → D → Type 0) (waits : WaitLaw D)
    (limits : Limits) (input mid rest : List ℕ) (old now new : D) (text more : List ℕ)
    → Exchange steps waits limits input mid old now text → CutsOff steps waits limits mid rest now new more
    → CutsOff steps waits limits input rest old new (text ++ more)
CutsOff-after steps waits limits input mid rest old now new text more a b = elim b [
  | inl whole ↦ inl (Exchange-append steps waits limits input mid rest old now new text more a whole)
  | inr broken ↦ inr (BreaksOff-after steps waits limits input mid rest old now new text more a broken)
]
