-- The answers of a session to its messages.
use Rattle.std.specs.Prelude.{◌≡◌, List, [], ◌∷◌, ◌⊎◌}
use Rattle.base_files.specs.declared.refusal.Refusal.TheVariants.{Memory, BadCommand, BodyShort}
use Rattle.history_machine.specs.declared.event.Event.{Event}
use Rattle.history_machine.specs.declared.event.Reply.{Reply}
use Rattle.server_commands.specs.Wait.{WaitLaw}
use Rattle.server_commands.specs.declared.response.Response.{Response}
use Rattle.server_commands.specs.declared.response.Response.TheVariants.{Refused}
use Rattle.server_commands.specs.Act.{Acts}
use Rattle.server_session.specs.Replies.{IsWrittenFor}
use Rattle.server_read.specs.declared.message.Message.{Message}
use Rattle.server_read.specs.declared.message.Message.TheVariants.{Ask, Unknown, CutShort}

module _ {D : Type 0} (steps : D → Event → Reply → D → Type 0) (waits : WaitLaw D) where
  -- The reply that a session may give to a message, and the desk after it. A command is acted on, and its answer written. A command that is
  -- dropped for want of memory is refused and changes nothing.
  abbrev pub AnswersMessage : D → Message → Response → D → Type 0
  AnswersMessage old (Ask command) reply new =
      ((answer : Response) × Acts steps waits old command answer new × IsWrittenFor answer reply) ⊎ ((reply ≡ Refused Memory) × (new ≡ old))
  AnswersMessage old Unknown reply new = (reply ≡ Refused BadCommand) × (new ≡ old)
  AnswersMessage old CutShort reply new = (reply ≡ Refused BodyShort) × (new ≡ old)

  -- the replies that a session may give to these messages, in order, and the desk after them
  abbrev pub AnswersAll : D → List Message → List Response → D → Type 0
  AnswersAll old [] [] new = new ≡ old
  AnswersAll old (message ∷ messages) (reply ∷ replies) new = (mid : D) × AnswersMessage old message reply mid × AnswersAll mid messages replies new
  AnswersAll old [] (reply ∷ replies) new = ⊥
  AnswersAll old (message ∷ messages) [] new = ⊥

  -- The desk answers one message, or none. Nothing else changes it.
  abbrev pub AnswersOneAtMost : D → D → Type 0
  AnswersOneAtMost old new = (new ≡ old) ⊎ ((message : Message) × (reply : Response) × AnswersMessage old message reply new)

  -- The desk answers some messages, in order. Nothing else changes it.
  abbrev pub AnswersSome : D → D → Type 0
  AnswersSome old new = (messages : List Message) × (replies : List Response) × AnswersAll old messages replies new
