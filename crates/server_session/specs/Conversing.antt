-- A session over any reader and writer, and one over a book of its own.
use Rattle.std.specs.Prelude.{ℕ, List, Option, Result}
use Rattle.base_files.specs.declared.limits.Limits.{Limits}
use Rattle.history_machine.specs.declared.event.Event.{Event}
use Rattle.history_machine.specs.declared.event.Reply.{Reply}
use Rattle.history_machine.specs.Machine.{Machine, opening}
use Rattle.history_machine.specs.Step.{Step}
use Rattle.server_commands.specs.Wait.{WaitLaw, SoloWaits}
use Rattle.server_session.specs.declared.exchange.SessionFault.{SessionFault}
use Rattle.server_session.specs.Answers.{AnswersSome}
use Rattle.server_session.specs.Transcript.{SessionEnds}

-- The session ended with this result, whatever the reader has left. The desk answered messages alone, also where nothing is known of the
-- reader. `before` is what the reader had left at first, `held` and `holds` what the writer held before and after.
abbrev pub Converses : {D : Type 0} → (D → Event → Reply → D → Type 0) → WaitLaw D → Limits → (before held holds : Option (List ℕ)) → D → D →
    Result (Unit {0}) SessionFault → Type 0
Converses steps waits limits before held holds old new result =
    (after : Option (List ℕ)) × SessionEnds steps waits limits before after held holds old new result × AnswersSome steps waits old new

-- a session over this book ended with this result, whatever the book became
abbrev pub EndsOver : Machine → Limits → (before held holds : Option (List ℕ)) → Result (Unit {0}) SessionFault → Type 0
EndsOver old limits before held holds result = (end : Machine) × Converses Step SoloWaits limits before held holds old end result

-- A session over a new book ended with this result. Session and book have the same limits.
abbrev pub EndsAlone : Limits → (before held holds : Option (List ℕ)) → Result (Unit {0}) SessionFault → Type 0
EndsAlone limits before held holds result = EndsOver (opening limits) limits before held holds result
