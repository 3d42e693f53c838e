-- Sessions at a seat.
use Rattle.std.specs.Prelude.{◌≡◌, ℕ, zero, suc, Bool, List, Option, Result}
use Rattle.base_files.specs.declared.limits.Limits.{Limits}
use Rattle.server_session.specs.Answers.{AnswersOneAtMost, AnswersSome}
use Rattle.server_session.specs.Sending.{AnswersNext}
use Rattle.server_session.specs.declared.outgoing.Outgoing.{Outgoing}
use Rattle.server_shared.specs.LimitNumbers.{full_limits, limit_numbers}
use Rattle.server_shared.specs.declared.receipt.Receipt.{Receipt}
use Rattle.server_socket.specs.SeatStep.{CallsAtSeat}
use Rattle.server_socket.specs.SeatWait.{WaitsUntilBuilt}
use Rattle.server_session.specs.declared.exchange.SessionFault.{SessionFault}
use Rattle.server_session.specs.Conversing.{Converses}
use Rattle.server_session.specs.Transcript.{StepEnds}
use Rattle.server_shared.specs.Held.{IsRested}

-- The session ended with this result: its messages are answered by calls and waits at the seat alone, in their order. `before` is what the
-- reader had left at first, `held` and `holds` what the writer held before and after; `old` and `new` are the seat's receipts. The journal
-- has `most` entries at most.
abbrev pub ConversesAtSeat : ℕ → Limits → (before held holds : Option (List ℕ)) → (old new : List Receipt) → Result (Unit {0}) SessionFault → Type 0
ConversesAtSeat most limits before held holds old new result = Converses (CallsAtSeat most) (WaitsUntilBuilt most) limits before held holds old new result

-- A session with these limits is held at the seat to its end, whatever is read and written in it.
abbrev pub HoldsSessionWithin : ℕ → Limits → (old new : List Receipt) → Type 0
HoldsSessionWithin most limits old new =
    (before : Option (List ℕ)) × (held : Option (List ℕ)) × (holds : Option (List ℕ)) × (result : Result (Unit {0}) SessionFault)
    × ConversesAtSeat most limits before held holds old new result

-- A session with the greatest limits is held at the seat.
abbrev pub HoldsSession : ℕ → (old new : List Receipt) → Type 0
HoldsSession most old new = (limits : Limits) × (limit_numbers limits ≡ full_limits) × HoldsSessionWithin most limits old new

-- So many sessions are held at the seat, one after another, and nothing else is called there.
abbrev pub HoldsSessions : ℕ → ℕ → (old new : List Receipt) → Type 0
HoldsSessions most zero old new = new ≡ old
HoldsSessions most (suc n) old new = (mid : List Receipt) × HoldsSessions most n old mid × HoldsSession most mid new

-- Sessions are held at the seat, one after another, and nothing else is called there.
abbrev pub HoldsSome : ℕ → (old new : List Receipt) → Type 0
HoldsSome most old new = (sessions : ℕ) × HoldsSessions most sessions old new

-- Messages of sessions are answered at the seat, and nothing else is called there.
abbrev pub AnswersAtSeat : ℕ → (old new : List Receipt) → Type 0
AnswersAtSeat most old new = AnswersSome (CallsAtSeat most) (WaitsUntilBuilt most) old new

-- The next message is read and answered at the seat, which then comes to rest. The reply is left to be sent. The seat answers one message at
-- most, also where nothing is known of the reader.
abbrev pub AnswersAtRest : ℕ → Limits → (before after held holds : Option (List ℕ)) → (old new : List Receipt) → Result Outgoing SessionFault → Type 0
AnswersAtRest most limits before after held holds old new result = (mid : List Receipt)
    × AnswersNext (CallsAtSeat most) (WaitsUntilBuilt most) limits before after held holds old mid result
    × AnswersOneAtMost (CallsAtSeat most) (WaitsUntilBuilt most) old mid × IsRested mid new

-- One message is answered at the seat, which then comes to rest, and its reply is sent. Or the session ends.
abbrev pub ServesMessage : ℕ → Limits → (before after held holds : Option (List ℕ)) → (old new : List Receipt) → Result Bool SessionFault → Type 0
ServesMessage most limits before after held holds old new result = (mid : List Receipt)
    × StepEnds (CallsAtSeat most) (WaitsUntilBuilt most) limits before after held holds old mid result
    × AnswersOneAtMost (CallsAtSeat most) (WaitsUntilBuilt most) old mid × IsRested mid new

-- Where messages of sessions alone are answered at a seat with these receipts, all that it then holds is accounted for.
abbrev pub AccountsForMessages : (List Receipt → Type 0) → (most : ℕ) → List Receipt → Type 0
AccountsForMessages P most old = (new : List Receipt) → AnswersAtSeat most old new → ∥ P new ∥₁
