-- Whether the session goes on behind a frame.
use Rattle.std.specs.Prelude.{ℕ, ◌≡◌, ◌⊎◌, Bool, false, List, [], ◌∷◌, Option, None, Some, Ok, IsUtf8}
use Rattle.serde_json.specs.Data.{Data}
use Rattle.serde_json.specs.Read.{read}
use Rattle.lsp_frames.specs.Bodies.{ReadsFrame}
use Rattle.lsp_frames.specs.declared.frames.Frame.{Frame}
use Rattle.lsp_frames.specs.declared.frames.Frame.TheVariants as frame
use Rattle.lsp_message.specs.Calls.{FailsToRead, call_made}
use Rattle.lsp_message.specs.Stages.{Debt, end_of_session, owed_by, refusal}
use Rattle.lsp_message.specs.declared.answers.ErrorCode.{ErrorCode}
use Rattle.lsp_message.specs.declared.answers.ErrorCode.TheVariants.{InternalError, InvalidRequest, ParseError}
use Rattle.lsp_message.specs.declared.calls.BodyFault.{BodyFault}
use Rattle.lsp_message.specs.declared.calls.BodyFault.TheVariants as unread
use Rattle.lsp_message.specs.declared.stages.SessionStage.TheVariants.{New}
use Rattle.lsp_session.specs.Outcomes.{ServiceOutcome}
use Rattle.lsp_session.specs.Paying.{PaysDebt}
use Rattle.lsp_session.specs.declared.turns.EditorTurn.{EditorTurn}
use Rattle.lsp_session.specs.declared.turns.EditorTurn.TheVariants.{Ended, GoesOn}
use Rattle.lsp_session.specs.declared.turns.SessionProgress.{SessionProgress}

-- The session ends where this is what a call owes, and goes on behind each other call.
abbrev pub turn_of : Debt → EditorTurn
turn_of (end_of_session is_orderly) = Ended is_orderly
turn_of debt = GoesOn

-- The code of the error for a body that is no JSON value.
abbrev pub unread_code : BodyFault → ErrorCode
unread_code unread.NotJson = ParseError
unread_code unread.Memory = InternalError

-- How far a session is at first.
abbrev pub first_progress : SessionProgress
first_progress = record { stage = New; next_id = 1 }

module _ {E : Type 0} (starts : E → Option Data → Data → E → Type 0) (answers : E → List ℕ → Option Data → Option Data → ServiceOutcome → E → Type 0)
    (heeds : E → List ℕ → Option Data → List Data → E → Type 0) where
  -- What is owed is written, and the session goes on or ends by it.
  abbrev pub TakesDebt : Debt → (held holds : Option (List ℕ)) → (old new : SessionProgress × E) → EditorTurn → Type 0
  TakesDebt debt held holds old new turn = PaysDebt starts answers heeds debt held holds old new × (turn ≡ turn_of debt)

  -- What the call of a value owes is written.
  abbrev pub TakesJson : Data → (held holds : Option (List ℕ)) → (old new : SessionProgress × E) → EditorTurn → Type 0
  TakesJson value held holds old new turn = TakesDebt (owed_by old.0.stage (call_made value)) held holds old new turn

  -- What a body owes is written: what its call owes, or an error without an id where it is no value.
  abbrev pub TakesBody : (body : List ℕ) → (held holds : Option (List ℕ)) → (old new : SessionProgress × E) → EditorTurn → Type 0
  TakesBody body held holds old new turn =
      ((value : Data) × IsUtf8 body × (read body ≡ Some value) × TakesJson value held holds old new turn)
      ⊎ ((why : BodyFault) × FailsToRead body why × TakesDebt (refusal None (unread_code why)) held holds old new turn)

  -- What a frame owes is written. The end of the input ends the session, and not orderly. A frame that cannot be read owes an error, and is no
  -- end.
  abbrev pub TakesFrame : Frame → (held holds : Option (List ℕ)) → (old new : SessionProgress × E) → EditorTurn → Type 0
  TakesFrame frame.End held holds old new turn = TakesDebt (end_of_session false) held holds old new turn
  TakesFrame (frame.Body text) held holds old new turn = TakesBody text held holds old new turn
  TakesFrame frame.NoLength held holds old new turn = TakesDebt (refusal None ParseError) held holds old new turn
  TakesFrame frame.TooLarge held holds old new turn = TakesDebt (refusal None InvalidRequest) held holds old new turn
  TakesFrame frame.NoRoom held holds old new turn = TakesDebt (refusal None InternalError) held holds old new turn

  -- What a session is at: the bytes that its reader has left, those that its writer holds, how far it is, and the service.
  abbrev pub SessionPoint : Type 0
  SessionPoint = (Option (List ℕ) × Option (List ℕ)) × (SessionProgress × E)

  -- A frame is read, and what it owes is written.
  abbrev pub TakesNextFrame : SessionPoint → Frame → EditorTurn → SessionPoint → Type 0
  TakesNextFrame old next turn new = ReadsFrame old.0.0 new.0.0 (Ok next) × TakesFrame next old.0.1 new.0.1 old.1 new.1 turn

  -- Frames are read, one after another, and the session goes on behind each of them.
  abbrev pub GoesThrough : SessionPoint → List Frame → SessionPoint → Type 0
  GoesThrough old [] new = new ≡ old
  GoesThrough old (next ∷ others) new = (mid : SessionPoint) × TakesNextFrame old next GoesOn mid × GoesThrough mid others new

  -- A whole session: frames behind which it goes on, and the one that ends it. It begins before initialize.
  abbrev pub ConversesByFrames : (before held : Option (List ℕ)) → E → (is_orderly : Bool) → (after holds : Option (List ℕ)) → E → Type 0
  ConversesByFrames before held service is_orderly after holds served = (frames : List Frame) × (last : Frame) × (mid : SessionPoint)
      × (progress : SessionProgress) × GoesThrough ((before, held), (first_progress, service)) frames mid
      × TakesNextFrame mid last (Ended is_orderly) ((after, holds), (progress, served))
