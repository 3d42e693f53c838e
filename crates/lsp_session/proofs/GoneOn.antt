-- Sessions, one frame after another.
use Rattle.std.proofs.Common.{ℕ, ◌≡◌, Bool, List, [], ◌∷◌, ◌++◌, Option, Result, Ok, refl, ap, subst}
use Rattle.std.proofs.lemmas.Result.{IfOk-weaker}
use Rattle.std.specs.Prelude.{IfOk}
use Rattle.serde_json.specs.Data.{Data}
use Rattle.lsp_frames.specs.Bodies.{ReadsFrame}
use Rattle.lsp_frames.specs.declared.frames.Frame.{Frame}
use Rattle.lsp_session.specs.Outcomes.{ServiceOutcome}
use Rattle.lsp_session.specs.Turns.{ConversesByFrames, GoesThrough, SessionPoint, TakesFrame, TakesNextFrame, first_progress}
use Rattle.lsp_session.specs.declared.turns.EditorTurn.{EditorTurn}
use Rattle.lsp_session.specs.declared.turns.EditorTurn.TheVariants.{Ended, GoesOn}
use Rattle.lsp_session.specs.declared.turns.SessionProgress.{SessionProgress}

module _ {E : Type 0} (starts : E → Option Data → Data → E → Type 0) (answers : E → List ℕ → Option Data → Option Data → ServiceOutcome → E → Type 0)
    (heeds : E → List ℕ → Option Data → List Data → E → Type 0) where
  abbrev Point : Type 0
  Point = SessionPoint starts answers heeds

  abbrev session_point : (known : Option (List ℕ) × Option (List ℕ)) → SessionProgress → E → Point
  session_point known progress service = (known, (progress, service))

  through_push : (frames : List Frame) (frame : Frame) (old mid new : Point) → GoesThrough starts answers heeds old frames mid
      → TakesNextFrame starts answers heeds mid frame GoesOn new → GoesThrough starts answers heeds old (frames ++ frame ∷ []) new
  through_push [] frame old mid new h k = (new, subst (λ point. TakesNextFrame starts answers heeds point frame GoesOn new) h k, refl)
  through_push (first ∷ frames) frame old mid new h k = (h.0, h.1, through_push frames frame h.0 mid new h.2 k)

  -- the session went on behind each frame so far
  abbrev pub HasGoneOn : (old new : Point) → Type 0
  HasGoneOn old new = (frames : List Frame) × GoesThrough starts answers heeds old frames new

  -- at first it went on behind no frame
  pub gone_nowhere : (known : Option (List ℕ) × Option (List ℕ)) (progress : SessionProgress) (service : E) → progress ≡ first_progress
      → HasGoneOn (known, (first_progress, service)) (known, (progress, service))
  gone_nowhere known progress service is = ([], ap (λ (p : SessionProgress). session_point known p service) is)

  -- one frame more
  pub gone_on_by : (frame : Frame) (turn : EditorTurn) (old mid new : Point) → turn ≡ GoesOn → HasGoneOn old mid
      → TakesNextFrame starts answers heeds mid frame turn new → HasGoneOn old new
  gone_on_by frame turn old mid new is h k =
      (h.0 ++ frame ∷ [], through_push h.0 frame old mid new h.1 (subst (λ (t : EditorTurn). TakesNextFrame starts answers heeds mid frame t new) is k))

  -- the last frame
  pub ended_by : (frame : Frame) (turn : EditorTurn) (is_orderly : Bool) (before held after holds : Option (List ℕ)) (service served : E) (mid : Point)
      (progress : SessionProgress) → turn ≡ Ended is_orderly → HasGoneOn ((before, held), (first_progress, service)) mid
      → TakesNextFrame starts answers heeds mid frame turn ((after, holds), (progress, served))
      → ConversesByFrames starts answers heeds before held service is_orderly after holds served
  ended_by frame turn is_orderly before held after holds service served mid progress is h k = (
    h.0,
    frame,
    mid,
    progress,
    h.1,
    subst (λ (t : EditorTurn). TakesNextFrame starts answers heeds mid frame t ((after, holds), (progress, served))) is k,
  )

  -- a frame that was read and did this
  pub frame_taken : {F : Type 0} (frame : Frame) (old new : Point) (r : Result EditorTurn F) → ReadsFrame old.0.0 new.0.0 (Ok frame)
      → IfOk r (TakesFrame starts answers heeds frame old.0.1 new.0.1 old.1 new.1)
      → IfOk r (λ turn. (next : Frame) × TakesNextFrame starts answers heeds old next turn new)
  frame_taken frame old new r reads h =
      IfOk-weaker r (TakesFrame starts answers heeds frame old.0.1 new.0.1 old.1 new.1)
      (λ turn. (next : Frame) × TakesNextFrame starts answers heeds old next turn new)
      (λ turn k. (frame, (reads, k))) h
