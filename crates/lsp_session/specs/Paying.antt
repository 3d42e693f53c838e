-- Which messages pay what a call owes, and how far the session is then.
use Rattle.std.specs.Prelude.{ℕ, ◌≡◌, ◌+◌, ◌-◌, ◌^◌, List, [], ◌∷◌, ◌++◌, Option, None, Some, map, min}
use Rattle.serde_json.specs.Data.{Data, null}
use Rattle.lsp_message.specs.Answers.{error_answer, result_answer}
use Rattle.lsp_message.specs.Stages.{Debt, answer_to, end_of_session, heed, heed_answer, nothing_owed, refusal, start, stop}
use Rattle.lsp_message.specs.declared.stages.SessionStage.TheVariants.{Down, Ready}
use Rattle.lsp_session.specs.Messages.{WritesMessages, answer_of, edit_requests, published, refused_words}
use Rattle.lsp_session.specs.Outcomes.{ServiceOutcome}
use Rattle.lsp_session.specs.declared.turns.SessionProgress.{SessionProgress}

-- Behind initialize the session is ready.
abbrev pub started : SessionProgress → SessionProgress
started progress = record progress { stage = Ready }

-- Behind shutdown the session is down.
abbrev pub stopped : SessionProgress → SessionProgress
stopped progress = record progress { stage = Down }

-- Behind a request of the server the next id is one more.
abbrev pub next_counted : Option Data → SessionProgress → SessionProgress
next_counted (Some params) progress = record progress { next_id = min (progress.next_id + 1) (2 ^ 64 - 1) }
next_counted None progress = progress

module _ {E : Type 0} (starts : E → Option Data → Data → E → Type 0) (answers : E → List ℕ → Option Data → Option Data → ServiceOutcome → E → Type 0)
    (heeds : E → List ℕ → Option Data → List Data → E → Type 0) where
  -- These messages pay what a call owes: a request has one answer, with its id. What it says is what the service says. `old` and `new` are how far
  -- the session was and is, with the service.
  abbrev pub Pays : Debt → List Data → (old new : SessionProgress × E) → Type 0
  Pays (refusal id code) messages old new = (messages ≡ error_answer id code (refused_words code) ∷ []) × (new ≡ old)
  Pays (start id params) messages old new = (outcome : Data) × starts old.1 params outcome new.1 × (messages ≡ result_answer id outcome ∷ [])
      × (new.0 ≡ started old.0)
  Pays (stop id) messages old new = (messages ≡ result_answer id null ∷ []) × (new ≡ (stopped old.0, old.1))
  Pays (end_of_session is_orderly) messages old new = (messages ≡ []) × (new ≡ old)
  Pays (answer_to id method params) messages old new = (edit : Option Data) × (outcome : ServiceOutcome) × answers old.1 method params edit outcome new.1
      × (messages ≡ edit_requests old.0.next_id edit ++ answer_of id outcome ∷ []) × (new.0 ≡ next_counted edit old.0)
  Pays (heed method params) messages old new = (faults : List Data) × heeds old.1 method params faults new.1 × (messages ≡ map published faults)
      × (new.0 ≡ old.0)
  Pays (heed_answer id outcome) messages old new = (messages ≡ []) × (new ≡ old)
  Pays nothing_owed messages old new = (messages ≡ []) × (new ≡ old)

  -- Messages are written that pay what a call owes.
  abbrev pub PaysDebt : Debt → (held holds : Option (List ℕ)) → (old new : SessionProgress × E) → Type 0
  PaysDebt debt held holds old new = (messages : List Data) × Pays debt messages old new × WritesMessages messages held holds
