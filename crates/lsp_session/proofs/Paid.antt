-- Messages that pay what calls owe.
use Rattle.std.proofs.Common.{ℕ, ◌≡◌, Bool, List, [], ◌∷◌, ◌++◌, Option, None, Some, map, refl, ap, sym, subst}
use Rattle.std.specs.Prelude.{option_map}
use Rattle.serde_json.specs.Data.{Data, null}
use Rattle.serde_json.specs.View.{view}
use Rattle.serde_json.specs.declared.value.Value.{Value}
use Rattle.lsp_message.specs.Answers.{error_answer, result_answer}
use Rattle.lsp_message.specs.Stages.{answer_to, end_of_session, heed, heed_answer, nothing_owed, refusal, start, stop}
use Rattle.lsp_message.specs.declared.answers.ErrorCode.{ErrorCode}
use Rattle.lsp_session.specs.Messages.{WritesMessage, WritesMessages, answer_of, edit_request, edit_requests, published, refused_words}
use Rattle.lsp_session.specs.Outcomes.{ServiceOutcome}
use Rattle.lsp_session.specs.Paying.{PaysDebt, next_counted, started, stopped}
use Rattle.lsp_session.specs.declared.turns.SessionProgress.{SessionProgress}
use Rattle.lsp_session.proofs.Written.{keeps_itself, writes_both, writes_one}

-- the client is asked to make an edit, if there is one
pub edit_asked : (edit : Option Value) (params : Value) (progress new : SessionProgress) (held holds : Option (List ℕ)) → edit ≡ Some params
    → WritesMessage (edit_request progress.next_id (view params)) held holds → new ≡ next_counted (Some (view params)) progress
    → WritesMessages (edit_requests progress.next_id (option_map view edit)) held holds × (new ≡ next_counted (option_map view edit) progress)
edit_asked edit params progress new held holds is written counts =
    subst (λ (e : Option Value). WritesMessages (edit_requests progress.next_id (option_map view e)) held holds
    × (new ≡ next_counted (option_map view e) progress)) (sym is)
    (writes_one (edit_request progress.next_id (view params)) held holds written, counts)

pub no_edit_asked : (edit : Option Value) (progress : SessionProgress) (held : Option (List ℕ)) → edit ≡ None
    → WritesMessages (edit_requests progress.next_id (option_map view edit)) held held × (progress ≡ next_counted (option_map view edit) progress)
no_edit_asked edit progress held is =
    subst (λ (e : Option Value). WritesMessages (edit_requests progress.next_id (option_map view e)) held held
    × (progress ≡ next_counted (option_map view e) progress)) (sym is) (keeps_itself held, refl)

module _ {E : Type 0} (starts : E → Option Data → Data → E → Type 0) (answers : E → List ℕ → Option Data → Option Data → ServiceOutcome → E → Type 0)
    (heeds : E → List ℕ → Option Data → List Data → E → Type 0) where
  pub refusal_paid : (id : Option Data) (code : ErrorCode) (held holds : Option (List ℕ)) (at : SessionProgress × E)
      → WritesMessage (error_answer id code (refused_words code)) held holds → PaysDebt starts answers heeds (refusal id code) held holds at at
  refusal_paid id code held holds at written =
      (error_answer id code (refused_words code) ∷ [], (refl, refl), writes_one (error_answer id code (refused_words code)) held holds written)

  pub start_paid : (id : Data) (params : Option Data) (outcome : Data) (held holds : Option (List ℕ)) (progress : SessionProgress) (old new : E)
      → starts old params outcome new → WritesMessage (result_answer id outcome) held holds
      → PaysDebt starts answers heeds (start id params) held holds (progress, old) (started progress, new)
  start_paid id params outcome held holds progress old new steps written =
      (result_answer id outcome ∷ [], (outcome, steps, refl, refl), writes_one (result_answer id outcome) held holds written)

  abbrev progress_with : E → SessionProgress → SessionProgress × E
  progress_with service progress = (progress, service)

  pub stop_paid : (id : Data) (held holds : Option (List ℕ)) (progress later : SessionProgress) (service : E) → later ≡ stopped progress
      → WritesMessage (result_answer id null) held holds → PaysDebt starts answers heeds (stop id) held holds (progress, service) (later, service)
  stop_paid id held holds progress later service is written =
      (result_answer id null ∷ [], (refl, ap (progress_with service) is), writes_one (result_answer id null) held holds written)

  pub answer_paid : (id : Data) (method : List ℕ) (params edit : Option Data) (outcome : ServiceOutcome) (held mid holds : Option (List ℕ))
      (progress later : SessionProgress) (old new : E) → answers old method params edit outcome new
      → WritesMessages (edit_requests progress.next_id edit) held mid × (later ≡ next_counted edit progress)
      → WritesMessage (answer_of id outcome) mid holds → PaysDebt starts answers heeds (answer_to id method params) held holds (progress, old) (later, new)
  answer_paid id method params edit outcome held mid holds progress later old new steps first last = (
    edit_requests progress.next_id edit ++ answer_of id outcome ∷ [],
    (edit, outcome, steps, refl, first.1),
    writes_both (edit_requests progress.next_id edit) (answer_of id outcome ∷ []) held mid holds first.0 (writes_one (answer_of id outcome) mid holds last),
  )

  pub heed_paid : (method : List ℕ) (params : Option Data) (held holds : Option (List ℕ)) (progress : SessionProgress) (old new : E)
      → ((faults : List Data) × heeds old method params faults new × WritesMessages (map published faults) held holds)
      → PaysDebt starts answers heeds (heed method params) held holds (progress, old) (progress, new)
  heed_paid method params held holds progress old new h = (map published h.0, (h.0, h.1, refl, refl), h.2)

  pub end_paid : (is_orderly : Bool) (held : Option (List ℕ)) (at : SessionProgress × E)
      → PaysDebt starts answers heeds (end_of_session is_orderly) held held at at
  end_paid is_orderly held at = ([], (refl, refl), keeps_itself held)

  pub reply_paid : (id outcome : Option Data) (held : Option (List ℕ)) (at : SessionProgress × E)
      → PaysDebt starts answers heeds (heed_answer id outcome) held held at at
  reply_paid id outcome held at = ([], (refl, refl), keeps_itself held)

  pub nothing_paid : (held : Option (List ℕ)) (at : SessionProgress × E) → PaysDebt starts answers heeds nothing_owed held held at at
  nothing_paid held at = ([], (refl, refl), keeps_itself held)
