-- What a call owes at each stage of a session, from initialize to exit.
use Rattle.std.specs.Prelude.{ℕ, ◌==◌, Bool, true, false, List, codes, Option, Some, if◌then◌else◌}
use Rattle.std.specs.Cmp.Lexicographic.{pointwise}
use Rattle.serde_json.specs.Data.{Data}
use Rattle.serde_json.specs.View.{view}
use Rattle.lsp_message.specs.Calls.{Made, answer, malformed, notification, request, viewed}
use Rattle.lsp_message.specs.declared.answers.ErrorCode.{ErrorCode}
use Rattle.lsp_message.specs.declared.answers.ErrorCode.TheVariants.{InvalidRequest, ServerNotInitialized}
use Rattle.lsp_message.specs.declared.stages.Owed.{Owed}
use Rattle.lsp_message.specs.declared.stages.Owed.TheVariants as owed
use Rattle.lsp_message.specs.declared.stages.SessionStage.{SessionStage}
use Rattle.lsp_message.specs.declared.stages.SessionStage.TheVariants.{Down, New, Ready}

-- What a call owes, as data.
pub data Debt : Type 0 where
  refusal : (id : Option Data) → ErrorCode → Debt
  start : (id : Data) → (params : Option Data) → Debt
  stop : (id : Data) → Debt
  end_of_session : (is_orderly : Bool) → Debt
  answer_to : (id : Data) → (method : List ℕ) → (params : Option Data) → Debt
  heed : (method : List ℕ) → (params : Option Data) → Debt
  heed_answer : (id outcome : Option Data) → Debt
  nothing_owed : Debt

abbrev pub owed_view : Owed → Debt
owed_view (owed.Refusal id code) = refusal (viewed id) code
owed_view (owed.Start id params) = start (view id.now) (viewed params)
owed_view (owed.Stop id) = stop (view id.now)
owed_view (owed.End is_orderly) = end_of_session is_orderly
owed_view (owed.Answer id method params) = answer_to (view id.now) method.now (viewed params)
owed_view (owed.Heed method params) = heed method.now (viewed params)
owed_view (owed.HeedAnswer id outcome) = heed_answer (viewed id) (viewed outcome)
owed_view owed.Nothing = nothing_owed

-- Whether a method is this one.
abbrev pub is_method : List ℕ → List ℕ → Bool
is_method name method = pointwise ◌==◌ method name

-- What a request other than initialize owes in a session that is ready.
abbrev pub asked_when_ready : Data → List ℕ → Option Data → Debt
asked_when_ready id method params = if is_method (codes "shutdown") method then stop id else answer_to id method params

-- What a request owes. A session is initialized once, and before it no other request is answered; after shutdown none is.
abbrev pub asked_owes : SessionStage → Data → List ℕ → Option Data → Debt
asked_owes New id method params =
    if is_method (codes "initialize") method then start id params else refusal (Some id) ServerNotInitialized
asked_owes Ready id method params =
    if is_method (codes "initialize") method then refusal (Some id) InvalidRequest else asked_when_ready id method params
asked_owes Down id method params = refusal (Some id) InvalidRequest

abbrev is_down : SessionStage → Bool
is_down New = false
is_down Ready = false
is_down Down = true

abbrev heeded_when : SessionStage → List ℕ → Option Data → Debt
heeded_when New method params = nothing_owed
heeded_when Ready method params = heed method params
heeded_when Down method params = nothing_owed

-- What a notification owes: exit ends the session at each stage, and others are heeded while it is ready.
abbrev pub told_owes : SessionStage → List ℕ → Option Data → Debt
told_owes stage method params =
    if is_method (codes "exit") method then end_of_session (is_down stage) else heeded_when stage method params

-- What a call owes at a stage of a session.
abbrev pub owed_by : SessionStage → Made → Debt
owed_by stage (request id method params) = asked_owes stage id method params
owed_by stage (notification method params) = told_owes stage method params
owed_by stage (answer id outcome) = heed_answer id outcome
owed_by stage (malformed id) = refusal id InvalidRequest
