-- Requests, answered by a desk that has caught up.
use Rattle.std.specs.Prelude.{ℕ, ◌≡◌, Bool, List, codes, Option, None, Some, option_map, nat_eq, true, false, Result, Ok, Err}
use Rattle.serde_json.specs.Data.{Data}
use Rattle.serde_json.specs.View.{view}
use Rattle.serde_json.specs.declared.value.Value.{Value}
use Rattle.serde_json.specs.declared.value.Value.TheVariants.{Null}
use Rattle.base_files.specs.Workspace.{Workspace}
use Rattle.base_files.specs.declared.refusal.Refusal.{Refusal}
use Rattle.base_files.specs.declared.refusal.Refusal.TheVariants as refusal
use Rattle.lsp_answers.specs.Edits.{apply_edit_params}
use Rattle.lsp_documents.specs.declared.documents.Documents.{Documents}
use Rattle.lsp_edits.specs.declared.telling.Telling.{Telling}
use Rattle.lsp_editor.specs.Editors.{TellsBy, redone, renamed, undone}
use Rattle.lsp_editor.specs.declared.editor.Editor.{Editor}
use Rattle.lsp_session.specs.Outcomes.{ServiceOutcome, outcome_view}
use Rattle.lsp_session.specs.declared.service.ServiceAnswer.{ServiceAnswer}
use Rattle.lsp_told.specs.Requests.{AskedOf, asks_at, renames, takes_back, will_rename}
use Rattle.lsp_told.specs.declared.fault.AskFault.{AskFault}
use Rattle.lsp_told.specs.declared.fault.AskFault.TheVariants as fault
use Rattle.lsp_told.specs.declared.requests.Way.{Way}
use Rattle.lsp_told.specs.declared.requests.Way.TheVariants.{Redo, Undo}
use Rattle.lsp_service.specs.Catching.{CatchesUpFor, Done, step_in}
use Rattle.lsp_service.specs.Failing.{TellsFailure}
use Rattle.lsp_service.specs.declared.failure.Failure.{Failure}
use Rattle.lsp_service.specs.declared.failure.Failure.TheVariants.{Asked}

-- How many steps can be made this way.
abbrev pub renames_left : Way → Editor → ℕ
renames_left Undo editor = editor.undos
renames_left Redo editor = editor.redos

-- Why no step is made this way where there is none.
abbrev pub no_step : Way → AskFault
no_step Undo = fault.Refused refusal.NothingToUndo
no_step Redo = fault.Refused refusal.NothingToRedo

-- A step was made this way.
abbrev pub stepped : Way → Editor → Editor
stepped Undo editor = undone editor
stepped Redo editor = redone editor

-- What the client shows of the edits of a step.
abbrev pub step_label : Way → List ℕ
step_label Undo = codes "gorefd.undo"
step_label Redo = codes "gorefd.redo"

-- What is noted of the answer to a request that is no step.
abbrev pub note_of : AskedOf → Editor → Editor
note_of (renames asked) editor = renamed editor
note_of (asks_at at asked) editor = editor
note_of (will_rename files) editor = editor
note_of (takes_back way) editor = editor

-- A result, and no edit before it.
abbrev pub plain_answer : Value → ServiceAnswer
plain_answer value = record { edit = None; outcome = Ok value }

-- The answer to a request that is no step.
abbrev pub AnsweredBy : AskedOf → Result Value AskFault → Editor → Result ServiceAnswer Failure → Editor → Type 0
AnsweredBy asked (Ok value) old came new = (came ≡ Ok (plain_answer value)) × (new ≡ note_of asked old)
AnsweredBy asked (Err why) old came new = (came ≡ Err (Asked why)) × (new ≡ old)

-- The client is asked to make the edits of a step, and the answer is null; without memory for that the request fails.
abbrev pub AsksToStep : Way → (edits : Value) → Result ServiceAnswer Failure → Type 0
AsksToStep way edits (Ok answered) = (params : Value) × (view params ≡ apply_edit_params (step_label way) (view edits))
    × (answered ≡ record { edit = Some params; outcome = Ok Null })
AsksToStep way edits (Err failed) = failed ≡ Asked fault.Memory

abbrev pub SteppedBy : Way → Result Value AskFault → Editor → Result ServiceAnswer Failure → Editor → Type 0
SteppedBy way (Ok edits) old came new = AsksToStep way edits came × (new ≡ stepped way old)
SteppedBy way (Err why) old came new = (came ≡ Err (Asked why)) × (new ≡ old)

module _ {D : Type 0} (answers : D → Telling → AskedOf → Result Value AskFault → D → Type 0) where
  -- What the desk answers, told by what is kept of the editor.
  abbrev pub AsksDesk : Editor → D → AskedOf → (Result Value AskFault → Type 0) → D → Type 0
  AsksDesk editor desk asked P after =
      (telling : Telling) × (told : Result Value AskFault) × TellsBy editor telling × answers desk telling asked told after × P told

  -- A step, if there is one to make.
  abbrev pub StepsIf : (none : Bool) → Way → Editor → D → Result ServiceAnswer Failure → Editor → D → Type 0
  StepsIf true way old desk came new after = (came ≡ Err (Asked (no_step way))) × (new ≡ old) × (after ≡ desk)
  StepsIf false way old desk came new after =
      AsksDesk old desk (takes_back way) (λ (told : Result Value AskFault). SteppedBy way told old came new) after

  abbrev pub AnswersBy : Option Way → AskedOf → Editor → D → Result ServiceAnswer Failure → Editor → D → Type 0
  AnswersBy (Some way) asked old desk came new after = StepsIf (nat_eq (renames_left way old) 0) way old desk came new after
  AnswersBy None asked old desk came new after =
      AsksDesk old desk asked (λ (told : Result Value AskFault). AnsweredBy asked told old came new) after

  -- The answer to a request at a desk that has caught up: a step where it asks for one, and else what the desk answers.
  abbrev pub AnswersNow : AskedOf → Editor → D → Result ServiceAnswer Failure → Editor → D → Type 0
  AnswersNow asked old desk came new after = AnswersBy (step_in asked) asked old desk came new after

  -- The answer where the desk has caught up, and else why it has not.
  abbrev pub ThenAnswers : Done → AskedOf → Editor → D → Result ServiceAnswer Failure → Editor → D → Type 0
  ThenAnswers (Ok done) asked old desk came new after = AnswersNow asked old desk came new after
  ThenAnswers (Err failed) asked old desk came new after = (came ≡ Err failed) × (new ≡ old) × (after ≡ desk)

module _ {D : Type 0} (takes_disk : D → Documents → Workspace → Result Bool Refusal → D → Type 0)
    (takes_documents : D → Documents → Result Bool Refusal → D → Type 0) (answers : D → Telling → AskedOf → Result Value AskFault → D → Type 0)
  where
    -- The answer to a request: the desk catches up before.
    abbrev pub AnswersCaughtUp : AskedOf → Editor → D → Result ServiceAnswer Failure → Editor → D → Type 0
    AnswersCaughtUp asked old desk came new after = (caught : Done) × (mid : Editor) × (between : D)
        × CatchesUpFor takes_disk takes_documents asked old desk caught mid between × ThenAnswers answers caught asked mid between came new after

    -- The answer to a request that was read. Where it could not be read the desk is not asked.
    abbrev pub AnswersRead : Result AskedOf AskFault → Editor → D → Result ServiceAnswer Failure → Editor → D → Type 0
    AnswersRead (Ok asked) old desk came new after = AnswersCaughtUp asked old desk came new after
    AnswersRead (Err why) old desk came new after = (came ≡ Err (Asked why)) × (new ≡ old) × (after ≡ desk)

module _ {D : Type 0} (tells : D → List ℕ → AskFault → List ℕ → D → Type 0) where
  -- What the client gets: the answer, or what is told of the failure.
  abbrev pub GivesAnswer : Result ServiceAnswer Failure → D → (prefix : List ℕ) → Option Data → ServiceOutcome → D → Type 0
  GivesAnswer (Ok answered) old prefix edit outcome new =
      (edit ≡ option_map view answered.edit) × (outcome ≡ outcome_view answered.outcome) × (new ≡ old)
  GivesAnswer (Err failed) old prefix edit outcome new = (edit ≡ None) × TellsFailure tells old prefix failed outcome new
