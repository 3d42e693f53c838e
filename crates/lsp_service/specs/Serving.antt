-- The service of a session over a desk.
use Rattle.std.specs.Prelude.{ℕ, ◌≡◌, Bool, true, false, List, [], Option, Result, string_bytes}
use Rattle.serde_json.specs.Data.{Data}
use Rattle.base_files.specs.Workspace.{Workspace}
use Rattle.base_files.specs.declared.refusal.Refusal.{Refusal}
use Rattle.serde_json.specs.declared.value.Value.{Value}
use Rattle.lsp_answers.specs.Capabilities.{initialize_result}
use Rattle.lsp_documents.specs.declared.documents.Documents.{Documents}
use Rattle.lsp_edits.specs.declared.telling.Telling.{Telling}
use Rattle.lsp_editor.specs.Folders.{NotesClient}
use Rattle.lsp_editor.specs.Heeding.{Heeds}
use Rattle.lsp_editor.specs.declared.editor.Editor.{Editor}
use Rattle.lsp_session.specs.Outcomes.{ServiceOutcome}
use Rattle.lsp_session.specs.declared.service.ServiceAnswer.{ServiceAnswer}
use Rattle.lsp_told.specs.Requests.{AskedOf, request_in}
use Rattle.lsp_told.specs.declared.fault.AskFault.{AskFault}
use Rattle.workspace_check.specs.declared.fault.FileFault.{FileFault}
use Rattle.lsp_service.specs.Answering.{AnswersRead, GivesAnswer}
use Rattle.lsp_service.specs.Catching.{CatchesUp, Done}
use Rattle.lsp_service.specs.Publishing.{Publishes}
use Rattle.lsp_service.specs.declared.failure.Failure.{Failure}

module _ {D : Type 0} (takes_disk : D → Documents → Workspace → Result Bool Refusal → D → Type 0)
    (takes_documents : D → Documents → Result Bool Refusal → D → Type 0) where
  -- Initialize: what the editor says of itself is noted, and the desk catches up. Where it cannot, each request that needs it says why.
  abbrev pub Starts : Editor × D → Option Data → Data → Editor × D → Type 0
  Starts old params outcome new = (noted : Editor) × (came : Done) × NotesClient params old.0 noted
      × CatchesUp takes_disk takes_documents noted old.1 came new.0 new.1 × (outcome ≡ initialize_result new.0.abilities.encoding)

module _ {D : Type 0} (takes_disk : D → Documents → Workspace → Result Bool Refusal → D → Type 0)
    (takes_documents : D → Documents → Result Bool Refusal → D → Type 0) (answers : D → Telling → AskedOf → Result Value AskFault → D → Type 0)
    (tells : D → List ℕ → AskFault → List ℕ → D → Type 0) where
  -- A request: the answer of the desk, or what is told of the failure.
  abbrev pub AnswersMethod : Editor × D → (method : List ℕ) → Option Data → (edit : Option Data) → ServiceOutcome → Editor × D → Type 0
  AnswersMethod old method params edit outcome new = (came : Result ServiceAnswer Failure) × (between : D)
      × AnswersRead takes_disk takes_documents answers (request_in method params) old.0 old.1 came new.0 between
      × GivesAnswer tells came between (string_bytes new.0.naming.prefix) edit outcome new.1

module _ {D : Type 0} (takes_disk : D → Documents → Workspace → Result Bool Refusal → D → Type 0)
    (takes_documents : D → Documents → Result Bool Refusal → D → Type 0) (differs : D → Documents → Result Bool Refusal → D → Type 0)
    (lists : D → Result (List FileFault) Refusal → D → Type 0) where
  -- Faults are published where they may have changed.
  abbrev pub PublishesIf : Bool → Editor → D → List Data → Editor × D → Type 0
  PublishesIf true editor desk told new = Publishes takes_disk takes_documents differs lists editor desk told new.0 new.1
  PublishesIf false editor desk told new = (told ≡ []) × (new ≡ (editor, desk))

  -- A notification: it is heeded, and faults are published where they may have changed.
  abbrev pub HeedsMethod : Editor × D → (method : List ℕ) → Option Data → (told : List Data) → Editor × D → Type 0
  HeedsMethod old method params told new = (changes : Bool) × (heeded : Editor) × Heeds method params old.0 changes heeded
      × PublishesIf changes heeded old.1 told new
