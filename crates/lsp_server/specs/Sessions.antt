-- Sessions of an editor over a book: initialize, requests and notifications, by the steps of the machine.
use Rattle.std.specs.Prelude.{ℕ, Bool, List, Option, Result}
use Rattle.std.specs.Borrow.{Bor}
use Rattle.serde_json.specs.Data.{Data}
use Rattle.base_files.specs.Workspace.{Workspace}
use Rattle.base_files.specs.declared.refusal.Refusal.{Refusal}
use Rattle.base_files.specs.declared.limits.Limits.{Limits}
use Rattle.history_machine.specs.Machine.{Machine, opening}
use Rattle.history_machine.specs.Step.{Step}
use Rattle.lsp_documents.specs.declared.documents.Documents.{Documents}
use Rattle.lsp_editor.specs.Editors.{IsNewEditor}
use Rattle.lsp_editor.specs.declared.editor.Editor.{Editor}
use Rattle.lsp_requests.specs.Answers.{AnswersRequest}
use Rattle.lsp_requests.specs.Faults.{SeesFaults, TellsFault}
use Rattle.lsp_requests.specs.Texts.{SeesDisk, SeesDocuments, SeesOther}
use Rattle.lsp_service.specs.Serving.{AnswersMethod, HeedsMethod, Starts}
use Rattle.lsp_service.specs.declared.service.DeskService.{DeskService}
use Rattle.lsp_session.specs.Outcomes.{ServiceOutcome}
use Rattle.lsp_session.specs.Turns.{ConversesByFrames}
use Rattle.lsp_server.specs.declared.book_desk.SessionDesk.{SessionDesk}

-- A desk over a book.
abbrev pub BookDesk : Type 0
BookDesk = SessionDesk Machine

-- The book gets the files on the disk, but for those that are open.
abbrev BookTakesDisk : BookDesk → Documents → (disk : Workspace) → Result Bool Refusal → BookDesk → Type 0
BookTakesDisk old documents disk came new = SeesDisk Step old.desk documents disk came new.desk

-- The book gets the texts of the documents that are open.
abbrev BookTakesDocuments : BookDesk → Documents → Result Bool Refusal → BookDesk → Type 0
BookTakesDocuments old documents came new = SeesDocuments Step old.desk documents came new.desk

-- Initialize. The book gets the files of the folder.
abbrev pub StartsByBook : Editor × BookDesk → Option Data → Data → Editor × BookDesk → Type 0
StartsByBook = Starts BookTakesDisk BookTakesDocuments

-- A request. The book gets the texts that are open, and those on the disk where these may have changed; then the request is a command of a session.
abbrev pub AnswersByBook : Editor × BookDesk → (method : List ℕ) → Option Data → (edit : Option Data) → ServiceOutcome → Editor × BookDesk → Type 0
AnswersByBook = AnswersMethod BookTakesDisk BookTakesDocuments
    (λ (old : BookDesk) telling asked came (new : BookDesk). AnswersRequest Step telling asked old.desk came new.desk)
    (λ (old : BookDesk) prefix fault words (new : BookDesk). TellsFault Step old.desk prefix fault words new.desk)

-- A notification.
abbrev pub HeedsByBook : Editor × BookDesk → (method : List ℕ) → Option Data → (told : List Data) → Editor × BookDesk → Type 0
HeedsByBook = HeedsMethod BookTakesDisk BookTakesDocuments
    (λ (old : BookDesk) documents came (new : BookDesk). SeesOther Step old.desk documents came new.desk)
    (λ (old : BookDesk) came (new : BookDesk). SeesFaults Step old.desk came new.desk)

-- The service of a session over a book.
abbrev pub BookService : Type 0 → Type 0
BookService R = DeskService R BookDesk

-- A session over a book: frames are read, one after another, and behind each the messages are written that pay what it owes.
abbrev pub ConversesByBook : {R : Type 0} → (before held : Option (List ℕ)) → BookService R → (is_orderly : Bool) → (after holds : Option (List ℕ))
    → BookService R → Type 0
ConversesByBook {R = R} before held service is_orderly after holds served =
    ConversesByFrames (λ (old : BookService R) params outcome (new : BookService R). StartsByBook (old.editor, old.desk) params outcome (new.editor, new.desk))
    (λ (old : BookService R) method params edit outcome (new : BookService R).
    AnswersByBook (old.editor, old.desk) method params edit outcome (new.editor, new.desk))
    (λ (old : BookService R) method params told (new : BookService R). HeedsByBook (old.editor, old.desk) method params told (new.editor, new.desk))
    before held service is_orderly after holds served

-- The same with what is kept of an editor, and a book.
abbrev pub ServesByBook : (R : Type 0) → Editor → Machine → (before held : Option (List ℕ)) → (is_orderly : Bool) → (after holds : Option (List ℕ))
    → Type 0
ServesByBook R editor book before held is_orderly after holds = (rt : Bor R) × (served : BookService R)
    × ConversesByBook before held (record { rt = rt; editor = editor; desk = record { desk = book } }) is_orderly after holds served

-- The same with an editor that did not initialize yet, and a new book.
abbrev pub ServesAlone : (R : Type 0) → (before held : Option (List ℕ)) → (is_orderly : Bool) → (holds : Option (List ℕ)) → Type 0
ServesAlone R before held is_orderly holds = (root : List ℕ) × (editor : Editor) × (limits : Limits) × (after : Option (List ℕ))
    × IsNewEditor root editor × ServesByBook R editor (opening limits) before held is_orderly after holds
