-- What is published of documents.
use Rattle.std.specs.Prelude.{ℕ, ◌≡◌, Bool, true, false, List, [], Option, None, Some, Result, Ok, Err, String, string_bytes}
use Rattle.std.specs.Str.{bytes_eq}
use Rattle.std.specs.declared.alloc.Global.{Global}
use Rattle.serde_json.specs.Data.{Data, no_items}
use Rattle.base_files.specs.Workspace.{Workspace}
use Rattle.base_files.specs.declared.refusal.Refusal.{Refusal}
use Rattle.lsp_documents.specs.Changes.{text_made}
use Rattle.lsp_documents.specs.Documents.{document_at}
use Rattle.lsp_documents.specs.declared.documents.Document.{Document}
use Rattle.lsp_documents.specs.declared.documents.Documents.{Documents}
use Rattle.lsp_edits.specs.declared.telling.Telling.{Telling}
use Rattle.lsp_editor.specs.Editors.{TellsBy, is_awaiting, made_in_documents}
use Rattle.lsp_editor.specs.declared.editor.Awaited.{Awaited}
use Rattle.lsp_editor.specs.declared.editor.Awaited.TheVariants.{Documents as InDocuments, Nothing, OtherFiles}
use Rattle.lsp_editor.specs.declared.editor.Editor.{Editor}
use Rattle.lsp_editor.specs.declared.editor.Published.{Published}
use Rattle.lsp_editor.specs.Publications.{PublicationView, PublishedView, TellsAll, kept_at, lines_told, publication_of, published_view}
use Rattle.lsp_told.specs.Diagnostics.{faults_data}
use Rattle.lsp_told.specs.Listed.{AreCollected}
use Rattle.workspace_check.specs.declared.fault.FileFault.{FileFault}
use Rattle.lsp_service.specs.Catching.{CatchesUpBy, Done}

abbrev pub if_not_told : (is_told : Bool) → PublicationView → Option PublicationView
if_not_told true publication = None
if_not_told false publication = Some publication

-- What is published, unless these lines were told last of the document.
abbrev pub told_unless : Editor → PublicationView → Option PublicationView
told_unless editor publication =
    if_not_told (bytes_eq publication.kept.lines (lines_told (kept_at editor publication.name))) publication

-- What is published of an open document: with its version the faults of its file, of those that were found, unless they were told last. Of a
-- document whose text is not known nothing is published.
abbrev pub IsToldOpen : Editor → List FileFault → (name : List ℕ) → Document → (text : Option (List ℕ)) → Option PublicationView → Type 0
IsToldOpen editor found name document None told = told ≡ None
IsToldOpen editor found name document (Some text) told = (telling : Telling) × TellsBy editor telling
    × (told ≡ told_unless editor (publication_of name (string_bytes document.uri) document.version (faults_data telling name text found)))

abbrev pub IsToldAt : Editor → List FileFault → String Global × Document → Option PublicationView → Type 0
IsToldAt editor found entry told = IsToldOpen editor found (string_bytes entry.0) entry.1 (text_made entry.1.text) told

-- What is published of all documents that are open, in their order.
abbrev pub AreToldOpen : Editor → List FileFault → List PublicationView → Type 0
AreToldOpen editor found told = AreCollected (IsToldAt editor found) editor.documents.entries.entries told

-- What is published of a document that was published before. One that is closed has no faults; that is published unless none were told last.
abbrev pub told_closed : Editor → Option Document → (name : List ℕ) → PublishedView → Option PublicationView
told_closed editor (Some document) name kept = None
told_closed editor None name kept = told_unless editor (publication_of name kept.uri kept.version no_items)

abbrev pub IsToldClosed : Editor → String Global × Published → Option PublicationView → Type 0
IsToldClosed editor entry told =
    told ≡ told_closed editor (document_at editor.documents (string_bytes entry.0)) (string_bytes entry.0) (published_view entry.1)

-- What is published of all documents that are closed, in their order.
abbrev pub AreToldClosed : Editor → List PublicationView → Type 0
AreToldClosed editor told = AreCollected (IsToldClosed editor) editor.published.entries told

-- It is published that closed documents have no faults.
abbrev pub PublishesClosed : Editor → (old new : List Data) → Editor → Type 0
PublishesClosed before old new after = (told : List PublicationView) × AreToldClosed before told × TellsAll told old new before after

-- Edits in documents are awaited where a document differs from its file here, and where that is not known.
abbrev pub is_waiting_by : Result Bool Refusal → Bool
is_waiting_by (Ok differs) = differs
is_waiting_by (Err why) = true

-- Where no edits in documents are awaited any more, each document that is open has the text from behind them.
abbrev pub seen_by : (waits : Bool) → Editor → Editor
seen_by true editor = editor
seen_by false editor = made_in_documents editor

-- What is published of open documents, where faults were found.
abbrev pub AreToldFound : Result (List FileFault) Refusal → Editor → List PublicationView → Type 0
AreToldFound (Ok found) editor told = AreToldOpen editor found told
AreToldFound (Err why) editor told = told ≡ []

module _ {D : Type 0} (differs : D → Documents → Result Bool Refusal → D → Type 0) where
  -- Whether edits in documents are awaited. It is noted where each document has them.
  abbrev pub WaitsIf : Awaited → Editor → D → (waits : Bool) → Editor → D → Type 0
  WaitsIf InDocuments old desk waits seen after = (differ : Result Bool Refusal) × differs desk old.documents differ after
      × (waits ≡ is_waiting_by differ) × (seen ≡ seen_by waits old)
  WaitsIf Nothing old desk waits seen after = (waits ≡ false) × (seen ≡ old) × (after ≡ desk)
  WaitsIf OtherFiles old desk waits seen after = (waits ≡ false) × (seen ≡ old) × (after ≡ desk)

module _ {D : Type 0} (lists : D → Result (List FileFault) Refusal → D → Type 0) where
  -- What is published of open documents, where the desk has caught up.
  abbrev pub ThenPublishes : Done → Editor → D → List PublicationView → D → Type 0
  ThenPublishes (Ok done) editor desk told after =
      (found : Result (List FileFault) Refusal) × lists desk found after × AreToldFound found editor told
  ThenPublishes (Err failed) editor desk told after = (told ≡ []) × (after ≡ desk)

module _ {D : Type 0} (takes_disk : D → Documents → Workspace → Result Bool Refusal → D → Type 0)
    (takes_documents : D → Documents → Result Bool Refusal → D → Type 0) (lists : D → Result (List FileFault) Refusal → D → Type 0) where
  -- What is published of open documents. Before, the desk catches up; while edits in other files are awaited it gets the open documents alone.
  abbrev pub PublishesAfter : Editor → D → List PublicationView → Editor → D → Type 0
  PublishesAfter editor desk told caught after = (came : Done) × (between : D)
      × CatchesUpBy takes_disk takes_documents (is_awaiting editor.awaited) editor desk came caught between
      × ThenPublishes lists came caught between told after

  -- While edits in documents are awaited, nothing is published of open documents.
  abbrev pub PublishesUnless : (waits : Bool) → Editor → D → List PublicationView → Editor → D → Type 0
  PublishesUnless true editor desk told caught after = (told ≡ []) × (caught ≡ editor) × (after ≡ desk)
  PublishesUnless false editor desk told caught after = PublishesAfter editor desk told caught after

module _ {D : Type 0} (takes_disk : D → Documents → Workspace → Result Bool Refusal → D → Type 0)
    (takes_documents : D → Documents → Result Bool Refusal → D → Type 0) (differs : D → Documents → Result Bool Refusal → D → Type 0)
    (lists : D → Result (List FileFault) Refusal → D → Type 0) where
  -- The faults of open documents are published, where they are not those that were told last.
  abbrev pub PublishesOpen : Editor → D → (old new : List Data) → Editor → D → Type 0
  PublishesOpen editor desk old new after behind = (waits : Bool) × (seen : Editor) × (between : D) × (caught : Editor)
      × (told : List PublicationView) × WaitsIf differs editor.awaited editor desk waits seen between
      × PublishesUnless takes_disk takes_documents lists waits seen between told caught behind × TellsAll told old new caught after

  -- What is published: that closed documents have no faults, and then the faults of open ones.
  abbrev pub Publishes : Editor → D → List Data → Editor → D → Type 0
  Publishes old desk told new after = (closed : List Data) × (mid : Editor) × PublishesClosed old [] closed mid
      × PublishesOpen mid desk closed told new after
