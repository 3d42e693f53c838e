-- The edits of a change, as a client takes them.
use Rattle.std.specs.Prelude.{ℕ, ℤ, ◌≡◌, Bool, true, false, List, [], ◌∷◌, Option, None, Some, map, option_map, string_bytes, unwrap_or}
use Rattle.std.specs.FinMap as files
use Rattle.std.specs.Str.Lossy.{utf8_lossy}
use Rattle.serde_json.specs.Data.{Data, Items, Members, array, no_members, put}
use Rattle.serde_json.specs.View.{items_of}
use Rattle.base_edits.specs.declared.change.FileChange.{FileChange}
use Rattle.base_edits.specs.declared.edit.Edit.{Edit}
use Rattle.base_files.specs.Workspace.{Workspace}
use Rattle.lsp_position.specs.declared.units.PositionEncoding.{PositionEncoding}
use Rattle.lsp_documents.specs.Documents.{document_at}
use Rattle.lsp_documents.specs.declared.documents.Document.{Document}
use Rattle.lsp_answers.specs.Edits.{changes_value, document_changes_value, document_edit_value, text_edit_value}
use Rattle.lsp_edits.specs.Naming.{IsUriFor}
use Rattle.lsp_edits.specs.Spans.{between}
use Rattle.lsp_edits.specs.declared.naming.FolderNaming.{FolderNaming}
use Rattle.lsp_edits.specs.declared.telling.Telling.{Telling}

-- An edit of a text: the range of its span, and its new text.
abbrev pub edit_data : PositionEncoding → List ℕ → Edit → Data
edit_data encoding text edit = text_edit_value (between encoding text edit.span.start edit.span.end) (utf8_lossy edit.text)

-- The edits of a text, in their order.
abbrev pub edits_data : PositionEncoding → List ℕ → List Edit → Items
edits_data encoding text edits = items_of (map (edit_data encoding text) edits)

-- The bytes of a file, or none where there is no file.
abbrev pub file_bytes : Workspace → List ℕ → List ℕ
file_bytes w path = unwrap_or (files.get w path) []

abbrev IsUriOf : Option Document → FolderNaming → (name uri : List ℕ) → Type 0
IsUriOf (Some document) naming name uri = uri ≡ string_bytes document.uri
IsUriOf None naming name uri = IsUriFor naming name uri

-- The URI of a file: that of its document, where it is open, and else that of its path.
abbrev pub IsToldUri : Telling → (name uri : List ℕ) → Type 0
IsToldUri telling name uri = IsUriOf (document_at telling.documents.now name) telling.naming.now name uri

-- The version of a file's document, if it is open.
abbrev pub told_version : Telling → (name : List ℕ) → Option ℤ
told_version telling name = option_map (λ (document : Document). document.version) (document_at telling.documents.now name)

-- The edits of a changed file, in ranges of its text before.
abbrev pub file_edits : Telling → Workspace → FileChange → Items
file_edits telling w change = edits_data telling.abilities.encoding (file_bytes w change.path) change.edits

-- A changed file as the edits of a document with its version.
abbrev pub IsDocumentEdit : Telling → Workspace → FileChange → Data → Type 0
IsDocumentEdit telling w change value = (uri : List ℕ) × IsToldUri telling change.path uri
    × (value ≡ document_edit_value uri (told_version telling change.path) (file_edits telling w change))

-- Changed files as edits of documents, in their order.
abbrev pub AreDocumentEdits : Telling → Workspace → List FileChange → List Data → Type 0
AreDocumentEdits telling w [] values = values ≡ []
AreDocumentEdits telling w (change ∷ changes) values = (first : Data) × (others : List Data) × IsDocumentEdit telling w change first
    × AreDocumentEdits telling w changes others × (values ≡ first ∷ others)

abbrev pub TellsDocuments : Telling → Workspace → List FileChange → Data → Type 0
TellsDocuments telling w changes value =
    (values : List Data) × AreDocumentEdits telling w changes values × (value ≡ document_changes_value (items_of values))

-- The members with the edits of a changed file under its URI.
abbrev pub PutsEdits : Telling → Workspace → FileChange → (old new : Members) → Type 0
PutsEdits telling w change old new =
    (uri : List ℕ) × IsToldUri telling change.path uri × (new ≡ put uri (array (file_edits telling w change)) old)

-- The members with the edits of changed files under their URIs, one after another.
abbrev pub PutAllEdits : Telling → Workspace → List FileChange → (old new : Members) → Type 0
PutAllEdits telling w [] old new = new ≡ old
PutAllEdits telling w (change ∷ changes) old new = (mid : Members) × PutsEdits telling w change old mid × PutAllEdits telling w changes mid new

-- Changed files as edits by URIs.
abbrev pub TellsByUri : Telling → Workspace → List FileChange → Data → Type 0
TellsByUri telling w changes value =
    (members : Members) × PutAllEdits telling w changes no_members members × (value ≡ changes_value members)

abbrev pub TellsAs : Bool → Telling → Workspace → List FileChange → Data → Type 0
TellsAs true telling w changes value = TellsDocuments telling w changes value
TellsAs false telling w changes value = TellsByUri telling w changes value

-- Changed files of a workspace as the client takes them: with versions, where it takes these.
abbrev pub TellsEdit : Telling → Workspace → List FileChange → Data → Type 0
TellsEdit telling w changes value = TellsAs telling.abilities.has_document_changes telling w changes value
