-- What notifications change.
use Rattle.std.specs.Prelude.{ℕ, ℤ, ◌≡◌, Bool, true, false, List, codes, if◌then◌else◌, Option, None, Some}
use Rattle.serde_json.specs.Data.{Data}
use Rattle.lsp_documents.specs.Documents.{ChangesDocument, IsOnlyChange, OpensDocument}
use Rattle.lsp_documents.specs.declared.changes.TextChange.{TextChange}
use Rattle.lsp_documents.specs.declared.documents.Documents.{Documents}
use Rattle.lsp_edits.specs.Naming.{IsBelowFolder, NamesFile}
use Rattle.lsp_edits.specs.declared.naming.FolderNaming.{FolderNaming}
use Rattle.lsp_message.specs.Stages.{is_method}
use Rattle.lsp_params.specs.Asked.{uri_of_document}
use Rattle.lsp_params.specs.Changed.{ChangeView, DocumentView, changes_in, changes_view, opened_document, version_of_document}
use Rattle.lsp_editor.specs.Editors.{as_opened, as_settled, stale, with_documents}
use Rattle.lsp_editor.specs.Taken.{takes_text}
use Rattle.lsp_editor.specs.declared.editor.Editor.{Editor}
use Rattle.lsp_editor.specs.declared.heeding.Notice.{Notice}
use Rattle.lsp_editor.specs.declared.heeding.Notice.TheVariants as notice

-- Whether a document is a file of a package below the folder, which no build constraint restricts.
abbrev pub TakesDocument : FolderNaming → (name text : List ℕ) → Bool → Type 0
TakesDocument naming name text taken =
    (path : List ℕ) × IsBelowFolder naming name path × (taken ≡ takes_text path text)

-- What a notification of a method tells.
abbrev pub notice_of : List ℕ → Notice
notice_of method =
    if is_method (codes "textDocument/didOpen") method then notice.Opened
    else (if is_method (codes "textDocument/didChange") method then notice.Changed
    else (if is_method (codes "textDocument/didClose") method then notice.Closed
    else (if is_method (codes "textDocument/didSave") method then notice.Saved
    else (if is_method (codes "workspace/didChangeWatchedFiles") method then notice.FilesChanged
    else (if is_method (codes "workspace/didRenameFiles") method then notice.FilesChanged
    else notice.Other)))))

-- Faults may have changed behind each notification that the server knows.
abbrev pub is_known : Notice → Bool
is_known notice.Other = false
is_known told = true

-- A document is opened, where it is taken. It may have the text from before edits that are awaited.
abbrev pub OpensIf : Bool → (name : List ℕ) → DocumentView → Editor → Editor → Type 0
OpensIf true name opened old new = (documents : Documents) × OpensDocument name opened.0.0 opened.0.1 opened.1 old.documents documents
    × (new ≡ as_opened (with_documents old documents))
OpensIf false name opened old new = new ≡ old

-- A document is opened, where it has a name below the folder.
abbrev pub OpensNamed : Option (List ℕ) → DocumentView → Editor → Editor → Type 0
OpensNamed None opened old new = new ≡ old
OpensNamed (Some name) opened old new =
    (taken : Bool) × TakesDocument old.naming name opened.1 taken × OpensIf taken name opened old new

abbrev pub OpensAsked : Option DocumentView → Editor → Editor → Type 0
OpensAsked None old new = new ≡ old
OpensAsked (Some opened) old new = (name : Option (List ℕ)) × NamesFile old.naming opened.0.0 name × OpensNamed name opened old new

-- The name of the file that a URI names, if there is a URI.
abbrev pub NamesFileIf : FolderNaming → Option (List ℕ) → Option (List ℕ) → Type 0
NamesFileIf naming None name = name ≡ None
NamesFileIf naming (Some uri) name = NamesFile naming uri name

-- The name of the document that parameters name; none where they name none below the folder.
abbrev pub FindsDocument : FolderNaming → (params : Data) → Option (List ℕ) → Type 0
FindsDocument naming params name = NamesFileIf naming (uri_of_document params) name

-- A document of a name is changed, where the parameters give a version and content changes.
abbrev pub ChangesTo : (name : List ℕ) → Option ℤ → Option (List ChangeView) → Editor → Editor → Type 0
ChangesTo name (Some version) (Some views) old new = (changes : List TextChange) × (documents : Documents) × (changes_view changes ≡ views)
    × ChangesDocument old.abilities.encoding name version changes old.documents documents × (new ≡ with_documents old documents)
ChangesTo name (Some version) None old new = new ≡ old
ChangesTo name None views old new = new ≡ old

abbrev pub ChangesNamed : Option (List ℕ) → Data → Editor → Editor → Type 0
ChangesNamed None params old new = new ≡ old
ChangesNamed (Some name) params old new = ChangesTo name (version_of_document params) (changes_in params) old new

-- A document of a name is closed: what lies on the disk counts again.
abbrev pub ClosesNamed : Option (List ℕ) → Editor → Editor → Type 0
ClosesNamed None old new = new ≡ old
ClosesNamed (Some name) old new =
    (documents : Documents) × IsOnlyChange name None old.documents documents × (new ≡ stale (with_documents old documents))

-- What a notification with parameters changes. Behind a save, and behind changes on the disk, no edits are awaited any more.
abbrev pub HeedsNotice : Notice → Data → Editor → Editor → Type 0
HeedsNotice notice.Opened params old new = OpensAsked (opened_document params) old new
HeedsNotice notice.Changed params old new = (name : Option (List ℕ)) × FindsDocument old.naming params name × ChangesNamed name params old new
HeedsNotice notice.Closed params old new = (name : Option (List ℕ)) × FindsDocument old.naming params name × ClosesNamed name old new
HeedsNotice notice.Saved params old new = new ≡ as_settled old
HeedsNotice notice.FilesChanged params old new = new ≡ stale (as_settled old)
HeedsNotice notice.Other params old new = new ≡ old

-- What a notification changes, and whether faults may have changed. One without parameters changes nothing.
abbrev pub Heeds : (method : List ℕ) → Option Data → Editor → Bool → Editor → Type 0
Heeds method None old told new = (told ≡ false) × (new ≡ old)
Heeds method (Some params) old told new = (told ≡ is_known (notice_of method)) × HeedsNotice (notice_of method) params old new
