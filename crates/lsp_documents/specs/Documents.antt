-- The documents that are open.
use Rattle.std.specs.Prelude.{ℕ, ℤ, ◌≡◌, ◌≢◌, List, Option, None, Some, string_bytes}
use Rattle.std.specs.BTreeMap.{get_by_text}
use Rattle.lsp_position.specs.declared.units.PositionEncoding.{PositionEncoding}
use Rattle.lsp_documents.specs.Changes.{ChangesMake, text_made}
use Rattle.lsp_documents.specs.declared.changes.TextChange.{TextChange}
use Rattle.lsp_documents.specs.declared.documents.Document.{Document}
use Rattle.lsp_documents.specs.declared.documents.Documents.{Documents}

-- The document of this name, if it is open.
abbrev pub document_at : Documents → List ℕ → Option Document
document_at documents name = get_by_text documents.entries name

-- The URI, the version and the text of a document.
pub record HoldsText (document : Document) (uri : List ℕ) (version : ℤ) (text : Option (List ℕ)) : Type 0 where
  pub uri_is : string_bytes document.uri ≡ uri
  pub version_is : document.version ≡ version
  pub text_is : text_made document.text ≡ text

-- The document of this name is this one, and the others are as before.
pub record IsOnlyChange (name : List ℕ) (document : Option Document) (old new : Documents) : Type 0 where
  pub here : document_at new name ≡ document
  pub others : (other : List ℕ) → other ≢ name → document_at new other ≡ document_at old other

-- The documents are those that they were.
abbrev pub KeepsDocuments : (old new : Documents) → Type 0
KeepsDocuments old new = new.entries.entries ≡ old.entries.entries

-- A document is open with this URI, version and text, and the others are as before.
abbrev pub OpensDocument : (name uri : List ℕ) → ℤ → List ℕ → Documents → Documents → Type 0
OpensDocument name uri version text old new =
    (document : Document) × HoldsText document uri version (Some text) × IsOnlyChange name (Some document) old new

-- A document with this version and with the text that content changes make of the text before. It keeps its URI.
abbrev pub IsDocumentAfter : PositionEncoding → ℤ → List TextChange → (before after : Document) → Type 0
IsDocumentAfter encoding version changes before after = (text : Option (List ℕ)) × ChangesMake encoding (text_made before.text) changes text
    × HoldsText after (string_bytes before.uri) version text

-- Content changes of a document. Where it is not open, nothing changes.
abbrev pub ChangesOpen : Option Document → PositionEncoding → (name : List ℕ) → ℤ → List TextChange → Documents → Documents → Type 0
ChangesOpen None encoding name version changes old new = KeepsDocuments old new
ChangesOpen (Some before) encoding name version changes old new =
    (after : Document) × IsDocumentAfter encoding version changes before after × IsOnlyChange name (Some after) old new

abbrev pub ChangesDocument : PositionEncoding → (name : List ℕ) → ℤ → List TextChange → Documents → Documents → Type 0
ChangesDocument encoding name version changes old new = ChangesOpen (document_at old name) encoding name version changes old new
