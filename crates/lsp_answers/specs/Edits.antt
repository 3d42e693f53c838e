-- Edits as JSON.
use Rattle.std.specs.Prelude.{ℕ, ℤ, List, codes, Option, None, Some}
use Rattle.serde_json.specs.Data.{Data, Items, Members, null, array, number, string, object, member, no_members}
use Rattle.serde_json.specs.Find.{of_integer}
use Rattle.lsp_answers.specs.Places.{range_value}
use Rattle.lsp_answers.specs.declared.places.Between.{Between}

-- A range that becomes another text.
abbrev pub text_edit_value : Between → List ℕ → Data
text_edit_value range text = object (member (codes "newText") (string text) (member (codes "range") (range_value range) no_members))

-- The version of a document: `null` where it is not open.
abbrev pub version_value : Option ℤ → Data
version_value (Some version) = number (of_integer version)
version_value None = null

-- A document with its version.
abbrev pub versioned_document : List ℕ → Option ℤ → Data
versioned_document uri version = object (member (codes "uri") (string uri) (member (codes "version") (version_value version) no_members))

-- The edits of a document, with its version.
abbrev pub document_edit_value : List ℕ → Option ℤ → Items → Data
document_edit_value uri version edits =
    object (member (codes "edits") (array edits) (member (codes "textDocument") (versioned_document uri version) no_members))

-- The edits of documents.
abbrev pub document_changes_value : Items → Data
document_changes_value documents = object (member (codes "documentChanges") (array documents) no_members)

-- The edits of documents by their URIs, for clients that take no versions.
abbrev pub changes_value : Members → Data
changes_value edits = object (member (codes "changes") (object edits) no_members)

-- The parameters of a request that the client apply an edit.
abbrev pub apply_edit_params : List ℕ → Data → Data
apply_edit_params label edit = object (member (codes "edit") edit (member (codes "label") (string label) no_members))
