-- What notifications tell of documents.
use Rattle.std.specs.Prelude.{ℕ, ℤ, List, [], ◌∷◌, codes, map, Option, None, Some, option_and_then, option_map}
use Rattle.std.specs.Global.{Vec}
use Rattle.serde_json.specs.Data.{Data, Items, item, no_items}
use Rattle.serde_json.specs.Find.{as_array, as_i64, as_number}
use Rattle.lsp_documents.specs.declared.changes.ChangedPart.{ChangedPart}
use Rattle.lsp_documents.specs.declared.changes.TextChange.{TextChange}
use Rattle.lsp_documents.specs.declared.changes.TextChange.TheVariants as change
use Rattle.lsp_position.specs.declared.positions.EditorPosition.{EditorPosition}
use Rattle.lsp_params.specs.Asked.{both_found}
use Rattle.lsp_params.specs.Members.{position_named, text_at, json_member}
use Rattle.lsp_params.specs.declared.changed.OpenedDocument.{OpenedDocument}

-- The URI, version and text of a document.
abbrev pub DocumentView : Type 0
DocumentView = (List ℕ × ℤ) × List ℕ

abbrev pub document_view : OpenedDocument → DocumentView
document_view document = ((document.uri.now, document.version), document.text.now)

-- A member that is an integer.
abbrev pub integer_at : List ℕ → Data → Option ℤ
integer_at name value = option_and_then as_i64 (option_and_then as_number (json_member name value))

abbrev pub opened : Data → Option DocumentView
opened document = both_found (both_found (text_at (codes "uri") document) (integer_at (codes "version") document)) (text_at (codes "text") document)

-- The document that parameters open.
abbrev pub opened_document : Data → Option DocumentView
opened_document params = option_and_then opened (json_member (codes "textDocument") params)

-- The version of the document that parameters name.
abbrev pub version_of_document : Data → Option ℤ
version_of_document params = option_and_then (integer_at (codes "version")) (json_member (codes "textDocument") params)

-- A content change, as data: the positions of its part, if it has one, and its text.
abbrev pub ChangeView : Type 0
ChangeView = Option (EditorPosition × EditorPosition) × List ℕ

abbrev pub part_view : ChangedPart → ChangeView
part_view part = (Some (part.start, part.end), part.text.now)

abbrev pub change_view : TextChange → ChangeView
change_view (change.Whole text) = (None, text.now)
change_view (change.Part part) = part_view part

-- The part that a range and a text change.
abbrev pub part_in : Data → List ℕ → Option ChangeView
part_in range text = option_map (λ ends. (Some ends, text)) (both_found (position_named (codes "start") range) (position_named (codes "end") range))

abbrev in_range : Option Data → List ℕ → Option ChangeView
in_range (Some range) text = part_in range text
in_range None text = Some (None, text)

-- A content change: of a part, where it has a range, and else of the whole text.
abbrev pub change_in : Data → Option ChangeView
change_in value = option_and_then (in_range (json_member (codes "range") value)) (text_at (codes "text") value)

-- Content changes as data.
abbrev pub changes_view : List TextChange → List ChangeView
changes_view = map change_view

abbrev pub changes_listed : Option (Vec TextChange) → Option (List ChangeView)
changes_listed (Some changes) = Some (changes_view changes.items)
changes_listed None = None

-- The content changes of a list; none where one of its items is none.
abbrev pub changes_of : Items → Option (List ChangeView)
changes_of no_items = Some []
changes_of (item value items) = option_and_then (λ first. option_map (λ others. first ∷ others) (changes_of items)) (change_in value)

-- The content changes that parameters give.
abbrev pub changes_in : Data → Option (List ChangeView)
changes_in params = option_and_then changes_of (option_and_then as_array (json_member (codes "contentChanges") params))
