-- What requests ask for.
use Rattle.std.specs.Prelude.{ℕ, Bool, false, List, codes, Option, None, Some, option_and_then, option_map, unwrap_or}
use Rattle.serde_json.specs.Data.{Data}
use Rattle.lsp_params.specs.Members.{is_true_at, position_named, text_at, json_member}
use Rattle.lsp_params.specs.declared.asked.AskedAt.{AskedAt}
use Rattle.lsp_params.specs.declared.asked.AskedName.{AskedName}
use Rattle.lsp_position.specs.declared.positions.EditorPosition.{EditorPosition}

-- A place: the URI of a document and a position.
abbrev pub PlaceView : Type 0
PlaceView = List ℕ × EditorPosition

abbrev pub place_view : AskedAt → PlaceView
place_view at = (at.uri.now, at.position)

abbrev pub named_view : AskedName → PlaceView × List ℕ
named_view asked = (place_view asked.at, asked.name.now)

-- Both, where there are both_found.
abbrev pub both_found : {A B : Type 0} → Option A → Option B → Option (A × B)
both_found (Some a) (Some b) = Some (a, b)
both_found (Some a) None = None
both_found None b = None

-- The URI of the document that parameters name.
abbrev pub uri_of_document : Data → Option (List ℕ)
uri_of_document params = option_and_then (text_at (codes "uri")) (json_member (codes "textDocument") params)

-- The place that parameters name.
abbrev pub asked_at : Data → Option PlaceView
asked_at params = both_found (uri_of_document params) (position_named (codes "position") params)

-- The place and the new name that the parameters of a rename give.
abbrev pub asked_name : Data → Option (PlaceView × List ℕ)
asked_name params = both_found (asked_at params) (text_at (codes "newName") params)

-- Whether references are to include the declaration.
abbrev pub includes_declaration : Data → Bool
includes_declaration params = unwrap_or (option_map (is_true_at (codes "includeDeclaration")) (json_member (codes "context") params)) false

-- The command that is to be executed.
abbrev pub command_in : Data → Option (List ℕ)
command_in params = text_at (codes "command") params
