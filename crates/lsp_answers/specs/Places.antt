-- Positions, ranges and places as JSON.
use Rattle.std.specs.Prelude.{ℕ, List, codes}
use Rattle.serde_json.specs.Data.{Data, number, string, object, member, no_members, unsigned}
use Rattle.lsp_position.specs.declared.positions.EditorPosition.{EditorPosition}
use Rattle.lsp_answers.specs.declared.places.Between.{Between}

-- A position.
abbrev pub position_value : EditorPosition → Data
position_value at =
    object (member (codes "character") (number (unsigned at.character)) (member (codes "line") (number (unsigned at.line)) no_members))

-- A range.
abbrev pub range_value : Between → Data
range_value range =
    object (member (codes "end") (position_value range.end) (member (codes "start") (position_value range.start) no_members))

-- A range in a document.
abbrev pub location_value : List ℕ → Between → Data
location_value uri range = object (member (codes "range") (range_value range) (member (codes "uri") (string uri) no_members))

-- A range that is shown beside others of the same declaration.
abbrev pub highlight_value : Between → Data
highlight_value range = object (member (codes "range") (range_value range) no_members)

-- What is to be renamed: its range and its text.
abbrev pub prepared_value : Between → List ℕ → Data
prepared_value range name = object (member (codes "placeholder") (string name) (member (codes "range") (range_value range) no_members))
