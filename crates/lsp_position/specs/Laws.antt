-- Laws of positions and offsets.
use Rattle.std.specs.Prelude.{ℕ, ◌≡◌, ◌≤◌, false, List, length, slice_index}
use Rattle.std.specs.Char.Escape.{encode_utf16}
use Rattle.std.specs.List.{flat_map}
use Rattle.std.specs.Str.{IsUtf8, chars}
use Rattle.lsp_position.specs.Units.{continues_character, units}
use Rattle.lsp_position.specs.Positions.{editor_position}
use Rattle.lsp_position.specs.Offsets.{IsAtOrBefore, IsOffsetAt, IsEditorPlace}
use Rattle.lsp_position.specs.declared.units.PositionEncoding.{PositionEncoding}
use Rattle.lsp_position.specs.declared.units.PositionEncoding.TheVariants.{Utf8, Utf16}
use Rattle.lsp_position.specs.declared.positions.EditorPosition.{EditorPosition}

-- The position of a place names this place. A text of whole characters begins with one, and so does each that is UTF-8.
abbrev pub PlacesAreNamed : Type 0
PlacesAreNamed = (encoding : PositionEncoding) (text : List ℕ) (offset : ℕ) → continues_character (slice_index text 0) ≡ false
    → IsEditorPlace text offset → IsOffsetAt encoding text (editor_position encoding text offset) offset

-- Of two positions the later one has no earlier offset; so each position has one offset at most.
abbrev pub OffsetsKeepOrder : Type 0
OffsetsKeepOrder = (encoding : PositionEncoding) (text : List ℕ) (a b : EditorPosition) (low high : ℕ)
    → IsAtOrBefore a b → IsOffsetAt encoding text a low → IsOffsetAt encoding text b high → low ≤ high

-- The units of a text in UTF-8 are its bytes, and in UTF-16 those of its characters.
abbrev pub UnitsAreCounted : Type 0
UnitsAreCounted = (text : List ℕ) → IsUtf8 text
    → (units Utf8 text ≡ length text) × (units Utf16 text ≡ length (flat_map encode_utf16 (chars text)))
