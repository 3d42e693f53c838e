-- Ranges of bytes as ranges of positions, and the identifiers of texts.
use Rattle.std.specs.Prelude.{ℕ, ◌+◌, ◌==◌, ◌||◌, Bool, List, drop, length, min, nat_le, take}
use Rattle.std.specs.Char.{is_ascii_alphanumeric}
use Rattle.std.specs.List.{prefix_len}
use Rattle.lsp_position.specs.Positions.{editor_position}
use Rattle.lsp_position.specs.declared.units.PositionEncoding.{PositionEncoding}
use Rattle.lsp_answers.specs.declared.places.Between.{Between}

-- The range between two byte offsets. An offset past the end of the text is its end.
abbrev pub between : PositionEncoding → List ℕ → (low high : ℕ) → Between
between encoding text low high = record {
  start = editor_position encoding text (min low (length text));
  end = editor_position encoding text (min high (length text));
}

-- Whether a byte can be one of an identifier: a letter, a digit, `_`, or a byte of a character outside ASCII.
abbrev pub is_identifier_byte : ℕ → Bool
is_identifier_byte byte = is_ascii_alphanumeric byte || (byte == 95 || nat_le 128 byte)

-- How many bytes of an identifier a text begins with.
abbrev pub identifier_len : List ℕ → ℕ
identifier_len text = prefix_len is_identifier_byte text

-- The bytes of an identifier with which a text begins.
abbrev identifier_front : List ℕ → List ℕ
identifier_front text = take (identifier_len text) text

-- The bytes of the identifier that begins at an offset. An offset past the end of the text is its end.
abbrev pub identifier_at : List ℕ → ℕ → List ℕ
identifier_at text offset = identifier_front (drop (min offset (length text)) text)

abbrev range_from : PositionEncoding → List ℕ → ℕ → Between
range_from encoding text begin = between encoding text begin (begin + identifier_len (drop begin text))

-- The range of the identifier that begins at an offset.
abbrev pub identifier_range : PositionEncoding → List ℕ → ℕ → Between
identifier_range encoding text offset = range_from encoding text (min offset (length text))
