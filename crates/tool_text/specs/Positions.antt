-- Lines and columns of byte offsets.
use Rattle.std.specs.Prelude.{◌≡◌, ◌≤◌, ◌+◌, ◌==◌, ℕ, Bool, List, count_by, length, not, take}
use Rattle.std.specs.List.{suffix_len}
use Rattle.tool_text.specs.declared.positions.LinePosition.{LinePosition}

-- Whether the byte is a line feed.
abbrev pub is_line_feed : ℕ → Bool
is_line_feed byte = byte == 10

-- Whether the byte is no line feed.
abbrev pub is_inside_line : ℕ → Bool
is_inside_line byte = not (byte == 10)

-- The position of a byte offset: one more than the line feeds before it, and one more than the bytes before it in its line.
abbrev pub line_position : List ℕ → ℕ → LinePosition
line_position text offset = record {
  line = count_by (λ byte. byte == 10) (take offset text) + 1;
  column = suffix_len is_inside_line (take offset text) + 1;
}

-- The offset of a byte, or the end of the text, has this position.
abbrev pub IsOffsetOf : List ℕ → LinePosition → ℕ → Type 0
IsOffsetOf text asked offset = (offset ≤ length text) × (line_position text offset ≡ asked)

-- No offset in the text has this position.
abbrev pub HasNoOffset : List ℕ → LinePosition → Type 0
HasNoOffset text asked = (offset : ℕ) → offset ≤ length text → line_position text offset ≡ asked → ⊥
