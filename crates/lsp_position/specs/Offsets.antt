-- Byte offsets of lines and columns.
use Rattle.std.specs.Prelude.{ℕ, ◌≡◌, ◌≤◌, ◌<◌, ◌-◌, ◌==◌, ◌&&◌, ◌⊎◌, Bool, false, List, length, nat_lt, slice_index}
use Rattle.lsp_position.specs.Units.{continues_character}
use Rattle.lsp_position.specs.Positions.{editor_position}
use Rattle.lsp_position.specs.declared.units.PositionEncoding.{PositionEncoding}
use Rattle.lsp_position.specs.declared.positions.EditorPosition.{EditorPosition}

-- Whether an offset stands between a carriage return and the line feed of the same line end.
abbrev pub splits_line_end : List ℕ → ℕ → Bool
splits_line_end text offset = nat_lt 0 offset && (slice_index text (offset - 1) == 13 && slice_index text offset == 10)

-- An offset that a position can name: the begin of the text, or one that splits neither a character nor a line end.
abbrev pub IsEditorPlace : List ℕ → ℕ → Type 0
IsEditorPlace text offset = (offset ≤ length text)
    × ((offset ≡ 0) ⊎ ((continues_character (slice_index text offset) ≡ false) × (splits_line_end text offset ≡ false)))

-- The number where it is a place, and else what was found before.
abbrev pub IsLastPlace : List ℕ → (number found last : ℕ) → Type 0
IsLastPlace text number found last = ((last ≡ number) × IsEditorPlace text number) ⊎ ((last ≡ found) × (IsEditorPlace text number → ⊥))

-- The first position is the second, or lies before it.
abbrev pub IsAtOrBefore : EditorPosition → EditorPosition → Type 0
IsAtOrBefore a b = (a.line < b.line) ⊎ ((a.line ≡ b.line) × (a.character ≤ b.character))

-- The offset of a position: the last place that does not lie behind it. So a column past the end of its line is the end of the line. One
-- inside a character is the begin of the character. A line past the last one is the end of the text.
pub record IsOffsetAt (encoding : PositionEncoding) (text : List ℕ) (asked : EditorPosition) (offset : ℕ) : Type 0 where
  pub place : IsEditorPlace text offset
  pub reached : IsAtOrBefore (editor_position encoding text offset) asked
  pub last : (other : ℕ) → IsEditorPlace text other → IsAtOrBefore (editor_position encoding text other) asked → other ≤ offset
