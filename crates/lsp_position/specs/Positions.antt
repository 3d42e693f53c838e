-- Lines and columns of byte offsets.
use Rattle.std.specs.Prelude.{ℕ, zero, suc, ◌+◌, ◌==◌, ◌&&◌, ◌||◌, not, Bool, List, if◌then◌else◌, slice_index}
use Rattle.std.specs.List.{slice_range}
use Rattle.lsp_position.specs.Units.{units}
use Rattle.lsp_position.specs.declared.units.PositionEncoding.{PositionEncoding}
use Rattle.lsp_position.specs.declared.positions.EditorPosition.{EditorPosition}

-- Whether a byte ends a line: a line feed, or a carriage return with no line feed behind it.
abbrev pub is_line_end : List ℕ → ℕ → Bool
is_line_end text number = slice_index text number == 10 || (slice_index text number == 13 && not (slice_index text (number + 1) == 10))

-- How many of the bytes before an offset end a line.
abbrev pub ends_before : List ℕ → ℕ → ℕ
ends_before text zero = 0
ends_before text (suc number) = if is_line_end text number then ends_before text number + 1 else ends_before text number

-- Where the line of an offset begins: behind the last byte before it that ends a line, or with the text.
abbrev pub line_begin : List ℕ → ℕ → ℕ
line_begin text zero = 0
line_begin text (suc number) = if is_line_end text number then suc number else line_begin text number

-- The position of a byte offset: how many lines end before it, and how many code units its line has before it.
abbrev pub editor_position : PositionEncoding → List ℕ → ℕ → EditorPosition
editor_position encoding text offset = record {
  line = ends_before text offset;
  character = units encoding (slice_range text (line_begin text offset) offset);
}
