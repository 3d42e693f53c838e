-- Laws of positions and of journals.
use Rattle.std.specs.Prelude.{◌≡◌, ◌≤◌, ℕ, List, [], ◌∷◌, ◌++◌, length}
use Rattle.std.specs.Borrow.{Bor}
use Rattle.std.specs.List.{All}
use Rattle.tool_text.specs.Journal.{bare_texts, lines_text}
use Rattle.tool_text.specs.Parts.{HasNoByte, parts}
use Rattle.tool_text.specs.Positions.{line_position}

-- Two offsets of a text that have the same position are the same.
abbrev pub PositionsTellOffsets : Type 0
PositionsTellOffsets = (text : List ℕ) (a b : ℕ) → a ≤ length text → b ≤ length text → line_position text a ≡ line_position text b → a ≡ b

-- The lines of a journal are read as they were written: the parts of their text are these lines, and an empty part behind the last.
abbrev pub LinesAreRead : Type 0
LinesAreRead = (lines : List (Bor (List ℕ))) → All (HasNoByte 10) (bare_texts lines) → parts 10 (lines_text lines) ≡ bare_texts lines ++ [] ∷ []
