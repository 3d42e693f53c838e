-- Sentences about places in files.
use Rattle.std.specs.Prelude.{◌==◌, ℕ, List, [], ◌∷◌, ◌++◌, codes, decimal, drop, nat_lt, take, if◌then◌else◌, ◌&&◌, not}
use Rattle.std.specs.List.{after_last, before_first, flat_map}
use Rattle.tool_text.specs.Positions.{is_line_feed, line_position}
use Rattle.tool_text.specs.declared.positions.LinePosition.{LinePosition}

-- A position in a file: `path:line:column`.
abbrev pub located : List ℕ → LinePosition → List ℕ
located path at = path ++ 58 ∷ (decimal at.line ++ 58 ∷ decimal at.column)

-- What stands below a byte before the caret: a tab below a tab, nothing below a byte that continues a character of UTF-8, and else a blank.
abbrev pub blank_of : ℕ → List ℕ
blank_of byte = if byte == 9 then 9 ∷ [] else (if not (nat_lt byte 128) && nat_lt byte 192 then [] else 32 ∷ [])

-- What stands below these bytes before the caret.
abbrev pub blanks : List ℕ → List ℕ
blanks = flat_map blank_of

-- The line of an offset, and below it a line with a caret below the byte at the offset.
abbrev pub line_shown : List ℕ → ℕ → List ℕ
line_shown source offset =
    let before = after_last is_line_feed (take offset source) in
    before ++ (before_first is_line_feed (drop offset source) ++ (10 ∷ (blanks before ++ (94 ∷ 10 ∷ []))))

-- A sentence about an offset in a file, with its line.
abbrev pub told_text : List ℕ → List ℕ → ℕ → List ℕ → List ℕ
told_text path source offset message = located path (line_position source offset) ++ (codes ": " ++ (message ++ (10 ∷ line_shown source offset)))
