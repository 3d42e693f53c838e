-- The path of a module in the text of its file `go.mod`.
use Rattle.std.specs.Prelude.{◌-◌, ◌+◌, ◌==◌, ◌||◌, ◌&&◌, ℕ, Bool, List, [], ◌∷◌}
use Rattle.std.specs.Prelude.{Option, None, Some, codes, drop, if◌then◌else◌, length, nat_eq, nat_lt, not, take}
use Rattle.std.specs.List.{prefix_len, slice_index_or, starts_with, suffix_len}
use Rattle.tool_text.specs.Parts.{parts}

-- Whether the byte is a blank, a tab or a carriage return.
abbrev pub is_padding : ℕ → Bool
is_padding byte = byte == 32 || byte == 9 || byte == 13

-- The text without blanks at its begin.
abbrev pub without_front : List ℕ → List ℕ
without_front text = drop (prefix_len is_padding text) text

-- The text without blanks at its end.
abbrev pub without_back : List ℕ → List ℕ
without_back text = take (length text - suffix_len is_padding text) text

-- The text without blanks at its begin and its end.
abbrev pub trimmed : List ℕ → List ℕ
trimmed text = without_back (without_front text)

-- Where a comment `//` begins in a line, or where the line ends.
abbrev pub comment_start : List ℕ → ℕ
comment_start [] = 0
comment_start (byte ∷ line) = if starts_with nat_eq (byte ∷ line) (47 ∷ 47 ∷ []) then 0 else 1 + comment_start line

-- Whether the text begins and ends with this quote, and these are two.
abbrev pub is_quoted : List ℕ → ℕ → Bool
is_quoted text quote = not (nat_lt (length text) 2) && (slice_index_or text 0 0 == quote && slice_index_or text (length text - 1) 0 == quote)

-- The text without the quotes round it, if it has such.
abbrev pub unquoted : List ℕ → List ℕ
unquoted text = if is_quoted text 34 || is_quoted text 96 then take (length text - 2) (drop 1 text) else text

-- The path that follows the word `module`, with a blank between; none where there is no blank or no path.
abbrev pub path_behind : List ℕ → Option (List ℕ)
path_behind rest =
    let path = trimmed rest in
    if length path == 0 || length path == length rest then None else Some (unquoted path)

-- The path of the module that a line without its comment names.
abbrev pub module_of_code : List ℕ → Option (List ℕ)
module_of_code code = if starts_with nat_eq code (codes "module") then path_behind (drop 6 code) else None

-- The path of the module that a line names.
abbrev pub module_in : List ℕ → Option (List ℕ)
module_in line = module_of_code (trimmed (take (comment_start line) line))

-- The first of two that is there.
abbrev pub first_of_two : Option (List ℕ) → Option (List ℕ) → Option (List ℕ)
first_of_two None other = other
first_of_two (Some path) other = Some path

-- What the first of these lines that names a module names.
abbrev pub first_module : List (List ℕ) → Option (List ℕ)
first_module [] = None
first_module (line ∷ lines) = first_of_two (module_in line) (first_module lines)

-- The path of the module that the first line that names one names.
abbrev pub module_path : List ℕ → Option (List ℕ)
module_path text = first_module (parts 10 text)
