-- The lines of headers.
use Rattle.std.specs.Prelude.{ℕ, ◌≡◌, ◌≢◌, ◌<◌, ◌^◌, ◌+◌, ◌-◌, ◌==◌, List, []}
use Rattle.std.specs.Prelude.{codes, drop, if◌then◌else◌, length, map, slice_index, take, Option, Some, option_map}
use Rattle.std.specs.Char.{to_ascii_lowercase}
use Rattle.std.specs.List.{position}
use Rattle.std.specs.Str.{IsTrimAscii}
use Rattle.std.specs.Str.Parse.{IsNumeral, digits_value}
use Rattle.lsp_message.specs.declared.header.HeaderField.{HeaderField}
use Rattle.lsp_message.specs.declared.header.HeaderField.TheVariants.{End, Length, NoLength, Other}

-- The line without a carriage return at its end.
abbrev pub without_return : List ℕ → List ℕ
without_return line = if slice_index line (length line - 1) == 13 then take (length line - 1) line else line

-- What stands before and behind the first colon, if there is one.
abbrev pub field_of : List ℕ → Option (List ℕ × List ℕ)
field_of line = option_map (λ at. (take at line, drop (at + 1) line)) (position (λ byte. byte == 58) line)

-- The name is that of the field with the length of the body, whatever the case of its letters.
abbrev pub IsLengthName : List ℕ → Type 0
IsLengthName name = map to_ascii_lowercase name ≡ map to_ascii_lowercase (codes "content-length")

-- The line is the field with the length of the body, and this is its value.
abbrev pub IsLengthField : List ℕ → List ℕ → Type 0
IsLengthField line value = (name : List ℕ) × (field_of line ≡ Some (name, value)) × IsLengthName name

-- The text is digits alone, which write this number below 2^64.
abbrev pub IsSizeText : List ℕ → ℕ → Type 0
IsSizeText text number = IsNumeral 10 text × (number ≡ digits_value 10 text) × (number < 2 ^ 64)

abbrev pub HasNoSize : List ℕ → Type 0
HasNoSize text = (number : ℕ) → IsSizeText text number → ⊥

-- The value of the field with the length, without blanks around it, is a size, or none.
abbrev pub SaysSize : List ℕ → HeaderField → Type 0
SaysSize value (Length number) = (digits : List ℕ) × IsTrimAscii value digits × IsSizeText digits number
SaysSize value NoLength = (digits : List ℕ) × IsTrimAscii value digits × HasNoSize digits
SaysSize value End = ⊥
SaysSize value Other = ⊥

-- What a line of a header says.
abbrev pub HeaderSays : List ℕ → HeaderField → Type 0
HeaderSays line End = without_return line ≡ []
HeaderSays line Other = (without_return line ≢ []) × ((value : List ℕ) → IsLengthField (without_return line) value → ⊥)
HeaderSays line said = (without_return line ≢ []) × ((value : List ℕ) × IsLengthField (without_return line) value × SaysSize value said)
