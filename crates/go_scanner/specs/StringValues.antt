-- The values of string literals.
use Rattle.std.specs.Prelude.{◌≡◌, ◌⊎◌, ℕ, true, false, ◌==◌, List, [], ◌∷◌, if◌then◌else◌, filter, flat_map}
use Rattle.std.specs.Char.{is_digit, encode_utf8}
use Rattle.go_scanner.specs.Integers.{number_in}
use Rattle.go_scanner.specs.Strings.{is_plain_escape, IsString, IsRawString}

-- the byte that an escape of one letter stands for: a control character, or a backslash or quote itself
abbrev pub plain_escape_value : ℕ → ℕ
plain_escape_value b = if b == 97 then 7 else (if b == 98 then 8 else
    (if b == 102 then 12 else (if b == 110 then 10 else (if b == 114 then 13 else (if b == 116 then 9 else (if b == 118 then 11 else b))))))

-- the value of an escape, given without its backslash: octal digits and `x` give a byte, `u` and `U` the UTF-8 of a character
abbrev pub escape_value : List ℕ → List ℕ
escape_value [] = []
escape_value (b ∷ rest) = if is_plain_escape b then plain_escape_value b ∷ []
    else (if is_digit b 8 then number_in 8 (b ∷ rest) ∷ [] else (if b == 120 then number_in 16 rest ∷ [] else encode_utf8 (number_in 16 rest)))

-- the value of a string part: a plain byte, or an escape with its backslash
abbrev pub part_value : List ℕ → List ℕ
part_value [] = []
part_value (b ∷ []) = b ∷ []
part_value (b ∷ c ∷ rest) = escape_value (c ∷ rest)

-- the value of a raw string's body: its bytes without carriage returns
abbrev pub raw_value : List ℕ → List ℕ
raw_value body = filter (λ b. if b == 13 then false else true) body

-- the bytes are a string literal, interpreted or raw
abbrev pub IsStringPiece : List ℕ → Type 0
IsStringPiece bytes = IsString bytes ⊎ IsRawString bytes

-- the value of the interpreted string `bytes` is that of its parts, in order
abbrev pub HasPartsValue : List ℕ → List ℕ → Type 0
HasPartsValue bytes value = (s : IsString bytes) × (value ≡ flat_map part_value s.parts)

-- the value of the raw string `bytes` is that of its body
abbrev pub HasRawValue : List ℕ → List ℕ → Type 0
HasRawValue bytes value = (s : IsRawString bytes) × (value ≡ raw_value s.body)

-- `value` is the value of the string literal `bytes`
abbrev pub HasStringValue : List ℕ → List ℕ → Type 0
HasStringValue bytes value = HasPartsValue bytes value ⊎ HasRawValue bytes value
