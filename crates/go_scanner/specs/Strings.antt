-- String literals: their parts, escapes and forms, and how one can be wrong.
use Rattle.std.specs.Prelude.{◌≡◌, ◌≢◌, ℕ, ◌≤◌, drop, Bool, true, false, ◌==◌, ◌&&◌, ◌||◌, nat_lt, nat_le, List, [], ◌∷◌, ◌++◌, length, slice_index}
use Rattle.std.specs.Prelude.{EachIndex, if◌then◌else◌, ◌+◌}
use Rattle.std.specs.List.{list_all, list_any, concat}
use Rattle.std.specs.Char.{is_digit}
use Rattle.go_scanner.specs.Integers.{number_in}

-- `c` is a character: no surrogate, and at most 10FFFF
abbrev pub is_character : ℕ → Bool
is_character c = nat_lt c 0xD800 || (nat_lt 0xDFFF c && nat_lt c 0x110000)

-- the bytes are exactly n digits of the base
abbrev pub are_digits : ℕ → ℕ → List ℕ → Bool
are_digits n base bytes = length bytes == n && list_all (λ b. is_digit b base) bytes

-- the byte is an escape by itself: one of a b f n r t v \ "
abbrev pub is_plain_escape : ℕ → Bool
is_plain_escape b = list_any (λ x. b == x) (97 ∷ 98 ∷ 102 ∷ 110 ∷ 114 ∷ 116 ∷ 118 ∷ 92 ∷ 34 ∷ [])

-- the bytes may follow a backslash
abbrev pub is_escape : List ℕ → Bool
is_escape [] = false
is_escape (b ∷ rest) =
    (is_plain_escape b && length rest == 0)
    || ((are_digits 3 8 (b ∷ rest) && nat_le (number_in 8 (b ∷ rest)) 255)
    || ((b == 120 && are_digits 2 16 rest)
    || ((b == 117 && (are_digits 4 16 rest && is_character (number_in 16 rest)))
    || (b == 85 && (are_digits 8 16 rest && is_character (number_in 16 rest))))))

-- the byte stands for itself between quotes: no quote, backslash or newline
abbrev pub is_plain : ℕ → Bool
is_plain b = if b == 34 || (b == 92 || b == 10) then false else true

-- the bytes are one part of an interpreted string: a plain byte, or a backslash and an escape
abbrev pub is_string_part : List ℕ → Bool
is_string_part [] = false
is_string_part (b ∷ []) = is_plain b
is_string_part (b ∷ c ∷ rest) = b == 92 && is_escape (c ∷ rest)

-- each is one part of an interpreted string
abbrev pub are_string_parts : List (List ℕ) → Bool
are_string_parts parts = list_all is_string_part parts

-- the bytes are an interpreted string: parts between quotes
pub record IsString (bytes : List ℕ) : Type 0 where
  pub parts : List (List ℕ)
  pub each : are_string_parts parts ≡ true
  pub spelled : bytes ≡ 34 ∷ (concat parts ++ (34 ∷ []))

-- the bytes are a raw string: any bytes but back quotes, between back quotes
pub record IsRawString (bytes : List ℕ) : Type 0 where
  pub body : List ℕ
  pub plain : EachIndex body (λ k. slice_index body k ≢ 96)
  pub spelled : bytes ≡ 96 ∷ (body ++ (96 ∷ []))

-- the bytes begin with no string part
abbrev pub StopsString : List ℕ → Type 0
StopsString rest = (part more : List ℕ) → is_string_part part ≡ true → rest ≢ part ++ more

-- the text begins with an opening quote and parts, and neither a part nor the closing quote follows; the fault is at the backslash of a bad
-- escape, or else at the opening quote
pub record IsBadString (text : List ℕ) (place : ℕ) : Type 0 where
  pub parts : List (List ℕ)
  pub rest : List ℕ
  pub each : are_string_parts parts ≡ true
  pub spelled : text ≡ 34 ∷ (concat parts ++ rest)
  pub stops : StopsString rest
  pub unclosed : slice_index rest 0 ≢ 34
  pub place_is : place ≡ (if slice_index rest 0 == 92 then 1 + length (concat parts) else 0)

-- the text begins with a back quote, and has no other
pub record IsOpenRawString (text : List ℕ) : Type 0 where
  pub rest : List ℕ
  pub spelled : text ≡ 96 ∷ rest
  pub unclosed : EachIndex rest (λ k. slice_index rest k ≢ 96)

-- the first n bytes are an opening quote and parts, and no part follows
pub record IsStringRun (text : List ℕ) (n : ℕ) : Type 0 where
  pub fits : n ≤ length text
  pub parts : List (List ℕ)
  pub each : are_string_parts parts ≡ true
  pub spelled : text ≡ 34 ∷ (concat parts ++ drop n text)
  pub long : n ≡ 1 + length (concat parts)
  pub stops : StopsString (drop n text)
