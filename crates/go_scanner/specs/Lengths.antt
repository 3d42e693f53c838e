-- The length of the longest digit, number, escape or string part at the start of some bytes: 0 where there is none.
use Rattle.std.specs.Prelude.{ℕ, suc, Bool, ◌==◌, ◌&&◌, nat_lt, nat_le, take, List, [], ◌∷◌, if◌then◌else◌}
use Rattle.std.specs.Char.{is_digit}
use Rattle.go_scanner.specs.Integers.{prefix_base, number_in}
use Rattle.go_scanner.specs.Strings.{are_digits, is_character, is_plain_escape, is_plain}

-- the length of a digit of the base, with the `_` that may precede it
unfoldable pub digit_len : ℕ → List ℕ → ℕ
digit_len base [] = 0
digit_len base (b ∷ []) = if is_digit b base then 1 else 0
digit_len base (b ∷ c ∷ rest) = if is_digit b base then 1 else (if b == 95 && is_digit c base then 2 else 0)

-- the length of a run of such digits
unfoldable pub digits_len : ℕ → List ℕ → ℕ
digits_len base [] = 0
digits_len base (b ∷ []) = if is_digit b base then 1 else 0
digits_len base (b ∷ c ∷ rest) = if is_digit b base then suc (digits_len base (c ∷ rest)) else
    (if b == 95 && is_digit c base then suc (suc (digits_len base rest)) else 0)

-- the length of the letter of a base with its digits, or of octal digits
unfoldable pub after_zero_len : List ℕ → ℕ
after_zero_len [] = 0
after_zero_len (b ∷ rest) = if nat_lt 0 (prefix_base b) then
    (if nat_lt 0 (digits_len (prefix_base b) rest) then suc (digits_len (prefix_base b) rest) else 0) else digits_len 8 (b ∷ rest)

-- the length of an integer literal
unfoldable pub integer_len : List ℕ → ℕ
integer_len [] = 0
integer_len (b ∷ rest) = if b == 48 then suc (after_zero_len rest) else (if is_digit b 10 then suc (digits_len 10 rest) else 0)

-- the bytes begin with n digits of the base
abbrev pub digits_at : ℕ → ℕ → List ℕ → Bool
digits_at n base bytes = are_digits n base (take n bytes)

-- the bytes begin with three octal digits of at most 255
abbrev pub octal_at : List ℕ → Bool
octal_at bytes = digits_at 3 8 bytes && nat_le (number_in 8 (take 3 bytes)) 255

-- the bytes begin with n hexadecimal digits that spell a character
abbrev pub character_at : ℕ → List ℕ → Bool
character_at n bytes = digits_at n 16 bytes && is_character (number_in 16 (take n bytes))

-- the length of an escape, given without its backslash
unfoldable pub escape_len : List ℕ → ℕ
escape_len [] = 0
escape_len (b ∷ rest) = if is_plain_escape b then 1 else
    (if octal_at (b ∷ rest) then 3 else
    (if b == 120 && digits_at 2 16 rest then 3 else (if b == 117 && character_at 4 rest then 5 else (if b == 85 && character_at 8 rest then 9 else 0))))

-- the length of a string part: a plain byte, or a backslash and an escape
unfoldable pub part_len : List ℕ → ℕ
part_len [] = 0
part_len (b ∷ rest) = if is_plain b then 1 else (if b == 92 then (if nat_lt 0 (escape_len rest) then suc (escape_len rest) else 0) else 0)
