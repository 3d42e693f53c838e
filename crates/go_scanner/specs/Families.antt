-- The families of pieces, by their first byte.
use Rattle.std.specs.Prelude.{◌≡◌, ◌⊎◌, ℕ, ◌<◌, Bool, false, ◌==◌, ◌||◌, ◌&&◌, nat_le, if◌then◌else◌, List, length, slice_index, Option, None, Some, Result}
use Rattle.std.specs.Prelude.{MatchResult}
use Rattle.bstr.specs.Find.{OccursAt}
use Rattle.bstr.specs.Utf8.{decoded}
use Rattle.go_scanner.specs.declared.piece.Class.{Class}
use Rattle.go_scanner.specs.declared.refusal.TextFault.{TextFault}
use Rattle.go_scanner.specs.Characters.{is_letter}
use Rattle.go_scanner.specs.Pieces.{Stands, Breaks}
use Rattle.std.specs.Char.{is_digit}
use Rattle.go_scanner.specs.Trivia.{is_blank, line_opening, comment_opening}

-- a word may begin with this byte: an ASCII letter, `_`, or the first byte of a character beyond ASCII
abbrev pub starts_word : ℕ → Bool
starts_word b = b == 95 || ((nat_le 97 b && nat_le b 122) || ((nat_le 65 b && nat_le b 90) || nat_le 128 b))

-- the family of a first byte: blanks 1, newlines 2, `/` 3, words 4, numbers 5, strings 6, raw strings 7, other operators 8
abbrev pub family_of : ℕ → ℕ
family_of b = if is_blank b then 1 else (if b == 10 then 2 else
    (if b == 47 then 3 else (if starts_word b then 4 else (if is_digit b 10 then 5 else (if b == 34 then 6 else (if b == 96 then 7 else 8))))))

-- a decoded character, if there is one, is a letter
abbrev pub letter_at : Option ℕ → Bool
letter_at None = false
letter_at (Some c) = is_letter c

-- the first character of the text is a letter
abbrev pub begins_with_letter : List ℕ → Bool
begins_with_letter text = letter_at (decoded text).char

-- the text begins with a byte of family 3 or 8, and with no comment
pub record MayBeOperator (text : List ℕ) : Type 0 where
  pub some : 0 < length text
  pub family : (family_of (slice_index text 0) ≡ 3) ⊎ (family_of (slice_index text 0) ≡ 8)
  pub no_line : OccursAt text line_opening 0 → ⊥
  pub no_comment : OccursAt text comment_opening 0 → ⊥

-- `result` is the class and length of the piece at the start of a text, or the rule that is broken there
abbrev pub IsFront : List ℕ → Result (Class × ℕ) TextFault → Type 0
IsFront text result = MatchResult result (λ p. Stands text p.0 p.1) (λ f. Breaks f.kind f.offset text)
