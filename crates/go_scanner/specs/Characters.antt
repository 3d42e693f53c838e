-- The characters of which names are made. A character is its code point; its category is that of the crate `unicode`.
use Rattle.std.specs.Prelude.{ℕ, Bool, false, ◌==◌, ◌||◌, ◌&&◌, nat_le, nat_lt, if◌then◌else◌}
use Rattle.std.specs.Char.{is_digit}
use Rattle.unicode.specs.GeneralCategory.{general_category, general_category_eq}
use Rattle.unicode.specs.GeneralCategoryGroup.{in_group}
use Rattle.ucd_category.specs.declared.GeneralCategory.TheVariants.{DecimalNumber}
use Rattle.ucd_category.specs.declared.GeneralCategoryGroup.TheVariants.{Letter}

-- `c` is a letter: of category Lu, Ll, Lt, Lm or Lo, or `_`
unfoldable pub is_letter : ℕ → Bool
is_letter c = c == 95 || in_group Letter (general_category c)

-- `c` is a decimal digit: of category Nd
unfoldable pub is_decimal_number : ℕ → Bool
is_decimal_number c = general_category_eq (general_category c) DecimalNumber

-- `b` is an ASCII letter or digit, or `_`
abbrev pub is_ascii_word : ℕ → Bool
is_ascii_word b = is_digit b 36 || b == 95

-- `b` is an ASCII letter or `_`
abbrev pub is_ascii_letter : ℕ → Bool
is_ascii_letter b = b == 95 || ((nat_le 97 b && nat_le b 122) || (nat_le 65 b && nat_le b 90))

-- `b` is a character of ASCII that no name has
abbrev pub is_ascii_mark : ℕ → Bool
is_ascii_mark b = if is_ascii_word b then false else nat_lt b 128

-- `c` may follow the first letter of a name
abbrev pub continues_name : ℕ → Bool
continues_name c = is_letter c || is_decimal_number c
