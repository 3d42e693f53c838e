-- Characters of ASCII, which are one byte each.
use Rattle.std.proofs.Common.{◌≡◌, ℕ, ◌+◌, ◌<◌, List, [], ◌∷◌, ◌++◌, Bool, true, false, ◌==◌}
use Rattle.std.proofs.Common.{◌||◌, Option, Some, refl, sym, ap, ◌∙◌, subst, drop, length, get_or, arith, lt-ltb}
use Rattle.std.specs.Prelude.{IfSome}
use Rattle.std.specs.Char.{encode_utf8}
use Rattle.std.proofs.lemmas.Bool.Decides.{nat_tests}
use Rattle.std.proofs.lemmas.List.{drop_more}
use lib.Utf8.{scalar}
use Rattle.bstr.specs.Utf8.{decoded, good}
use Rattle.bstr.proofs.lemmas.EncodeLemmas.{decoded-encode}
use Rattle.go_scanner.specs.Characters.{is_ascii_letter, is_ascii_word, is_ascii_mark, continues_name}
use Rattle.go_scanner.specs.Families.{letter_at, begins_with_letter}
use Rattle.go_scanner.specs.Pieces.{spoils_number}
use Rattle.go_scanner.specs.Words.{NameRunSoFar}
use Rattle.go_scanner.proofs.FamilyLemmas.{ascii_word_small, ascii_word_continues, ascii_letter_small, ascii_letter_is, ascii_mark_small, ascii_mark_ends}
use Rattle.go_scanner.proofs.WordLemmas.{run_grows}

pub ascii_spelled : (c : ℕ) → c < 128 → encode_utf8 c ≡ c ∷ []
unfolding encode_utf8
ascii_spelled c small = rw (lt-ltb c 128 small) refl

ascii_decoded : (c : ℕ) (more : List ℕ) → c < 128 → decoded (c ∷ more) ≡ good c 1
ascii_decoded c more small =
    let is : scalar c ≡ true = grind (arith, nat_tests) in
    ap decoded (ap (λ l. l ++ more) (sym (ascii_spelled c small))) ∙ decoded-encode c more is ∙ ap (λ l. good c (length l)) (ascii_spelled c small)

pub ascii_read : (c : ℕ) (more : List ℕ) → c < 128 → (decoded (c ∷ more)).char ≡ Some c
ascii_read c more small = ap (λ d. d.char) (ascii_decoded c more small)

-- a run continues with an ASCII letter or digit
pub ascii_grows : (bytes : List ℕ) (n : ℕ) → NameRunSoFar bytes n → n < length bytes → is_ascii_word (get_or bytes n 0) ≡ true → NameRunSoFar bytes (n + 1)
ascii_grows bytes n before fits is =
    let b = get_or bytes n 0 in
    let read = ap decoded (drop_more bytes n 0 fits) ∙ ascii_decoded b (drop (n + 1) bytes) (ascii_word_small b is) in
    let size : (decoded (drop n bytes)).size ≡ 1 = ap (λ d. d.size) read in
    subst (λ (k : ℕ). NameRunSoFar bytes (n + k)) size (run_grows bytes n b before (ap (λ d. d.char) read) (ascii_word_continues b is))

-- what is read where a text begins with a character of ASCII
ascii_first : (bytes : List ℕ) → 0 < length bytes → get_or bytes 0 0 < 128 → (decoded bytes).char ≡ Some (get_or bytes 0 0)
ascii_first [] some small = absurd (omega (arith, some))
ascii_first (c ∷ more) some small = ascii_read c more small

pub ascii_begins : (bytes : List ℕ) → 0 < length bytes → is_ascii_letter (get_or bytes 0 0) ≡ true → true ≡ begins_with_letter bytes
ascii_begins bytes some is =
    let b = get_or bytes 0 0 in
    sym (ap letter_at (ascii_first bytes some (ascii_letter_small b is)) ∙ ascii_letter_is b is)

or_none : (a : Bool) → (a || false) ≡ a
or_none true = refl
or_none false = refl

pub mark_spoils : (bytes : List ℕ) → 0 < length bytes → is_ascii_mark (get_or bytes 0 0) ≡ true → (get_or bytes 0 0 == 46) ≡ spoils_number (decoded bytes).char
mark_spoils bytes some is =
    let b = get_or bytes 0 0 in
    sym (ap spoils_number (ascii_first bytes some (ascii_mark_small b is)) ∙ ap (λ x. (b == 46) || x) (ascii_mark_ends b is) ∙ or_none (b == 46))

pub mark_stops : (bytes : List ℕ) (n : ℕ) → n < length bytes → is_ascii_mark (get_or bytes n 0) ≡ true →
    IfSome (decoded (drop n bytes)).char (λ c. continues_name c ≡ false)
mark_stops bytes n fits is =
    let b = get_or bytes n 0 in
    let read = ap (λ d. d.char) (ap decoded (drop_more bytes n 0 fits) ∙ ascii_decoded b (drop (n + 1) bytes) (ascii_mark_small b is)) in
    subst (λ (o : Option ℕ). IfSome o (λ c. continues_name c ≡ false)) (sym read) (ascii_mark_ends b is)
