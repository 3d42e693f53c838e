-- The first byte of a piece determines which classes the piece may have.
use Rattle.std.proofs.Common.{◌≡◌, ℕ, zero, suc, ◌<◌, ◌≤◌, List, [], ◌∷◌, Bool, true, false, cond, ◌&&◌, eqb, ltb, refl, sym, ap, ◌∙◌, subst, take, length}
use Rattle.std.proofs.Common.{get_or, arith, ⊎_elim, get_or-take, encode_utf8, encode_utf8_all, ltb-true, length-append}
use Rattle.std.specs.Prelude.{slice_index}
use Rattle.std.specs.List.{list_all}
use Rattle.std.specs.Str.{all_scalars}
use Rattle.std.specs.Char.{is_digit}
use Rattle.std.proofs.lemmas.Bool.{and_parts, cases_lt, false≢true}
use Rattle.std.proofs.lemmas.Bool.Decides.{nat_tests}
use Rattle.std.proofs.lemmas.Str.{char_from_byte, length-encode, len_utf8_bounds}
use borrow.Author.Tests.{eqb-true}
use Rattle.ucd_category.proofs.Computing.{ucd_category}
use Rattle.go_scanner.specs.declared.piece.Class.{Class}
use Rattle.go_scanner.specs.declared.piece.Class.TheVariants as class
use Rattle.go_scanner.specs.Characters.{is_ascii_word, is_ascii_letter, is_ascii_mark, is_letter, is_decimal_number, continues_name}
use Rattle.go_scanner.specs.Words.{IsWord}
use Rattle.go_scanner.specs.Keywords.{keyword_spelling}
use Rattle.go_scanner.specs.Operators.{operator_spelling}
use Rattle.go_scanner.specs.Pieces.{IsPiece}
use Rattle.go_scanner.specs.Families.{starts_word, family_of}
use Rattle.go_scanner.proofs.IntegerLemmas.{by_test}
use Rattle.go_scanner.proofs.TableLemmas.{each_operator, each_keyword}

all_below : (ℕ → Bool) → ℕ → Bool
all_below p zero = true
all_below p (suc n) = p n && all_below p n

at_below : (p : ℕ → Bool) (n k : ℕ) → all_below p n ≡ true → k < n → p k ≡ true
unfolding all_below
at_below p zero k all lt = absurd (omega arith)
at_below p (suc n) k all lt =
    let both = and_parts (p n) (all_below p n) all in
    ⊎_elim (λ (below : k < n). at_below p n k both.1 below) (λ (above : n ≤ k). let same : n ≡ k = omega arith in subst (λ i. p i ≡ true) same both.0)
    (cases_lt k n)

-- below 128 the letters are those of ASCII and `_`
letters_of_ascii : all_below (λ c. cond (is_letter c) (starts_word c) (cond (starts_word c) false true)) 128 ≡ true
unfolding all_below is_letter ucd_category
letters_of_ascii = refl

same : (a b : Bool) → cond a b (cond b false true) ≡ true → a ≡ b
same true true h = refl
same true false h = absurd (false≢true h)
same false true h = absurd (false≢true h)
same false false h = refl

pub ascii_letter : (c : ℕ) → c < 128 → is_letter c ≡ starts_word c
ascii_letter c small = same (is_letter c) (starts_word c)
    (at_below (λ c. cond (is_letter c) (starts_word c) (cond (starts_word c) false true)) 128 c letters_of_ascii small)

-- below 128, ASCII letters, digits and `_` may continue a name, and nothing else
words_of_ascii : all_below (λ b. cond (continues_name b) (is_ascii_word b) (cond (is_ascii_word b) false true)) 128 ≡ true
unfolding all_below is_letter is_decimal_number ucd_category
words_of_ascii = refl

pub ascii_continues : (b : ℕ) → b < 128 → continues_name b ≡ is_ascii_word b
ascii_continues b small = same (continues_name b) (is_ascii_word b)
    (at_below (λ b. cond (continues_name b) (is_ascii_word b) (cond (is_ascii_word b) false true)) 128 b words_of_ascii small)

-- a byte that begins a word, or a number
word_of_ascii : all_below (λ b. cond (starts_word b) (eqb (family_of b) 4) true) 128 ≡ true
unfolding all_below
word_of_ascii = refl

digit_of_ascii : all_below (λ b. cond (is_digit b 10) (eqb (family_of b) 5) true) 128 ≡ true
unfolding all_below
digit_of_ascii = refl

if_true : (a b : Bool) → cond a b true ≡ true → a ≡ true → b ≡ true
if_true a b h is = rw is at h

pub ascii_word_small : (b : ℕ) → is_ascii_word b ≡ true → b < 128
ascii_word_small b is = ⊎_elim (λ (small : b < 128). small) (λ (large : 128 ≤ b). grind (arith, nat_tests)) (cases_lt b 128)

pub ascii_word_continues : (b : ℕ) → is_ascii_word b ≡ true → continues_name b ≡ true
ascii_word_continues b is = ascii_continues b (ascii_word_small b is) ∙ is

-- an ASCII letter begins a name, and an ASCII character that no name has doesn't continue one
pub ascii_letter_small : (b : ℕ) → is_ascii_letter b ≡ true → b < 128
ascii_letter_small b is = ⊎_elim (λ (small : b < 128). small) (λ (large : 128 ≤ b). grind (arith, nat_tests)) (cases_lt b 128)

letters_begin : all_below (λ b. cond (is_ascii_letter b) (is_letter b) true) 128 ≡ true
unfolding all_below is_letter ucd_category
letters_begin = refl

pub ascii_letter_is : (b : ℕ) → is_ascii_letter b ≡ true → is_letter b ≡ true
ascii_letter_is b is = if_true (is_ascii_letter b) (is_letter b)
    (at_below (λ b. cond (is_ascii_letter b) (is_letter b) true) 128 b letters_begin (ascii_letter_small b is)) is

mark_parts : (word : Bool) (b : ℕ) → cond word false (ltb b 128) ≡ true → (word ≡ false) × (b < 128)
mark_parts true b is = absurd (false≢true is)
mark_parts false b is = (refl, ltb-true b 128 is)

pub ascii_mark_small : (b : ℕ) → is_ascii_mark b ≡ true → b < 128
ascii_mark_small b is = (mark_parts (is_ascii_word b) b is).1

pub ascii_mark_ends : (b : ℕ) → is_ascii_mark b ≡ true → continues_name b ≡ false
ascii_mark_ends b is = let parts = mark_parts (is_ascii_word b) b is in ascii_continues b parts.1 ∙ parts.0

pub word_family : (b : ℕ) → starts_word b ≡ true → family_of b ≡ 4
word_family b starts =
    ⊎_elim (λ (small : b < 128). eqb-true (family_of b) 4
    (if_true (starts_word b) (eqb (family_of b) 4) (at_below (λ b. cond (starts_word b) (eqb (family_of b) 4) true) 128 b word_of_ascii small) starts))
    (λ (large : 128 ≤ b). grind (arith, nat_tests))
    (cases_lt b 128)

pub digit_family : (b : ℕ) → is_digit b 10 ≡ true → family_of b ≡ 5
digit_family b digit =
    ⊎_elim (λ (small : b < 128). eqb-true (family_of b) 5
    (if_true (is_digit b 10) (eqb (family_of b) 5) (at_below (λ b. cond (is_digit b 10) (eqb (family_of b) 5) true) 128 b digit_of_ascii small) digit))
    (λ (large : 128 ≤ b). grind (arith, nat_tests))
    (cases_lt b 128)

abbrev pub family : Class → ℕ
family class.ByteOrderMark = 0
family class.Blank = 1
family class.Newline = 2
family class.LineComment = 3
family class.GeneralComment = 3
family class.Name = 4
family (class.Keyword k) = 4
family class.Integer = 5
family class.InterpretedString = 6
family class.RawString = 7
family (class.Operator o) = cond (eqb (slice_index (operator_spelling o) 0) 47) 3 8

pub record HasFamily (c : Class) (bs : List ℕ) : Type 0 where
  pub some : 0 < length bs
  pub is : family_of (slice_index bs 0) ≡ family c

-- the first byte of a word
pub word_first : (bs : List ℕ) → IsWord bs → (0 < length bs) × (starts_word (slice_index bs 0) ≡ true)
word_first bs ([], is, spelled) = absurd (false≢true is)
word_first bs (c ∷ cs, is, spelled) =
    let letter : is_letter c ≡ true = (and_parts (is_letter c) (list_all continues_name cs)
    (and_parts (is_letter c && list_all continues_name cs) (all_scalars (c ∷ cs)) is).0).0 in
    let some : 0 < length bs = omega (arith, ap length spelled, length-append (encode_utf8 c) (encode_utf8_all cs), length-encode c, len_utf8_bounds c) in (
      some,
      ⊎_elim
          (λ (small : get_or bs 0 0 < 128). let same = char_from_byte bs (encode_utf8_all cs) c spelled small some in
          ap starts_word (sym same) ∙ sym (ascii_letter c (omega (arith, same))) ∙ letter)
          (λ (large : 128 ≤ get_or bs 0 0). grind (arith, nat_tests))
          (cases_lt (get_or bs 0 0) 128),
    )

pub has_family : (c : Class) (bs : List ℕ) → IsPiece c bs → HasFamily c bs
has_family class.ByteOrderMark bs p = absurd p
has_family class.Blank bs p = subst (HasFamily class.Blank) (sym p.2) (record { some = omega arith; is = rw p.1 refl })
has_family class.Newline bs p = subst (HasFamily class.Newline) (sym p) (record { some = omega arith; is = refl })
has_family class.LineComment bs p = record { some = omega (arith, p.opens.fits); is = rw (p.opens.reads 0 (omega arith)) refl }
has_family class.GeneralComment bs p = record { some = omega (arith, p.opens.fits); is = rw (p.opens.reads 0 (omega arith)) refl }
has_family class.Name bs p = let first = word_first bs p.0 in record { some = first.0; is = word_family (slice_index bs 0) first.1 }
has_family (class.Keyword k) bs p = subst (HasFamily (class.Keyword k)) (sym p) (record {
  some = ltb-true 0 (length (keyword_spelling k)) (each_keyword (λ k. ltb 0 (length (keyword_spelling k))) refl k);
  is = eqb-true _ _ (each_keyword (λ k. eqb (family_of (slice_index (keyword_spelling k) 0)) 4) refl k);
})
has_family class.Integer [] p = absurd (false≢true p)
has_family class.Integer (b ∷ rest) p = record {
  some = omega arith;
  is =
      digit_family b (by_test (eqb b 48) (λ is. rw (eqb-true b 48 is) refl) (λ not. (and_parts (is_digit b 10) _ (rw not at p)).0));
}
has_family class.InterpretedString bs p = subst (HasFamily class.InterpretedString) (sym p.spelled) (record { some = omega arith; is = refl })
has_family class.RawString bs p = subst (HasFamily class.RawString) (sym p.spelled) (record { some = omega arith; is = refl })
has_family (class.Operator o) bs p = subst (HasFamily (class.Operator o)) (sym p) (record {
  some = ltb-true 0 (length (operator_spelling o)) (each_operator (λ o. ltb 0 (length (operator_spelling o))) refl o);
  is = eqb-true _ _ (each_operator (λ o. eqb (family_of (slice_index (operator_spelling o) 0)) (family (class.Operator o))) refl o);
})

some_taken : (m : ℕ) (text : List ℕ) → 0 < length (take m text) → 0 < m
some_taken zero text h = h
some_taken (suc m) text h = omega arith

-- the first byte of a word that is a prefix of a text
pub front_family : (c : Class) (text : List ℕ) (m : ℕ) → IsPiece c (take m text) → family_of (slice_index text 0) ≡ family c
front_family c text m p =
    let has = has_family c (take m text) p in
    ap family_of (sym (get_or-take m text 0 0 (some_taken m text has.some))) ∙ has.is
