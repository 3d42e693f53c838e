-- The values of string literals.
use Rattle.std.proofs.Common.{◌≡◌, ℕ, ◌+◌, ◌-◌, ◌<◌, ◌≤◌, List, [], ◌∷◌, ◌++◌, true, false, ◌&&◌, eqb, refl, sym, ap, ◌∙◌, subst, drop, take}
use Rattle.std.proofs.Common.{length, arith, inr, ⊎_elim, leb-true, append-nil, length-append, Result, Ok, Err, IfOk}
use borrow.Author.Tests.{eqb-true}
use Rattle.std.specs.Prelude.{nat_le, slice_index, flat_map}
use Rattle.std.specs.List.{list_all, concat}
use Rattle.std.specs.Char.{is_digit, encode_utf8}
use Rattle.std.proofs.lemmas.Bool.{and_parts, or_cases, false≢true}
use Rattle.std.proofs.lemmas.Grind.{flat_map-append}
use Rattle.std.proofs.lemmas.List.{append_cancel_right, take_at, take_rest}
use Rattle.go_scanner.specs.Integers.{number_in}
use Rattle.go_scanner.specs.Strings.{are_digits, is_character, is_plain_escape, is_escape, IsString, IsRawString}
use Rattle.go_scanner.specs.Lengths.{part_len}
use Rattle.go_scanner.specs.StringValues.{escape_value, part_value, raw_value, IsStringPiece, HasStringValue, HasPartsValue, HasRawValue}
use Rattle.go_scanner.proofs.IntegerLemmas.{by_test}
use Rattle.go_scanner.proofs.StringLemmas.{StringSoFar, string_opens, string_grows, stops_from, quote_stops, same_parts, part_is}

-- by the forms of an escape
by_form : (b : ℕ) (rest : List ℕ) {P : Type 0} → is_escape (b ∷ rest) ≡ true
    → (is_plain_escape b ≡ true → P)
    → (number_in 8 (b ∷ rest) ≤ 255 → is_digit b 8 ≡ true → P)
    → (b ≡ 120 → are_digits 2 16 rest ≡ true → P)
    → (b ≡ 117 → is_character (number_in 16 rest) ≡ true → P)
    → (b ≡ 85 → is_character (number_in 16 rest) ≡ true → P)
    → P
by_form b rest {P} is plain octal byte short long =
    ⊎_elim
    (λ h. plain (and_parts (is_plain_escape b) (eqb (length rest) 0) h).0)
    (λ others. ⊎_elim
    (λ h.
    let both = and_parts (are_digits 3 8 (b ∷ rest)) (nat_le (number_in 8 (b ∷ rest)) 255) h in
    let digits = (and_parts (eqb (length (b ∷ rest)) 3) (list_all (λ x. is_digit x 8) (b ∷ rest)) both.0).1 in
    octal (leb-true (number_in 8 (b ∷ rest)) 255 both.1) (and_parts (is_digit b 8) (list_all (λ x. is_digit x 8) rest) digits).0)
    (λ others. ⊎_elim
    (λ h. let both = and_parts (eqb b 120) (are_digits 2 16 rest) h in byte (eqb-true b 120 both.0) both.1)
    (λ others. ⊎_elim
    (λ h. let both = and_parts (eqb b 117) (are_digits 4 16 rest && is_character (number_in 16 rest)) h in
    short (eqb-true b 117 both.0) (and_parts (are_digits 4 16 rest) (is_character (number_in 16 rest)) both.1).1)
    (λ h. let both = and_parts (eqb b 85) (are_digits 8 16 rest && is_character (number_in 16 rest)) h in
    long (eqb-true b 85 both.0) (and_parts (are_digits 8 16 rest) (is_character (number_in 16 rest)) both.1).1)
    (or_cases _ _ others))
    (or_cases _ _ others))
    (or_cases _ _ others))
    (or_cases _ _ is)

pub escape_character : (b : ℕ) (rest : List ℕ) → is_escape (b ∷ rest) ≡ true → is_plain_escape b ≡ false → is_digit b 8 ≡ false → (b ≡ 120 → ⊥) →
    is_character (number_in 16 rest) ≡ true
escape_character b rest is not_plain not_digit not_byte =
    by_form b rest is
    (λ plain. absurd (false≢true (sym not_plain ∙ plain)))
    (λ _ digit. absurd (false≢true (sym not_digit ∙ digit)))
    (λ b_is _. absurd (not_byte b_is))
    (λ _ char. char)
    (λ _ char. char)

-- the value of the parts so far
pub record ValueSoFar (text : List ℕ) (n : ℕ) (value : List ℕ) : Type 0 where
  pub so_far : StringSoFar text n
  pub value_is : value ≡ flat_map part_value so_far.parts

pub value_opens : (text : List ℕ) → IsString text → ValueSoFar text 1 []
unfolding string_opens
value_opens text string = subst (λ t. ValueSoFar t 1 []) (sym string.spelled)
    (record { so_far = string_opens (34 ∷ (concat string.parts ++ (34 ∷ []))) (omega arith) refl; value_is = refl })

pub value_grows : (text part value more : List ℕ) (n size : ℕ) → ValueSoFar text n value → part ≡ drop n text → size ≡ part_len part → 0 < size →
    size ≤ length part
    → more ≡ value ++ part_value (take size part) → ValueSoFar text (n + size) more
unfolding string_grows
value_grows text part value more n size before part_is size_is some fits more_is = record {
  so_far = string_grows text part n size before.so_far part_is size_is some fits;
  value_is =
      more_is
      ∙ ap (λ l. l ++ part_value (take size part)) before.value_is
      ∙ ap (λ l. flat_map part_value before.so_far.parts ++ l) (sym (append-nil (part_value (take size part))))
      ∙ sym (flat_map-append part_value before.so_far.parts (take size part ∷ []));
}

-- at the end these are the parts of the string
pub value_ends : (text part value : List ℕ) (n : ℕ) → IsString text → ValueSoFar text n value → part ≡ drop n text → 0 ≡ part_len part →
    HasPartsValue text value
value_ends text part value n string before part_is none =
    let stops = stops_from (drop n text) (ap part_len (sym part_is) ∙ sym none) in
    let both : concat before.so_far.parts ++ drop n text ≡ concat string.parts ++ (34 ∷ []) = ap (drop 1) (sym before.so_far.spelled ∙ string.spelled) in
    let same = same_parts before.so_far.parts string.parts (drop n text) (34 ∷ []) before.so_far.each string.each stops (quote_stops []) both in
    (string, before.value_is ∙ ap (flat_map part_value) same.0)

-- a string literal stands for one value
one_parts_value : (bytes v w : List ℕ) → HasPartsValue bytes v → HasPartsValue bytes w → v ≡ w
one_parts_value bytes v w a b =
    let both : concat a.0.parts ++ (34 ∷ []) ≡ concat b.0.parts ++ (34 ∷ []) = ap (drop 1) (sym a.0.spelled ∙ b.0.spelled) in
    let same = same_parts a.0.parts b.0.parts (34 ∷ []) (34 ∷ []) a.0.each b.0.each (quote_stops []) (quote_stops []) both in
    a.1 ∙ ap (flat_map part_value) same.0 ∙ sym b.1

one_raw_value : (bytes v w : List ℕ) → HasRawValue bytes v → HasRawValue bytes w → v ≡ w
one_raw_value bytes v w a b =
    let both : a.0.body ++ (96 ∷ []) ≡ b.0.body ++ (96 ∷ []) = ap (drop 1) (sym a.0.spelled ∙ b.0.spelled) in
    a.1 ∙ ap raw_value (append_cancel_right a.0.body b.0.body (96 ∷ []) both) ∙ sym b.1

pub not_both : (bytes : List ℕ) → IsString bytes → IsRawString bytes → ⊥
not_both bytes a b =
    let first : 34 ≡ 96 = sym (ap (λ t. slice_index t 0) a.spelled) ∙ ap (λ t. slice_index t 0) b.spelled in
    omega (arith, first)

pub one_string_value : (bytes v w : List ℕ) → HasStringValue bytes v → HasStringValue bytes w → v ≡ w
one_string_value bytes v w a b =
    ⊎_elim
    (λ (left : HasPartsValue bytes v). ⊎_elim (one_parts_value bytes v w left) (λ (right : HasRawValue bytes w). absurd (not_both bytes left.0 right.0)) b)
    (λ (left : HasRawValue bytes v). ⊎_elim (λ (right : HasPartsValue bytes w). absurd (not_both bytes right.0 left.0)) (one_raw_value bytes v w left) b)
    a

-- the last form of an escape, as the code writes it
pub record IsLastForm (escape : List ℕ) (n : ℕ) : Type 0 where
  pub character : is_character n ≡ true
  pub value : encode_utf8 n ≡ escape_value escape

pub last_form : (e : List ℕ) (n : ℕ) → 1 ≤ length e → is_escape e ≡ true → is_plain_escape (slice_index e 0) ≡ false →
    is_digit (slice_index e 0) 8 ≡ false → (slice_index e 0 ≡ 120 → ⊥)
    → n ≡ number_in 16 (take (length e - 1) (drop 1 e)) → IsLastForm e n
last_form [] n some is plain digit byte n_is = absurd (omega (arith, some))
last_form (b ∷ rest) n some is plain digit byte n_is =
    let number : n ≡ number_in 16 rest = n_is ∙ ap (number_in 16) (take_rest (b ∷ rest) 1) in
    record {
      character = rw number (escape_character b rest is plain digit byte);
      value = by_test (eqb b 120) (λ yes. absurd (byte (eqb-true b 120 yes))) (λ no. rw (plain, digit, no, number) refl);
    }

pub raw_from : (bytes v : List ℕ) → IsRawString bytes → v ≡ raw_value (take (length bytes - 1 - 1) (drop 1 bytes)) → HasStringValue bytes v
raw_from bytes v s v_is =
    let size : length bytes - 1 - 1 ≡ length s.body = omega (arith, ap length s.spelled, length-append s.body (96 ∷ [])) in
    let body : take (length bytes - 1 - 1) (drop 1 bytes) ≡ s.body = ap (λ l. take (length bytes - 1 - 1) (drop 1 l)) s.spelled ∙
    take_at s.body (96 ∷ []) (length bytes - 1 - 1) (sym size) in
    inr (s, v_is ∙ ap raw_value body)

pub raw_literal : (bytes : List ℕ) → slice_index bytes 0 ≡ 96 → IsStringPiece bytes → IsRawString bytes
raw_literal bytes first piece = ⊎_elim (λ (s : IsString bytes). let same : 34 ≡ 96 = sym (ap (λ t. slice_index t 0) s.spelled) ∙ first in
    absurd (omega (arith, same))) (λ raw. raw) piece

-- if P implies Q, then an answer whose value satisfies P has one that satisfies Q
pub if_ok : {T E : Type 0} (r : Result T E) (P Q : T → Type 0) → ((v : T) → P v → Q v) → IfOk r P → IfOk r Q
if_ok (Ok v) P Q step h = step v h
if_ok (Err e) P Q step h = tt
