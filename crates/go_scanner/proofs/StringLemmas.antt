-- The longest string literal at the start of some bytes.
use Rattle.std.proofs.Common.{◌≡◌, ◌≢◌, ◌⊎◌, ℕ, suc, ◌+◌, ◌<◌, ◌≤◌, List, [], ◌∷◌, ◌++◌, Bool, true, false, cond, ◌&&◌, ◌||◌, eqb, ltb, refl, sym, ap, ◌∙◌}
use Rattle.std.proofs.Common.{drop, take, length, get_or, arith, inl, inr, ⊎_elim, drop-drop, length-drop, length-append, length-take, length-take-le}
use Rattle.std.proofs.Common.{append_assoc, append-nil, take-append-drop, get_or-drop, ltb-true, lt-ltb}
use borrow.Author.Tests.{eqb-true}
use Rattle.std.specs.Prelude.{nat_le, slice_index}
use Rattle.std.specs.List.{list_all, concat}
use Rattle.std.specs.Char.{is_digit}
use Rattle.std.proofs.lemmas.Bool.{and_from, and_parts, or_cases, or_left, false≢true}
use Rattle.std.proofs.lemmas.Bool.Decides.{nat_tests}
use Rattle.std.proofs.lemmas.List.{take_at, append_cancel_left, drop_more, drop_all}
use Rattle.go_scanner.specs.Integers.{number_in}
use Rattle.go_scanner.specs.Strings.{are_digits, is_character, is_plain_escape, is_escape, is_plain, is_string_part, are_string_parts, StopsString}
use Rattle.go_scanner.specs.Strings.{IsStringRun, IsString, IsBadString}
use Rattle.go_scanner.specs.Lengths.{digits_at, octal_at, character_at, escape_len, part_len}
use Rattle.go_scanner.proofs.IntegerLemmas.{by_test}

-- one of five tests passes
in_place : (a b c d e : Bool) → ((b ≡ true) ⊎ (c ≡ true)) ⊎ ((d ≡ true) ⊎ (e ≡ true)) → (a || (b || (c || (d || e)))) ≡ true
in_place true b c d e h = refl
in_place false true c d e h = refl
in_place false false true d e h = refl
in_place false false false true e h = refl
in_place false false false false e h = ⊎_elim (⊎_elim (λ x. absurd (false≢true x)) (λ x. absurd (false≢true x)))
    (⊎_elim (λ x. absurd (false≢true x)) (λ x. x)) h

escape_by : (b : ℕ) (xs : List ℕ) → (((are_digits 3 8 (b ∷ xs) && nat_le (number_in 8 (b ∷ xs)) 255) ≡ true) ⊎ ((eqb b 120 && are_digits 2 16 xs) ≡ true)) ⊎
    (((eqb b 117 && (are_digits 4 16 xs && is_character (number_in 16 xs))) ≡ true) ⊎
    ((eqb b 85 && (are_digits 8 16 xs && is_character (number_in 16 xs))) ≡ true)) → is_escape (b ∷ xs) ≡ true
escape_by b xs h = in_place (is_plain_escape b && eqb (length xs) 0) (are_digits 3 8 (b ∷ xs) && nat_le (number_in 8 (b ∷ xs)) 255)
    (eqb b 120 && are_digits 2 16 xs) (eqb b 117 && (are_digits 4 16 xs && is_character (number_in 16 xs)))
    (eqb b 85 && (are_digits 8 16 xs && is_character (number_in 16 xs))) h

-- the counted bytes are an escape
escape_is : (bs : List ℕ) → 0 < escape_len bs → is_escape (take (escape_len bs) bs) ≡ true
unfolding escape_len
escape_is [] some = absurd (omega (arith, some))
escape_is (b ∷ rest) some =
    by_test (is_plain_escape b) (λ plain. rw plain (or_left _ _ (and_from (is_plain_escape b) true plain refl)))
    (λ not_plain. by_test (octal_at (b ∷ rest)) (λ octal. rw (not_plain, octal) (escape_by b (take 2 rest) (inl (inl octal))))
    (λ not_octal. by_test (eqb b 120 && digits_at 2 16 rest) (λ hex. rw (not_plain, not_octal, hex) (escape_by b (take 2 rest) (inl (inr hex))))
    (λ not_hex. by_test (eqb b 117 && character_at 4 rest) (λ short. rw (not_plain, not_octal, not_hex, short) (escape_by b (take 4 rest) (inr (inl short))))
    (λ not_short. by_test (eqb b 85 && character_at 8 rest)
    (λ long. rw (not_plain, not_octal, not_hex, not_short, long) (escape_by b (take 8 rest) (inr (inr long))))
    (λ none. absurd (omega (arith, rw (not_plain, not_octal, not_hex, not_short, none) at some)))))))

escape_part : (b : ℕ) (xs : List ℕ) → eqb b 92 ≡ true → is_escape xs ≡ true → is_string_part (b ∷ xs) ≡ true
escape_part b [] backslash escape = absurd (false≢true escape)
escape_part b (c ∷ xs) backslash escape = rw (backslash, escape) refl

pub part_is : (bs : List ℕ) → 0 < part_len bs → is_string_part (take (part_len bs) bs) ≡ true
unfolding part_len
part_is [] some = absurd (omega (arith, some))
part_is (b ∷ rest) some =
    by_test (is_plain b) (λ plain. rw plain plain)
    (λ not_plain. by_test (eqb b 92)
    (λ backslash. by_test (ltb 0 (escape_len rest))
    (λ escape. rw (not_plain, backslash, escape) (escape_part b (take (escape_len rest) rest) backslash (escape_is rest (ltb-true 0 (escape_len rest) escape))))
    (λ none. absurd (omega (arith, rw (not_plain, backslash, none) at some))))
    (λ other. absurd (omega (arith, rw (not_plain, other) at some))))

-- the byte of a plain escape is no octal digit
pub plain_or_digit : (b : ℕ) → is_digit b 8 ≡ true → is_plain_escape b ≡ false
plain_or_digit b digit = grind (arith, nat_tests)

octal_first : (b : ℕ) (rest : List ℕ) → octal_at (b ∷ rest) ≡ true → is_digit b 8 ≡ true
octal_first b rest octal =
    let outer = and_parts (are_digits 3 8 (take 3 (b ∷ rest))) (nat_le (number_in 8 (take 3 (b ∷ rest))) 255) octal in
    let inner = and_parts (eqb (length (take 3 (b ∷ rest))) 3) (list_all (λ x. is_digit x 8) (take 3 (b ∷ rest))) outer.0 in
    (and_parts (is_digit b 8) (list_all (λ x. is_digit x 8) (take 2 rest)) inner.1).0

no_octal : (b : ℕ) (rest : List ℕ) → is_digit b 8 ≡ false → octal_at (b ∷ rest) ≡ false
no_octal b rest not = by_test (octal_at (b ∷ rest)) (λ is. absurd (false≢true (sym not ∙ octal_first b rest is))) (λ no. no)

digits_long : (n base : ℕ) (xs : List ℕ) → are_digits n base xs ≡ true → length xs ≡ n
digits_long n base xs is = eqb-true (length xs) n (and_parts (eqb (length xs) n) (list_all (λ b. is_digit b base) xs) is).0

-- a letter behind a backslash is tried after the plain escapes and the octal ones
letter : (b x : ℕ) (rest : List ℕ) → b ≡ x → is_plain_escape x ≡ false → is_digit x 8 ≡ false → (P : ℕ → Type 0)
    → P (cond (eqb x 120 && digits_at 2 16 rest) 3 (cond (eqb x 117 && character_at 4 rest) 5 (cond (eqb x 85 && character_at 8 rest) 9 0))) →
    P (escape_len (b ∷ rest))
unfolding escape_len
letter b x rest same plain octal P h = rw (same, plain, no_octal x rest octal) h

-- the counted length of an escape, whatever follows it
escape_only : (e r : List ℕ) → is_escape e ≡ true → escape_len (e ++ r) ≡ length e
unfolding escape_len
escape_only [] r is = absurd (false≢true is)
escape_only (b ∷ rest) r is =
    ⊎_elim
    (λ plain. let both = and_parts (is_plain_escape b) (eqb (length rest) 0) plain in
    rw both.0 (ap suc (sym (eqb-true (length rest) 0 both.1))))
    (λ others. ⊎_elim
    (λ octal.
    let digits = (and_parts (are_digits 3 8 (b ∷ rest)) (nat_le (number_in 8 (b ∷ rest)) 255) octal).0 in
    let long = digits_long 3 8 (b ∷ rest) digits in
    let same : take 3 ((b ∷ rest) ++ r) ≡ b ∷ rest = take_at (b ∷ rest) r 3 long in
    let here : octal_at ((b ∷ rest) ++ r) ≡ true = ap (λ l. are_digits 3 8 l && nat_le (number_in 8 l) 255) same ∙ octal in
    rw (plain_or_digit b (octal_first b (rest ++ r) here), here) (sym long))
    (λ others. ⊎_elim
    (λ hex. let both = and_parts (eqb b 120) (are_digits 2 16 rest) hex in
    let long = digits_long 2 16 rest both.1 in
    let same : take 2 (rest ++ r) ≡ rest = take_at rest r 2 long in
    let here : digits_at 2 16 (rest ++ r) ≡ true = ap (are_digits 2 16) same ∙ both.1 in
    letter b 120 (rest ++ r) (eqb-true b 120 both.0) refl refl (λ l. l ≡ suc (length rest)) (rw here (omega (arith, long))))
    (λ others. ⊎_elim
    (λ short. let both = and_parts (eqb b 117) (are_digits 4 16 rest && is_character (number_in 16 rest)) short in
    let long = digits_long 4 16 rest (and_parts (are_digits 4 16 rest) (is_character (number_in 16 rest)) both.1).0 in
    let same : take 4 (rest ++ r) ≡ rest = take_at rest r 4 long in
    let here : character_at 4 (rest ++ r) ≡ true = ap (λ l. are_digits 4 16 l && is_character (number_in 16 l)) same ∙ both.1 in
    letter b 117 (rest ++ r) (eqb-true b 117 both.0) refl refl (λ l. l ≡ suc (length rest)) (rw here (omega (arith, long))))
    (λ wide. let both = and_parts (eqb b 85) (are_digits 8 16 rest && is_character (number_in 16 rest)) wide in
    let long = digits_long 8 16 rest (and_parts (are_digits 8 16 rest) (is_character (number_in 16 rest)) both.1).0 in
    let same : take 8 (rest ++ r) ≡ rest = take_at rest r 8 long in
    let here : character_at 8 (rest ++ r) ≡ true = ap (λ l. are_digits 8 16 l && is_character (number_in 16 l)) same ∙ both.1 in
    letter b 85 (rest ++ r) (eqb-true b 85 both.0) refl refl (λ l. l ≡ suc (length rest)) (rw here (omega (arith, long))))
    (or_cases _ _ others))
    (or_cases _ _ others))
    (or_cases _ _ others))
    (or_cases _ _ is)

pub part_only : (p r : List ℕ) → is_string_part p ≡ true → part_len (p ++ r) ≡ length p
unfolding part_len
part_only [] r is = absurd (false≢true is)
part_only (b ∷ []) r is = rw is refl
part_only (b ∷ c ∷ rest) r is =
    let both = and_parts (eqb b 92) (is_escape (c ∷ rest)) is in
    let size = escape_only (c ∷ rest) r both.1 in
    let not_plain : is_plain b ≡ false = ap is_plain (eqb-true b 92 both.0) in
    let test : ltb 0 (escape_len ((c ∷ rest) ++ r)) ≡ true = ap (ltb 0) size ∙ lt-ltb 0 (suc (length rest)) (omega arith) in
    rw (not_plain, both.0, test, size) refl

-- the counted bytes are in the text
escape_len_le : (bs : List ℕ) → escape_len bs ≤ length bs
unfolding escape_len
escape_len_le [] = omega arith
escape_len_le (b ∷ rest) =
    by_test (is_plain_escape b) (λ plain. rw plain (omega arith))
    (λ not_plain. by_test (octal_at (b ∷ rest))
    (λ octal. let long = digits_long 3 8 (take 3 (b ∷ rest))
    (and_parts (are_digits 3 8 (take 3 (b ∷ rest))) (nat_le (number_in 8 (take 3 (b ∷ rest))) 255) octal).0 in
    rw (not_plain, octal) (omega (arith, long, length-take 3 (b ∷ rest))))
    (λ not_octal. by_test (eqb b 120 && digits_at 2 16 rest)
    (λ hex. let long = digits_long 2 16 (take 2 rest) (and_parts (eqb b 120) (digits_at 2 16 rest) hex).1 in
    rw (not_plain, not_octal, hex) (omega (arith, long, length-take 2 rest)))
    (λ not_hex. by_test (eqb b 117 && character_at 4 rest)
    (λ short.
    let long = digits_long 4 16 (take 4 rest) (and_parts (digits_at 4 16 rest) (is_character (number_in 16 (take 4 rest)))
    (and_parts (eqb b 117) (character_at 4 rest) short).1).0 in
    rw (not_plain, not_octal, not_hex, short) (omega (arith, long, length-take 4 rest)))
    (λ not_short. by_test (eqb b 85 && character_at 8 rest)
    (λ wide.
    let long = digits_long 8 16 (take 8 rest) (and_parts (digits_at 8 16 rest) (is_character (number_in 16 (take 8 rest)))
    (and_parts (eqb b 85) (character_at 8 rest) wide).1).0 in
    rw (not_plain, not_octal, not_hex, not_short, wide) (omega (arith, long, length-take 8 rest)))
    (λ none. rw (not_plain, not_octal, not_hex, not_short, none) (omega arith))))))

pub part_len_le : (bs : List ℕ) → part_len bs ≤ length bs
unfolding part_len
part_len_le [] = omega arith
part_len_le (b ∷ rest) =
    let escape = escape_len_le rest in
    by_test (is_plain b) (λ plain. rw plain (omega arith))
    (λ not_plain. by_test (eqb b 92)
    (λ backslash. by_test (ltb 0 (escape_len rest)) (λ some. rw (not_plain, backslash, some) (omega (arith, escape)))
    (λ none. rw (not_plain, backslash, none) (omega arith)))
    (λ other. rw (not_plain, other) (omega arith)))

-- the parts so far
pub record StringSoFar (text : List ℕ) (n : ℕ) : Type 0 where
  pub fits : n ≤ length text
  pub parts : List (List ℕ)
  pub each : are_string_parts parts ≡ true
  pub spelled : text ≡ 34 ∷ (concat parts ++ drop n text)
  pub long : n ≡ 1 + length (concat parts)

unfoldable pub string_opens : (text : List ℕ) → 0 < length text → slice_index text 0 ≡ 34 → StringSoFar text 1
string_opens [] some first = absurd (omega (arith, some))
string_opens (b ∷ rest) some first = record { fits = omega arith; parts = []; each = refl; spelled = ap (λ x. x ∷ rest) first; long = refl }

pub concat-push : (ps : List (List ℕ)) (p : List ℕ) → concat (ps ++ p ∷ []) ≡ concat ps ++ p
concat-push [] p = append-nil p
concat-push (q ∷ ps) p = ap (λ l. q ++ l) (concat-push ps p) ∙ sym (append_assoc q (concat ps) p)

pub parts_push : (ps : List (List ℕ)) (p : List ℕ) → are_string_parts ps ≡ true → is_string_part p ≡ true → are_string_parts (ps ++ p ∷ []) ≡ true
parts_push [] p each one = rw one refl
parts_push (q ∷ ps) p each one = let both = and_parts (is_string_part q) (are_string_parts ps) each in rw (both.0, parts_push ps p both.1 one) refl

unfoldable pub string_grows : (text part : List ℕ) (n size : ℕ) → StringSoFar text n → part ≡ drop n text → size ≡ part_len part → 0 < size →
    size ≤ length part → StringSoFar text (n + size)
string_grows text part n size before part_eq size_is some fits =
    let new : List ℕ = take size part in
    let is : is_string_part new ≡ true = rw size_is (part_is part (omega (arith, size_is))) in
    let long : length new ≡ size = length-take-le size part fits in
    let joined : concat (before.parts ++ new ∷ []) ≡ concat before.parts ++ new = concat-push before.parts new in
    let rest : drop n text ≡ new ++ drop (n + size) text = sym part_eq ∙ sym (take-append-drop size part) ∙
    ap (λ l. new ++ l) (ap (drop size) part_eq ∙ drop-drop size n text) in
    record {
      fits = omega (arith, before.fits, ap length part_eq, length-drop n text);
      parts = before.parts ++ new ∷ [];
      each = parts_push before.parts new before.each is;
      spelled = before.spelled ∙ ap (λ l. 34 ∷ (concat before.parts ++ l)) rest ∙
          ap (λ l. 34 ∷ l) (sym (append_assoc (concat before.parts) new (drop (n + size) text)) ∙ ap (λ l. l ++ drop (n + size) text) (sym joined));
      long = omega (arith, before.long, ap length joined, length-append (concat before.parts) new, long);
    }

pub no_empty_part : (p : List ℕ) → is_string_part p ≡ true → 0 < length p
no_empty_part [] is = absurd (false≢true is)
no_empty_part (b ∷ p) is = omega arith

pub stops_from : (rest : List ℕ) → part_len rest ≡ 0 → StopsString rest
stops_from rest none part more is same = omega (arith, none, ap part_len same, part_only part more is, no_empty_part part is)

pub string_ends : (text part : List ℕ) (n : ℕ) → StringSoFar text n → part ≡ drop n text → 0 ≡ part_len part → IsStringRun text n
string_ends text part n before part_is none = record {
  fits = before.fits;
  parts = before.parts;
  each = before.each;
  spelled = before.spelled;
  long = before.long;
  stops =
      stops_from (drop n text) (ap part_len (sym part_is) ∙ sym none);
}

pub quote_stops : (rest : List ℕ) → StopsString (34 ∷ rest)
unfolding part_len
quote_stops rest = stops_from (34 ∷ rest) refl

-- a text is split into parts, up to where no part follows, in one way
pub same_parts : (ps qs : List (List ℕ)) (s t : List ℕ) → are_string_parts ps ≡ true → are_string_parts qs ≡ true → StopsString s → StopsString t →
    concat ps ++ s ≡ concat qs ++ t → (ps ≡ qs) × (s ≡ t)
same_parts [] [] s t each_p each_q stops_s stops_t same = (refl, same)
same_parts [] (q ∷ qs) s t each_p each_q stops_s stops_t same =
    absurd (stops_s q (concat qs ++ t) (and_parts (is_string_part q) (are_string_parts qs) each_q).0 (same ∙ append_assoc q (concat qs) t))
same_parts (p ∷ ps) [] s t each_p each_q stops_s stops_t same =
    absurd (stops_t p (concat ps ++ s) (and_parts (is_string_part p) (are_string_parts ps) each_p).0 (sym same ∙ append_assoc p (concat ps) s))
same_parts (p ∷ ps) (q ∷ qs) s t each_p each_q stops_s stops_t same =
    let in_p = and_parts (is_string_part p) (are_string_parts ps) each_p in
    let in_q = and_parts (is_string_part q) (are_string_parts qs) each_q in
    let whole : p ++ (concat ps ++ s) ≡ q ++ (concat qs ++ t) = sym (append_assoc p (concat ps) s) ∙ same ∙ append_assoc q (concat qs) t in
    let len : length p ≡ length q = sym (part_only p (concat ps ++ s) in_p.0) ∙ ap part_len whole ∙ part_only q (concat qs ++ t) in_q.0 in
    let heads : p ≡ q = sym (take_at p (concat ps ++ s) (length p) refl) ∙ ap (take (length p)) whole ∙ take_at q (concat qs ++ t) (length p) (sym len) in
    let tails : concat ps ++ s ≡ concat qs ++ t = append_cancel_left q _ _ (ap (λ l. l ++ (concat ps ++ s)) (sym heads) ∙ whole) in
    let rest = same_parts ps qs s t in_p.1 in_q.1 stops_s stops_t tails in
    (λ i. heads i ∷ rest.0 i, rest.1)

pub string_is : (text : List ℕ) (n : ℕ) → IsStringRun text n → n < length text → get_or text n 0 ≡ 34 → IsString (take (n + 1) text)
string_is text n run more quote =
    let rest : drop n text ≡ 34 ∷ drop (n + 1) text = drop_more text n 0 more ∙ ap (λ b. b ∷ drop (n + 1) text) quote in
    let whole : text ≡ (34 ∷ (concat run.parts ++ (34 ∷ []))) ++ drop (n + 1) text = run.spelled ∙ ap (λ l. 34 ∷ (concat run.parts ++ l)) rest ∙
    ap (λ l. 34 ∷ l) (sym (append_assoc (concat run.parts) (34 ∷ []) (drop (n + 1) text))) in
    let long : length (34 ∷ (concat run.parts ++ (34 ∷ []))) ≡ n + 1 = omega (arith, run.long, length-append (concat run.parts) (34 ∷ [])) in
    record {
      parts = run.parts;
      each = run.each;
      spelled = ap (take (n + 1)) whole ∙
          take_at (34 ∷ (concat run.parts ++ (34 ∷ []))) (drop (n + 1) text) (n + 1) long;
    }

pub no_longer_string : (text : List ℕ) (n m : ℕ) → IsStringRun text n → n + 1 < m → m ≤ length text → IsString (take m text) → ⊥
no_longer_string text n m run more fits string =
    let whole : text ≡ 34 ∷ (concat string.parts ++ (34 ∷ drop m text)) = sym (take-append-drop m text) ∙ ap (λ l. l ++ drop m text) string.spelled ∙
    ap (λ l. 34 ∷ l) (append_assoc (concat string.parts) (34 ∷ []) (drop m text)) in
    let both : concat run.parts ++ drop n text ≡ concat string.parts ++ (34 ∷ drop m text) = ap (drop 1) (sym run.spelled ∙ whole) in
    let same = same_parts run.parts string.parts (drop n text) (34 ∷ drop m text) run.each string.each run.stops (quote_stops (drop m text)) both in
    omega (
      arith,
      run.long,
      ap (λ l. length (concat l)) same.0,
      ap length string.spelled,
      length-append (concat string.parts) (34 ∷ []),
      length-take-le m text fits,
    )

pub no_bad_string_here : (text : List ℕ) (n place : ℕ) → IsStringRun text n → n < length text → get_or text n 0 ≡ 34 → IsBadString text place → ⊥
no_bad_string_here text n place run more quote bad =
    let both : concat run.parts ++ drop n text ≡ concat bad.parts ++ bad.rest = ap (drop 1) (sym run.spelled ∙ bad.spelled) in
    let same = same_parts run.parts bad.parts (drop n text) bad.rest run.each bad.each run.stops bad.stops both in
    let rest : drop n text ≡ get_or text n 0 ∷ drop (n + 1) text = drop_more text n 0 more in
    bad.unclosed (ap (λ l. slice_index l 0) (sym same.1 ∙ rest) ∙ quote)

pub string_breaks : (text : List ℕ) (n place : ℕ) (run : IsStringRun text n) → slice_index (drop n text) 0 ≢ 34 →
    place ≡ cond (eqb (slice_index (drop n text) 0) 92) (1 + length (concat run.parts)) 0 → IsBadString text place
string_breaks text n place run other place_is = record
    { parts = run.parts; rest = drop n text; each = run.each; spelled = run.spelled; stops = run.stops; unclosed = other; place_is = place_is }

byte_at : (text : List ℕ) (n : ℕ) → slice_index (drop n text) 0 ≡ get_or text n 0
byte_at text n = let plus : n + 0 ≡ n = omega arith in get_or-drop n text 0 0 ∙ ap (λ i. get_or text i 0) plus

pub bad_at_end : (text : List ℕ) (n : ℕ) → IsStringRun text n → n ≡ length text → IsBadString text 0
bad_at_end text n run at_end =
    let none : slice_index (drop n text) 0 ≡ 0 = ap (λ l. slice_index l 0) (drop_all n text (omega arith)) in
    string_breaks text n 0 run (λ e. omega (arith, e, none)) (rw none refl)

pub bad_escape : (text : List ℕ) (n : ℕ) → IsStringRun text n → get_or text n 0 ≡ 92 → IsBadString text n
bad_escape text n run backslash =
    let here : slice_index (drop n text) 0 ≡ 92 = byte_at text n ∙ backslash in
    string_breaks text n n run (λ e. omega (arith, e, here)) (rw here run.long)

pub bad_other : (text : List ℕ) (n : ℕ) → IsStringRun text n → get_or text n 0 ≢ 34 → get_or text n 0 ≢ 92 → IsBadString text 0
bad_other text n run not_quote not_backslash =
    let here = byte_at text n in
    string_breaks text n 0 run (λ e. not_quote (sym here ∙ e))
    (by_test (eqb (slice_index (drop n text) 0) 92) (λ is. absurd (not_backslash (sym here ∙ eqb-true (slice_index (drop n text) 0) 92 is)))
    (λ not. rw not refl))
