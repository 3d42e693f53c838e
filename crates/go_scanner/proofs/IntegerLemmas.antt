-- The longest integer literal at the start of some bytes.
use Rattle.std.proofs.Common.{◌≡◌, ℕ, zero, suc, ◌+◌, ◌<◌, ◌≤◌, List, [], ◌∷◌, Bool, true, false, ◌&&◌, ◌||◌, eqb, ltb, refl, sym, ap, ◌∙◌, subst, drop}
use Rattle.std.proofs.Common.{take, length, arith, ⊎_elim, drop-drop, eqb-true, ltb-true, lt-ltb, lit≤}
use Rattle.std.specs.Char.{is_digit}
use Rattle.std.proofs.lemmas.Bool.{and_parts, or_cases, or_left, or_right, cases_Bool, false≢true}
use Rattle.std.proofs.lemmas.Bool.Decides.{nat_tests}
use Rattle.go_scanner.specs.Integers.{digits, some_digits, prefix_base, after_zero, is_integer}
use Rattle.go_scanner.specs.Lengths.{digit_len, digits_len, after_zero_len, integer_len}

-- by a test's two answers
pub by_test : (b : Bool) {P : Type 0} → (b ≡ true → P) → (b ≡ false → P) → P
by_test b {P} is not = ⊎_elim is not (cases_Bool b)

-- a digit, and the digits behind it
digits_step : (base : ℕ) (bs : List ℕ) → 0 < digit_len base bs → digits_len base bs ≡ digit_len base bs + digits_len base (drop (digit_len base bs) bs)
unfolding digit_len digits_len
digits_step base [] some = refl
digits_step base (b ∷ []) some = by_test (is_digit b base) (λ yes. rw yes refl) (λ no. absurd (omega (arith, rw no at some)))
digits_step base (b ∷ c ∷ rest) some =
    by_test (is_digit b base) (λ yes. rw yes (omega arith))
    (λ no. by_test (eqb b 95 && is_digit c base) (λ under. rw (no, under) (omega arith)) (λ other. absurd (omega (arith, rw (no, other) at some))))

digits_end : (base : ℕ) (bs : List ℕ) → digit_len base bs ≡ 0 → digits_len base bs ≡ 0
unfolding digit_len digits_len
digits_end base [] none = refl
digits_end base (b ∷ []) none = none
digits_end base (b ∷ c ∷ rest) none =
    by_test (is_digit b base) (λ yes. absurd (omega (arith, rw yes at none)))
    (λ no. by_test (eqb b 95 && is_digit c base) (λ under. absurd (omega (arith, rw (no, under) at none))) (λ other. rw (no, other) refl))

-- the digits after the first n bytes
pub digits_step_at : (base : ℕ) (bs part : List ℕ) (n size : ℕ) → part ≡ drop n bs → size ≡ digit_len base part → 0 < size →
    n + digits_len base (drop n bs) ≡ digits_len base bs → n + size + digits_len base (drop (n + size) bs) ≡ digits_len base bs
digits_step_at base bs part n size part_is size_is some before =
    let s : size ≡ digit_len base (drop n bs) = size_is ∙ ap (digit_len base) part_is in
    let step = digits_step base (drop n bs) (omega (arith, s)) in
    let rest : drop (digit_len base (drop n bs)) (drop n bs) ≡ drop (n + size) bs = drop-drop (digit_len base (drop n bs)) n bs ∙
    ap (λ k. drop (n + k) bs) (sym s) in
    let tail = ap (digits_len base) rest in
    omega (arith, step, tail, s, before)

pub digits_end_at : (base : ℕ) (bs part : List ℕ) (n size : ℕ) → part ≡ drop n bs → size ≡ digit_len base part → size ≡ 0 →
    n + digits_len base (drop n bs) ≡ digits_len base bs → n ≡ digits_len base bs
digits_end_at base bs part n size part_is size_is none before =
    let s : digit_len base (drop n bs) ≡ 0 = sym (ap (digit_len base) part_is) ∙ sym size_is ∙ none in
    omega (arith, digits_end base (drop n bs) s, before)

digits_cons : (base b : ℕ) (xs : List ℕ) → is_digit b base ≡ true → digits base xs ≡ true → digits base (b ∷ xs) ≡ true
digits_cons base b [] one more = one
digits_cons base b (c ∷ xs) one more = rw (one, more) refl

digits_under : (base b c : ℕ) (xs : List ℕ) → eqb b 95 ≡ true → is_digit c base ≡ true → digits base xs ≡ true → digits base (b ∷ c ∷ xs) ≡ true
digits_under base b c xs under one more = or_right (is_digit b base && digits base (c ∷ xs)) (eqb b 95 && (is_digit c base && digits base xs))
    (rw (under, one, more) refl)

-- the counted prefix consists of digits
pub digits_take : (base : ℕ) (bs : List ℕ) → digits base (take (digits_len base bs) bs) ≡ true
unfolding digits_len
digits_take base [] = refl
digits_take base (b ∷ []) = by_test (is_digit b base) (λ yes. rw yes yes) (λ no. rw no refl)
digits_take base (b ∷ c ∷ rest) =
    by_test (is_digit b base)
    (λ yes. rw yes (digits_cons base b (take (digits_len base (c ∷ rest)) (c ∷ rest)) yes (digits_take base (c ∷ rest))))
    (λ no. by_test (eqb b 95 && is_digit c base)
    (λ under. let both = and_parts (eqb b 95) (is_digit c base) under in
    rw (no, under) (digits_under base b c (take (digits_len base rest) rest) both.0 both.1 (digits_take base rest)))
    (λ other. rw (no, other) refl))

-- no longer prefix consists of digits
pub digits_most : (base : ℕ) (bs : List ℕ) (m : ℕ) → is_digit 95 base ≡ false → m ≤ length bs → digits base (take m bs) ≡ true → m ≤ digits_len base bs
unfolding digits_len
digits_most base [] m low fits all = fits
digits_most base (b ∷ rest) zero low fits all = omega arith
digits_most base (b ∷ []) (suc zero) low fits all = rw all (omega arith)
digits_most base (b ∷ []) (suc (suc m)) low fits all = absurd (omega arith)
digits_most base (b ∷ c ∷ rest) (suc zero) low fits all = rw all (omega arith)
digits_most base (b ∷ c ∷ rest) (suc (suc m)) low fits all =
    ⊎_elim
    (λ digit. let both = and_parts (is_digit b base) (digits base (c ∷ take m rest)) digit in
    let more = digits_most base (c ∷ rest) (suc m) low (omega arith) both.1 in rw both.0 (omega (arith, more)))
    (λ under.
    let both = and_parts (eqb b 95) (is_digit c base && digits base (take m rest)) under in
    let digit = and_parts (is_digit c base) (digits base (take m rest)) both.1 in
    let no : is_digit b base ≡ false = ap (λ x. is_digit x base) (eqb-true b 95 both.0) ∙ low in
    let more = digits_most base rest m low (omega arith) digit.1 in rw (no, both.0, digit.0) (omega (arith, more)))
    (or_cases (is_digit b base && digits base (c ∷ take m rest)) (eqb b 95 && (is_digit c base && digits base (take m rest))) all)

-- the letters of bases are no octal digits, and the bases are these
pub record IsPrefix (b : ℕ) : Type 0 where
  pub octal : is_digit b 8 ≡ false
  pub under : eqb b 95 ≡ false
  pub base : prefix_base b ≤ 16
  pub letter : is_digit b 36 ≡ true

IsPrefix-at : (b n : ℕ) → IsPrefix n → eqb b n ≡ true → IsPrefix b
IsPrefix-at b n at same = subst IsPrefix (sym (eqb-true b n same)) at

pub IsPrefix-from : (b : ℕ) → 0 < prefix_base b → IsPrefix b
IsPrefix-from b some =
    by_test (eqb b 120 || eqb b 88)
    (λ hex. ⊎_elim (IsPrefix-at b 120 (record { octal = refl; under = refl; base = lit≤ tt; letter = refl }))
    (IsPrefix-at b 88 (record { octal = refl; under = refl; base = lit≤ tt; letter = refl })) (or_cases (eqb b 120) (eqb b 88) hex))
    (λ no_hex. by_test (eqb b 111 || eqb b 79)
    (λ octal. ⊎_elim (IsPrefix-at b 111 (record { octal = refl; under = refl; base = lit≤ tt; letter = refl }))
    (IsPrefix-at b 79 (record { octal = refl; under = refl; base = lit≤ tt; letter = refl })) (or_cases (eqb b 111) (eqb b 79) octal))
    (λ no_octal. by_test (eqb b 98 || eqb b 66)
    (λ binary. ⊎_elim (IsPrefix-at b 98 (record { octal = refl; under = refl; base = lit≤ tt; letter = refl }))
    (IsPrefix-at b 66 (record { octal = refl; under = refl; base = lit≤ tt; letter = refl })) (or_cases (eqb b 98) (eqb b 66) binary))
    (λ no_binary. absurd (omega (arith, rw (no_hex, no_octal, no_binary) at some)))))

no_digit : (c : ℕ) → is_digit c 0 ≡ false
no_digit c = grind (arith, nat_tests)

under_no_digit : (base : ℕ) → base ≤ 16 → is_digit 95 base ≡ false
under_no_digit base low = grind (arith, nat_tests)

pub no_digits : (xs : List ℕ) → some_digits 0 xs ≡ true → ⊥
no_digits [] all = false≢true all
no_digits (c ∷ []) all = false≢true (sym (no_digit c) ∙ all)
no_digits (c ∷ d ∷ xs) all =
    ⊎_elim (λ h. false≢true (sym (no_digit c) ∙ (and_parts (is_digit c 0) (digits 0 (d ∷ xs)) h).0))
    (λ h. false≢true (sym (no_digit d) ∙ (and_parts (is_digit d 0) (digits 0 xs) (and_parts (eqb c 95) (is_digit d 0 && digits 0 xs) h).1).0))
    (or_cases (is_digit c 0 && digits 0 (d ∷ xs)) (eqb c 95 && (is_digit d 0 && digits 0 xs)) all)

digits_from_some : (base : ℕ) (xs : List ℕ) → some_digits base xs ≡ true → digits base xs ≡ true
digits_from_some base [] all = refl
digits_from_some base (x ∷ xs) all = all

some_take : (base n : ℕ) (bs : List ℕ) → 0 < n → n ≤ length bs → digits base (take n bs) ≡ true → some_digits base (take n bs) ≡ true
some_take base zero bs some fits all = absurd (omega arith)
some_take base (suc n) [] some fits all = absurd (omega arith)
some_take base (suc n) (b ∷ bs) some fits all = all

pub digits_len_le : (base : ℕ) (bs : List ℕ) → digits_len base bs ≤ length bs
unfolding digits_len
digits_len_le base [] = omega arith
digits_len_le base (b ∷ []) = by_test (is_digit b base) (λ is. rw is (omega arith)) (λ not. rw not (omega arith))
digits_len_le base (b ∷ c ∷ rest) =
    let one = digits_len_le base (c ∷ rest) in
    let two = digits_len_le base rest in
    by_test (is_digit b base) (λ is. rw is (omega (arith, one)))
    (λ not. by_test (eqb b 95 && is_digit c base) (λ under. rw (not, under) (omega (arith, two))) (λ other. rw (not, other) (omega arith)))

after_zero_octal : (xs : List ℕ) → digits 8 xs ≡ true → after_zero xs ≡ true
after_zero_octal [] all = refl
after_zero_octal (b ∷ rest) all = or_left (digits 8 (b ∷ rest)) (some_digits (prefix_base b) rest) all

no_octal : (b : ℕ) (rest : List ℕ) → is_digit b 8 ≡ false → eqb b 95 ≡ false → digits 8 (b ∷ rest) ≡ true → ⊥
no_octal b [] octal under all = false≢true (sym octal ∙ all)
no_octal b (c ∷ rest) octal under all =
    ⊎_elim (λ h. false≢true (sym octal ∙ (and_parts (is_digit b 8) (digits 8 (c ∷ rest)) h).0))
    (λ h. false≢true (sym under ∙ (and_parts (eqb b 95) (is_digit c 8 && digits 8 rest) h).0))
    (or_cases (is_digit b 8 && digits 8 (c ∷ rest)) (eqb b 95 && (is_digit c 8 && digits 8 rest)) all)

some_more : (base n : ℕ) (xs : List ℕ) → some_digits base (take n xs) ≡ true → 0 < n
some_more base zero xs h = absurd (false≢true h)
some_more base (suc n) xs h = omega arith

-- the counted bytes may follow a leading 0, and no more bytes may
after_zero_take : (bs : List ℕ) → after_zero (take (after_zero_len bs) bs) ≡ true
unfolding after_zero_len
after_zero_take [] = refl
after_zero_take (b ∷ rest) =
    by_test (ltb 0 (prefix_base b))
    (λ letter. by_test (ltb 0 (digits_len (prefix_base b) rest))
    (λ some. rw (letter, some) (or_right (digits 8 (b ∷ take (digits_len (prefix_base b) rest) rest))
    (some_digits (prefix_base b) (take (digits_len (prefix_base b) rest) rest))
    (some_take (prefix_base b) (digits_len (prefix_base b) rest) rest (ltb-true 0 (digits_len (prefix_base b) rest) some)
    (digits_len_le (prefix_base b) rest) (digits_take (prefix_base b) rest))))
    (λ none. rw (letter, none) refl))
    (λ other. rw other (after_zero_octal (take (digits_len 8 (b ∷ rest)) (b ∷ rest)) (digits_take 8 (b ∷ rest))))

after_zero_most : (bs : List ℕ) (m : ℕ) → m ≤ length bs → after_zero (take m bs) ≡ true → m ≤ after_zero_len bs
unfolding after_zero_len
after_zero_most bs zero fits all = omega arith
after_zero_most [] (suc m) fits all = absurd (omega arith)
after_zero_most (b ∷ rest) (suc m) fits all =
    by_test (ltb 0 (prefix_base b))
    (λ letter.
    let at = IsPrefix-from b (ltb-true 0 (prefix_base b) letter) in
    ⊎_elim
    (λ octal. absurd (no_octal b (take m rest) at.octal at.under octal))
    (λ some.
    let most = digits_most (prefix_base b) rest m (under_no_digit (prefix_base b) at.base) (omega arith)
    (digits_from_some (prefix_base b) (take m rest) some) in
    let more : 0 < m = some_more (prefix_base b) m rest some in
    let test : ltb 0 (digits_len (prefix_base b) rest) ≡ true = lt-ltb 0 (digits_len (prefix_base b) rest) (omega arith) in
    rw (letter, test) (omega (arith, most)))
    (or_cases (digits 8 (b ∷ take m rest)) (some_digits (prefix_base b) (take m rest)) all))
    (λ other.
    let none : prefix_base b ≡ 0 = grind (arith, nat_tests) in
    ⊎_elim
    (λ octal. let most = digits_most 8 (b ∷ rest) (suc m) refl fits octal in rw other (omega (arith, most)))
    (λ some. absurd (no_digits (take m rest) (subst (λ (base : ℕ). some_digits base (take m rest) ≡ true) none some)))
    (or_cases (digits 8 (b ∷ take m rest)) (some_digits (prefix_base b) (take m rest)) all))

pub integer_take : (bs : List ℕ) → 0 < integer_len bs → is_integer (take (integer_len bs) bs) ≡ true
unfolding integer_len
integer_take [] some = absurd (omega arith)
integer_take (b ∷ rest) some =
    by_test (eqb b 48)
    (λ zero_first. rw zero_first (rw zero_first (after_zero_take rest)))
    (λ other. by_test (is_digit b 10) (λ digit. rw (other, digit) (rw (other, digit) (digits_take 10 rest)))
    (λ none. absurd (omega (arith, rw (other, none) at some))))

pub integer_most : (bs : List ℕ) (m : ℕ) → m ≤ length bs → is_integer (take m bs) ≡ true → m ≤ integer_len bs
unfolding integer_len
integer_most bs zero fits all = omega arith
integer_most [] (suc m) fits all = absurd (omega arith)
integer_most (b ∷ rest) (suc m) fits all =
    by_test (eqb b 48)
    (λ zero_first. let more = after_zero_most rest m (omega arith) (rw zero_first at all) in rw zero_first (omega (arith, more)))
    (λ other. let both = and_parts (is_digit b 10) (digits 10 (take m rest)) (rw other at all) in
    let more = digits_most 10 rest m refl (omega arith) both.1 in rw (other, both.0) (omega (arith, more)))

after_zero_len_le : (bs : List ℕ) → after_zero_len bs ≤ length bs
unfolding after_zero_len
after_zero_len_le [] = omega arith
after_zero_len_le (b ∷ rest) =
    by_test (ltb 0 (prefix_base b))
    (λ letter. by_test (ltb 0 (digits_len (prefix_base b) rest))
    (λ some. let fits = digits_len_le (prefix_base b) rest in rw (letter, some) (omega (arith, fits))) (λ none. rw (letter, none) (omega arith)))
    (λ other. rw other (digits_len_le 8 (b ∷ rest)))

pub integer_len_le : (bs : List ℕ) → integer_len bs ≤ length bs
unfolding integer_len
integer_len_le [] = omega arith
integer_len_le (b ∷ rest) =
    let octal = after_zero_len_le rest in
    let decimal = digits_len_le 10 rest in
    by_test (eqb b 48) (λ is. rw is (omega (arith, octal)))
    (λ not. by_test (is_digit b 10) (λ digit. rw (not, digit) (omega (arith, decimal))) (λ none. rw (not, none) (omega arith)))
