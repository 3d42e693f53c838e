-- Words, and the spaces between them.
use Rattle.std.proofs.Common.{◌≡◌, ◌≢◌, ℕ, suc, ◌<◌, List, [], ◌∷◌, ◌++◌, length, get_or, Option, None, Some, refl, sym, ap, ◌∙◌, arith, decimal}
use Rattle.std.specs.List.{AllByRecursion}
use Rattle.std.specs.Borrow.{Bor}
use Rattle.std.proofs.lemmas.Str.Pattern.{IsSplitOnceResult, split_parts}
use Rattle.std.specs.Prelude.{◌^◌, Result, Ok, Err, MatchBool, is_some, Bool, true, false, not}
use Rattle.std.proofs.lemmas.Bool.{false≢true}
use Rattle.std.specs.Result.{OkIff, result_ok}
use Rattle.std.specs.Int.{IsInRange}
use Rattle.std.specs.Str.Parse.{AllDigits, digits_value}
use Rattle.std.proofs.lemmas.Str.Parse.{IsNumeralModel, numerals_by_value, tells_digits, not_in_digits}
use Rattle.std.proofs.lemmas.Fmt.{digits_decimal, decimal_injective}
use Rattle.server_read.specs.Words.{HasNoSpace}
use Rattle.server_read.specs.Parsing.{SplitsWord, ReadsNumber}

-- no byte of the text is this one
abbrev pub HasNone : ℕ → List ℕ → Type 0
HasNone c text = AllByRecursion (λ b. b ≢ c) text

none_by_index : (c : ℕ) (xs : List ℕ) → ((i : ℕ) → i < length xs → get_or xs i 0 ≢ c) → HasNone c xs
none_by_index c [] h = tt
none_by_index c (x ∷ xs) h = (h 0 (omega arith), none_by_index c xs (λ i l. h (suc i) (omega (arith, l))))

word_by_index : (xs : List ℕ) → ((i : ℕ) → i < length xs → get_or xs i 0 ≢ 32) → HasNoSpace xs
word_by_index xs h = none_by_index 32 xs h

pub SplitsWord-from_split : (text : List ℕ) (r : Option (Bor (List ℕ) × Bor (List ℕ))) → IsSplitOnceResult 32 text r → SplitsWord text r
SplitsWord-from_split text None h = word_by_index text (split_parts 32 text None h (omega arith))
SplitsWord-from_split text (Some x) h =
    let p = split_parts 32 text (Some x) h (omega arith) in
    (p.0, word_by_index x.0.now p.1)

-- a word ends at the first space
pub split_unique : (xs ys zs bs : List ℕ) → HasNoSpace xs → HasNoSpace zs → xs ++ 32 ∷ ys ≡ zs ++ 32 ∷ bs → (xs ≡ zs) × (ys ≡ bs)
split_unique [] ys [] bs h k e = (refl, cc)
split_unique [] ys (a ∷ zs) bs h k e = absurd (k.0 cc)
split_unique (x ∷ xs) ys [] bs h k e = absurd (h.0 cc)
split_unique (x ∷ xs) ys (a ∷ zs) bs h k e =
    let rest : xs ++ 32 ∷ ys ≡ zs ++ 32 ∷ bs = cc in
    let r = split_unique xs ys zs bs h.1 k.1 rest in
    let same : x ≡ a = cc in
    (ap (λ l. x ∷ l) r.0 ∙ ap (λ y. y ∷ zs) same, r.1)

pub none_within : (c : ℕ) (word xs ys : List ℕ) → HasNone c word → word ≢ xs ++ c ∷ ys
none_within c [] [] ys h = λ e. cc
none_within c [] (x ∷ xs) ys h = λ e. cc
none_within c (w ∷ word) [] ys h = λ e. h.0 cc
none_within c (w ∷ word) (x ∷ xs) ys h = λ e. let rest : word ≡ xs ++ c ∷ ys = cc in none_within c word xs ys h.1 rest

-- no word has a space
pub no_space : (word xs ys : List ℕ) → HasNoSpace word → word ≢ xs ++ 32 ∷ ys
no_space word xs ys h = none_within 32 word xs ys h

own_digits : IsNumeralModel (AllDigits 10) (digits_value 10)
own_digits = numerals_by_value (AllDigits 10) tells_digits

-- a number has digits alone
pub decimal_none : (c n : ℕ) → n < 2 ^ 64 → ¬ (IsInRange 48 57 c) → HasNone c (decimal n)
decimal_none c n h none = none_by_index c (decimal n) (λ i l. not_in_digits own_digits (decimal n) c (digits_decimal own_digits n h) none i l)

no_digit : ¬ (IsInRange 48 57 32)
no_digit h = absurd (omega (arith, h.0, h.1))

-- a number is a word
pub decimal_word : (n : ℕ) → n < 2 ^ 64 → HasNoSpace (decimal n)
decimal_word n h = decimal_none 32 n h no_digit

pub no_space_by : (text : List ℕ) (r : Option (Bor (List ℕ) × Bor (List ℕ))) (b : Bool) → is_some r ≡ not b → SplitsWord text r →
    MatchBool b (HasNoSpace text) (HasNoSpace text → ⊥)
no_space_by text None true e h = h
no_space_by text None false e h = absurd (false≢true e)
no_space_by text (Some x) true e h = absurd (false≢true (sym e))
no_space_by text (Some x) false e h = λ k. no_space text x.0.now x.1.now k h.0

pub u32_of : {E : Type 0} (text : List ℕ) (m : ℕ) (r : Result ℕ E) → text ≡ decimal m → m < 2 ^ 64 → OkIff r (m < 2 ^ 32) m →
    ReadsNumber (2 ^ 32) text (result_ok r)
u32_of text m (Ok x) e fits h = (e ∙ ap decimal (sym h.1), rw h.1 h.0)
u32_of text m (Err x) e fits h = λ n small f. let same : m ≡ n = decimal_injective m n fits (omega arith) (sym e ∙ f) in h (omega arith)
