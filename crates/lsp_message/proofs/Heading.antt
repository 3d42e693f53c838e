-- Lines of headers say one thing, and those of frames say how long the body is.
use Rattle.std.proofs.Common.{◌≡◌, ◌≢◌, ◌∙◌, ◌+◌, ◌-◌, ◌<◌, ◌≤◌, ◌^◌, ℕ, zero, suc, Bool, true, false, List, [], ◌∷◌, ◌++◌, Some}
use Rattle.std.proofs.Common.{length, take, drop, get_or, refl, sym, ap, subst, append-nil}
use Rattle.std.proofs.Common.{append_assoc, length-append, length-drop, ltb, ◌==◌, Option, None, inl, inr, arith}
use Rattle.std.specs.Prelude.{codes, decimal}
use Rattle.std.specs.Char.{digit_value, is_ascii_whitespace}
use Rattle.std.specs.List.{position_or_len, prefix_len}
use Rattle.std.specs.Str.{IsTrimAscii, IsUtf8}
use Rattle.std.specs.Str.Parse.{AllDigits, IsNumeral}
use Rattle.std.proofs.lemmas.Bool.{cases_lt, le-ltb, lt-ltb}
use Rattle.std.proofs.lemmas.Bool.Decides.{nat_tests}
use Rattle.std.proofs.lemmas.Fmt.{decimal_is_IsNumeral}
use Rattle.std.proofs.lemmas.List.{get_or_past, get_or_push, take_at}
use Rattle.std.proofs.lemmas.Str.{IsUtf8-from_ascii}
use Rattle.std.proofs.lemmas.Str.Ascii.{trim_ascii_is}
use Rattle.std.proofs.lemmas.Str.Parse.{digit_from_value}
use Rattle.lsp_message.specs.Headers.{HeaderSays, IsLengthField, IsSizeText, SaysSize, field_of, without_return}
use Rattle.lsp_message.specs.Laws.{HeadersOfFrames, LinesSayOneThing, length_line}
use Rattle.lsp_message.specs.declared.header.HeaderField.{HeaderField}
use Rattle.lsp_message.specs.declared.header.HeaderField.TheVariants.{End, Length, NoLength, Other}

one_trim : (s r t : List ℕ) → IsTrimAscii s r → IsTrimAscii s t → r ≡ t
one_trim s r t h k =
    let from : List ℕ = drop (prefix_len is_ascii_whitespace s) s in
    trim_ascii_is s r from refl h ∙ sym (trim_ascii_is s t from refl k)

one_size : (text : List ℕ) (a b : ℕ) → IsSizeText text a → IsSizeText text b → a ≡ b
one_size text a b h k = h.1 ∙ sym k.1

some_one : (p q : List ℕ × List ℕ) → Some p ≡ Some q → p ≡ q
some_one p q e = cc

second : List ℕ × List ℕ → List ℕ
second p = p.1

some_pair : (line a b c d : List ℕ) → field_of line ≡ Some (a, b) → field_of line ≡ Some (c, d) → b ≡ d
unfolding second
some_pair line a b c d h k =
    let p : List ℕ × List ℕ = (a, b) in
    let q : List ℕ × List ℕ = (c, d) in
    let e : p ≡ q = some_one p q (sym h ∙ k) in
    ap second e

one_value : (line a b : List ℕ) → IsLengthField line a → IsLengthField line b → a ≡ b
one_value line a b h k = some_pair line h.0 a k.0 b h.1 k.1

same_size : (value : List ℕ) (a b : HeaderField) → SaysSize value a → SaysSize value b → a ≡ b
same_size value (Length n) (Length m) h k =
    let same : h.0 ≡ k.0 = one_trim value h.0 k.0 h.1 k.1 in
    let number : n ≡ m = one_size k.0 n m (subst (λ t. IsSizeText t n) same h.2) k.2 in
    ap Length number
same_size value (Length n) NoLength h k =
    let same : h.0 ≡ k.0 = one_trim value h.0 k.0 h.1 k.1 in absurd (k.2 n (subst (λ t. IsSizeText t n) same h.2))
same_size value NoLength (Length m) h k =
    let same : k.0 ≡ h.0 = one_trim value k.0 h.0 k.1 h.1 in absurd (h.2 m (subst (λ t. IsSizeText t m) same k.2))
same_size value NoLength NoLength h k = refl
same_size value End b h k = absurd h
same_size value Other b h k = absurd h
same_size value (Length n) End h k = absurd k
same_size value (Length n) Other h k = absurd k
same_size value NoLength End h k = absurd k
same_size value NoLength Other h k = absurd k

module _ (line : List ℕ) (a b : HeaderField) where
  same_field : (x y : List ℕ) → IsLengthField (without_return line) x → IsLengthField (without_return line) y → SaysSize x a → SaysSize y b → a ≡ b
  same_field x y h k p q =
      let same : y ≡ x = one_value (without_return line) y x k h in same_size x a b p (subst (λ v. SaysSize v b) same q)

pub one_thing : LinesSayOneThing
one_thing line End End h k = refl
one_thing line End Other h k = absurd (k.0 h)
one_thing line End (Length m) h k = absurd (k.0 h)
one_thing line End NoLength h k = absurd (k.0 h)
one_thing line Other End h k = absurd (h.0 k)
one_thing line Other Other h k = refl
one_thing line Other (Length m) h k = absurd (h.1 k.1.0 k.1.1)
one_thing line Other NoLength h k = absurd (h.1 k.1.0 k.1.1)
one_thing line (Length n) End h k = absurd (h.0 k)
one_thing line (Length n) Other h k = absurd (k.1 h.1.0 h.1.1)
one_thing line (Length n) (Length m) h k = same_field line (Length n) (Length m) h.1.0 k.1.0 h.1.1 k.1.1 h.1.2 k.1.2
one_thing line (Length n) NoLength h k = same_field line (Length n) NoLength h.1.0 k.1.0 h.1.1 k.1.1 h.1.2 k.1.2
one_thing line NoLength End h k = absurd (h.0 k)
one_thing line NoLength Other h k = absurd (k.1 h.1.0 h.1.1)
one_thing line NoLength (Length m) h k = same_field line NoLength (Length m) h.1.0 k.1.0 h.1.1 k.1.1 h.1.2 k.1.2
one_thing line NoLength NoLength h k = refl

-- a carriage return at the end is left out
without_last : (xs : List ℕ) → without_return (xs ++ 13 ∷ []) ≡ xs
without_last xs =
    let one : length (xs ++ 13 ∷ []) ≡ length xs + 1 = length-append xs (13 ∷ []) in
    let last : length (xs ++ 13 ∷ []) - 1 ≡ length xs = omega (arith, one) in
    let there : get_or (xs ++ 13 ∷ []) (length xs) 0 ≡ 13 = get_or_push xs 13 0 (length xs) refl in
    rw last (rw there (take_at xs (13 ∷ []) (length xs) refl))

-- a digit is no blank
not_blank : (c : ℕ) → 48 ≤ c → c ≤ 57 → is_ascii_whitespace c ≡ false
not_blank c low high = grind (arith, nat_tests)

digit_at : (ds : List ℕ) (i : ℕ) → AllDigits 10 ds → i < length ds → digit_value (get_or ds i 0) < 10
digit_at [] i h low = absurd (omega (arith, low))
digit_at (x ∷ ds) zero h low = h.0
digit_at (x ∷ ds) (suc i) h low = digit_at ds i h.1 (omega (arith, low))

no_blank_at : (ds : List ℕ) (i : ℕ) → AllDigits 10 ds → i < length ds → is_ascii_whitespace (get_or ds i 0) ≡ false
no_blank_at ds i h low = let range = digit_from_value (get_or ds i 0) (digit_at ds i h low) in not_blank (get_or ds i 0) range.0 range.1

take_whole : (ds : List ℕ) → ds ≡ take (length ds) ds
take_whole ds = sym (sym (ap (take (length ds)) (append-nil ds)) ∙ take_at ds [] (length ds) refl)

take_all : (n : ℕ) (xs : List ℕ) → n ≡ length xs → xs ≡ take n xs
take_all n xs e = take_whole xs ∙ ap (λ k. take k xs) (sym e)

abbrev is_colon : ℕ → Bool
is_colon byte = byte == 58

module _ (line : List ℕ) (at : ℕ) (here : at ≡ position_or_len is_colon line) where
  -- a line with a colon has two parts
  pub two_parts : at < length line → field_of line ≡ Some (take at line, take (length line - (at + 1)) (drop (at + 1) line))
  two_parts h =
      let low : position_or_len is_colon line < length line = omega (arith, here, h) in
      let t : ltb (position_or_len is_colon line) (length line) ≡ true = lt-ltb (position_or_len is_colon line) (length line) low in
      let back : position_or_len is_colon line ≡ at = sym here in
      let size : length line - (at + 1) ≡ length (drop (at + 1) line) = sym (length-drop (at + 1) line) in
      let whole : drop (at + 1) line ≡ take (length line - (at + 1)) (drop (at + 1) line) = take_all (length line - (at + 1)) (drop (at + 1) line) size in
      let f : List ℕ → Option (List ℕ × List ℕ) = λ v. Some (take at line, v) in
      rw (t, back) (ap f whole)

  -- and one without has none
  pub no_parts : length line ≤ at → field_of line ≡ None
  no_parts h =
      let t : ltb (position_or_len is_colon line) (length line) ≡ false = le-ltb (position_or_len is_colon line) (length line) (omega (arith, here, h)) in
      rw t refl

-- digits are ASCII
pub digits_are_utf8 : (ds : List ℕ) → AllDigits 10 ds → IsUtf8 ds
digits_are_utf8 ds h = IsUtf8-from_ascii ds (λ i. elim (cases_lt i (length ds)) [
  | inl low ↦ let range = digit_from_value (get_or ds i 0) (digit_at ds i h low) in let most = range.1 in omega (arith, most)
  | inr past ↦ let none = get_or_past ds i 0 past in omega (arith, none)
])

blank_first : (ds : List ℕ) (i : ℕ) → i < 1 → is_ascii_whitespace (get_or (32 ∷ ds) i 0) ≡ true
blank_first ds i h = let first : 0 ≡ i = omega (arith, h) in subst (λ k. is_ascii_whitespace (get_or (32 ∷ ds) k 0) ≡ true) first refl

digits_trimmed : (ds : List ℕ) → IsNumeral 10 ds → IsTrimAscii (32 ∷ ds) ds
digits_trimmed ds h = (
  1,
  take_whole ds,
  blank_first ds,
  (λ _. no_blank_at ds 0 h.1 h.0),
  (λ i low high. absurd (omega (arith, low, high))),
  (λ some. no_blank_at ds (length ds - 1) h.1 (omega (arith, some))),
)

size_said : (body : List ℕ) → length body < 2 ^ 64 → SaysSize (32 ∷ decimal (length body)) (Length (length body))
size_said body h =
    let numeral = decimal_is_IsNumeral (length body) h in
    (decimal (length body), digits_trimmed (decimal (length body)) numeral.0, (numeral.0, sym numeral.1, h))

-- the name and the value of the field that a frame begins with
field_parted : (ds : List ℕ) → field_of (codes "Content-Length: " ++ ds) ≡ Some (codes "Content-Length", 32 ∷ ds)
field_parted ds =
    let long : 14 < length (codes "Content-Length: " ++ ds) = omega arith in
    let e : ltb 14 (length (codes "Content-Length: " ++ ds)) ≡ true = lt-ltb 14 (length (codes "Content-Length: " ++ ds)) long in
    rw e refl

length_said : (body : List ℕ) → length body < 2 ^ 64 → HeaderSays (length_line body) (Length (length body))
length_said body h =
    let ds : List ℕ = decimal (length body) in
    let bare : without_return (length_line body) ≡ codes "Content-Length: " ++ ds = without_last (codes "Content-Length: " ++ ds) in
    let P : List ℕ → Type 0 = λ text. (text ≢ []) × ((value : List ℕ) × IsLengthField text value × SaysSize value (Length (length body))) in
    let found : IsLengthField (codes "Content-Length: " ++ ds) (32 ∷ ds) = (codes "Content-Length", field_parted ds, refl) in
    subst P (sym bare) ((λ e. cc), (32 ∷ ds, found, size_said body h))

pub frames_headed : HeadersOfFrames
frames_headed body h =
    let ds : List ℕ = decimal (length body) in
    let inner : ds ++ (13 ∷ 10 ∷ 13 ∷ 10 ∷ body) ≡ (ds ++ 13 ∷ []) ++ (10 ∷ 13 ∷ 10 ∷ body) = sym (append_assoc ds (13 ∷ []) (10 ∷ 13 ∷ 10 ∷ body)) in
    (ap (λ l. codes "Content-Length: " ++ l) inner, length_said body h, refl)
