-- A path and an offset in one word, with `:#` between.
use Rattle.std.proofs.Common.{◌≡◌, ◌≢◌, ℕ, ◌+◌, ◌^◌, ◌<◌, List, [], ◌∷◌, ◌++◌, length, take, drop, Option, None, Some, refl, sym, ap, ◌∙◌, arith}
use Rattle.std.proofs.Common.{append_assoc, decimal, codes, length-append, take-append-drop}
use Rattle.std.specs.Prelude.{MatchOption}
use Rattle.std.specs.Borrow.{Bor}
use Rattle.std.specs.Int.{IsInRange}
use Rattle.std.specs.Str.Pattern.{RFindsText, SplitsAroundMatch}
use Rattle.std.proofs.lemmas.List.{drop_at, drop-drop}
use Rattle.std.proofs.lemmas.Fmt.{decimal_injective}
use Rattle.server_read.specs.Words.{HasNoSpace, HasNoMark}
use Rattle.server_read.specs.Lines.{place_word}
use Rattle.server_read.specs.Parsing.{SplitsPlace}
use Rattle.server_read.proofs.Words.{HasNone, none_within, decimal_none, decimal_word}

no_mark : (text : List ℕ) → HasNone 58 text → HasNoMark text
no_mark text h = λ front back e. none_within 58 text front (35 ∷ back) h e

abbrev HasNoPair : ℕ → ℕ → List ℕ → Type 0
HasNoPair a b text = (front back : List ℕ) → text ≢ front ++ a ∷ b ∷ back

-- the last position of two given bytes next to each other is unique
pair_unique : (a b : ℕ) → b ≢ a → (xs ys zs ws : List ℕ) → HasNoPair a b ys → HasNoPair a b ws → xs ++ a ∷ b ∷ ys ≡ zs ++ a ∷ b ∷ ws → (xs ≡ zs) × (ys ≡ ws)
pair_unique a b ne [] ys [] ws h k e = (refl, cc)
pair_unique a b ne [] ys (z ∷ []) ws h k e = absurd (ne cc)
pair_unique a b ne [] ys (z ∷ y ∷ zs) ws h k e = let rest : ys ≡ zs ++ a ∷ b ∷ ws = cc in absurd (h zs ws rest)
pair_unique a b ne (x ∷ []) ys [] ws h k e = absurd (ne cc)
pair_unique a b ne (x ∷ y ∷ xs) ys [] ws h k e = let rest : ws ≡ xs ++ a ∷ b ∷ ys = cc in absurd (k xs ys rest)
pair_unique a b ne (x ∷ xs) ys (z ∷ zs) ws h k e =
    let rest : xs ++ a ∷ b ∷ ys ≡ zs ++ a ∷ b ∷ ws = cc in
    let same : x ≡ z = cc in
    let others = pair_unique a b ne xs ys zs ws h k rest in
    (ap (λ l. x ∷ l) others.0 ∙ ap (λ y. y ∷ zs) same, others.1)

is_another : (a b : ℕ) → a < b → a ≢ b
is_another a b h = λ e. absurd (omega (arith, h, e))

pub mark_unique : (xs ys zs ws : List ℕ) → HasNoMark ys → HasNoMark ws → xs ++ 58 ∷ 35 ∷ ys ≡ zs ++ 58 ∷ 35 ∷ ws → (xs ≡ zs) × (ys ≡ ws)
mark_unique xs ys zs ws h k e = pair_unique 58 35 (is_another 35 58 (omega arith)) xs ys zs ws h k e

no_colon : ¬ (IsInRange 48 57 58)
no_colon h = absurd (omega (arith, h.0, h.1))

pub decimal_no_mark : (n : ℕ) → n < 2 ^ 32 → HasNoMark (decimal n)
decimal_no_mark n h = no_mark (decimal n) (decimal_none 58 n (omega (arith, h)) no_colon)

pub place_word_is : (path : List ℕ) (offset : ℕ) → place_word path offset ≡ path ++ 58 ∷ 35 ∷ decimal offset
place_word_is path offset = append_assoc path (58 ∷ 35 ∷ []) (decimal offset)

pub place_word_unique : (path other : List ℕ) (m n : ℕ) → m < 2 ^ 32 → n < 2 ^ 32 → place_word path m ≡ place_word other n → (path ≡ other) × (m ≡ n)
place_word_unique path other m n h k e =
    let same = mark_unique path (decimal m) other (decimal n) (decimal_no_mark m h) (decimal_no_mark n k)
    (sym (place_word_is path m) ∙ e ∙ place_word_is other n) in
    (same.0, decimal_injective m n (omega (arith, h)) (omega (arith, k)) same.1)

no_space_append : (xs ys : List ℕ) → HasNoSpace xs → HasNoSpace ys → HasNoSpace (xs ++ ys)
no_space_append [] ys h k = k
no_space_append (x ∷ xs) ys h k = (h.0, no_space_append xs ys h.1 k)

not_32 : (n : ℕ) → 32 < n → n ≢ 32
not_32 n h = λ e. absurd (omega (arith, h, e))

pub place_word_no_space : (path : List ℕ) (offset : ℕ) → HasNoSpace path → offset < 2 ^ 32 → HasNoSpace (place_word path offset)
place_word_no_space path offset h k =
    rw (place_word_is path offset)
    (no_space_append path (58 ∷ 35 ∷ decimal offset) h (not_32 58 (omega arith), (not_32 35 (omega arith), decimal_word offset (omega (arith, k)))))

-- the result of a search for `:#` from the end
pub last_mark : (text : List ℕ) (r : Option (Bor (List ℕ) × Bor (List ℕ)))
    → MatchOption r (RFindsText (codes ":#") text None) (λ x. SplitsAroundMatch (RFindsText (codes ":#")) text x.0.now x.1.now) → SplitsPlace text r
last_mark text None h = λ front back e.
    h (length front) (omega (arith, ap length e, length-append front (58 ∷ 35 ∷ back))) back
    (ap (drop (length front)) e ∙ drop_at front (58 ∷ 35 ∷ back) (length front) refl)
last_mark text (Some x) h = (
  sym (take-append-drop h.0 text) ∙ ap (λ l. take h.0 text ++ l) h.2.1.split ∙ (λ k. sym h.3 k ++ 58 ∷ 35 ∷ sym h.4 k),
  λ front back e.
      let further = length front in
      let found : drop (h.1 + further) text ≡ 58 ∷ 35 ∷ back =
      sym (drop-drop further h.1 text) ∙ ap (drop further) (sym h.4 ∙ e) ∙ drop_at front (58 ∷ 35 ∷ back) further refl in
      h.2.0 (h.1 + further) (omega (arith, h.2.1.ends)) (omega (arith, h.7, ap length e, length-append front (58 ∷ 35 ∷ back))) back found,
)
