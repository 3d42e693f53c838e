-- The symbols of a text in which one declaration gets a new name.
use Rattle.std.proofs.Common.{◌≡◌, ◌∙◌, ◌==◌, ◌&&◌, ◌%◌, ◌/◌, ◌<◌, ◌+◌, inl, inr, ℕ, zero, suc, Bool, true, false, not, if◌then◌else◌, List, [], ◌∷◌, ◌++◌}
use Rattle.std.proofs.Common.{append_assoc, append-nil, refl, sym, ap, subst, codes, drop, get_or, arith}
use Rattle.std.specs.Prelude.{None, Some, nat_lt}
use Rattle.std.specs.Cmp.Lexicographic.{bytes_decides}
use Rattle.std.specs.Fmt.{decimal, digits, digits_onto, digit_glyph}
use Rattle.std.specs.List.{flat_map, list_all}
use Rattle.std.proofs.lemmas.Bool.{and_parts, cases_Bool, cases_lt, false≢true}
use Rattle.std.proofs.lemmas.Bool.Decides.{eqb_tells}
use Rattle.build_object.specs.Lines.{GlobalName, FunctionName, Plain, Method, Initializer}
use Rattle.build_object.specs.Text.{bytes_text, function_text, global_text, hex_byte, hex_digit}
use Rattle.build_names.specs.Words.{NameChange, is_symbol_end, symbol_text, word_by, word_with}
use Rattle.build_names.proofs.Symbols.{behind_none, behind_some}
use Rattle.law_objects.specs.Replaced.{renamed_global, function_of_global, same_bytes}
use Rattle.law_objects.specs.Legible.{IsLegible, IsLegibleChange, IsLegibleGlobal, IsLegibleFunction, is_name_byte}
use Rattle.law_objects.proofs.Turns.{Turns, is_plain, is_whole, legible_both, legible_plain, legible_whole, plain_both, turns_word, whole_both}

-- two texts up to their first `#`

heads : (x y : ℕ) (a b : List ℕ) → x ∷ a ≡ y ∷ b → x ≡ y
heads x y a b e = ap (λ l. get_or l 0 0) e

tails : (x y : ℕ) (a b : List ℕ) → x ∷ a ≡ y ∷ b → a ≡ b
tails x y a b e = ap (drop 1) e

is_none : (x : ℕ) (a : List ℕ) → x ∷ a ≡ [] → ⊥
is_none x a e = cc

no_hash_first : (x : ℕ) (a : List ℕ) → is_plain (x ∷ a) ≡ true → x ≡ 35 → ⊥
no_hash_first x a is e = false≢true (and_parts (not (35 == 35)) (is_plain a) (subst (λ (y : ℕ). is_plain (y ∷ a) ≡ true) e is)).0

split_hash : (a b c d : List ℕ) → is_plain a ≡ true → is_plain c ≡ true → a ++ 35 ∷ b ≡ c ++ 35 ∷ d → (a ≡ c) × (b ≡ d)
split_hash [] b [] d p q e = (refl, tails 35 35 b d e)
split_hash [] b (y ∷ c) d p q e = absurd (no_hash_first y c q (sym (heads 35 y b (c ++ 35 ∷ d) e)))
split_hash (x ∷ a) b [] d p q e = absurd (no_hash_first x a p (heads x 35 (a ++ 35 ∷ b) d e))
split_hash (x ∷ a) b (y ∷ c) d p q e =
    let rest = split_hash a b c d (and_parts (not (x == 35)) (is_plain a) p).1 (and_parts (not (y == 35)) (is_plain c) q).1
    (tails x y (a ++ 35 ∷ b) (c ++ 35 ∷ d) e) in
    ((λ i. heads x y (a ++ 35 ∷ b) (c ++ 35 ∷ d) e i ∷ rest.0 i), rest.1)

ends_first : (x : ℕ) (a : List ℕ) → is_symbol_end (x ∷ a) ≡ true → x ≡ 35
ends_first x a is = elim (eqb_tells x 35) [
  | inl alike ↦ alike.1
  | inr other ↦ absurd (false≢true (sym other.0 ∙ is))
]

-- two names, each with nothing or a `#` behind it
split_name : (a t c r : List ℕ) → is_plain a ≡ true → is_plain c ≡ true → is_symbol_end t ≡ true → is_symbol_end r ≡ true → a ++ t ≡ c ++ r → a ≡ c
split_name [] t [] r p q s u e = refl
split_name [] [] (y ∷ c) r p q s u e = absurd (is_none y (c ++ r) (sym e))
split_name [] (x ∷ t) (y ∷ c) r p q s u e = absurd (no_hash_first y c q (sym (heads x y t (c ++ r) e) ∙ ends_first x t s))
split_name (x ∷ a) t [] [] p q s u e = absurd (is_none x (a ++ t) e)
split_name (x ∷ a) t [] (y ∷ r) p q s u e = absurd (no_hash_first x a p (heads x y (a ++ t) r e ∙ ends_first y r u))
split_name (x ∷ a) t (y ∷ c) r p q s u e =
    let rest = split_name a t c r (and_parts (not (x == 35)) (is_plain a) p).1 (and_parts (not (y == 35)) (is_plain c) q).1 s u
    (tails x y (a ++ t) (c ++ r) e) in
    (λ i. heads x y (a ++ t) (c ++ r) e i ∷ rest i)

-- decimal numbers

unfoldable pub below : (p : ℕ → Bool) → ℕ → Bool
below p zero = true
below p (suc n) = p n && below p n

pub at_below : (p : ℕ → Bool) (n k : ℕ) → below p n ≡ true → k < n → p k ≡ true
unfolding below
at_below p zero k all lt = absurd (omega (arith, lt))
at_below p (suc n) k all lt =
    let parts = and_parts (p n) (below p n) all in
    elim (cases_lt k n) [
      | inl less ↦ at_below p n k parts.1 less
      | inr more ↦ (let same : n ≡ k = omega (arith, lt, more) in subst (λ (i : ℕ). p i ≡ true) same parts.0)
    ]

glyphs : below (λ d. is_name_byte (digit_glyph false d) && not (digit_glyph false d == 46)) 10 ≡ true
unfolding below
glyphs = refl

last_digit : (n : ℕ) → n % 10 < 10
last_digit n = omega arith

glyph : (n : ℕ) → is_name_byte (digit_glyph false (n % 10)) ≡ true
glyph n =
    (and_parts (is_name_byte (digit_glyph false (n % 10))) (not (digit_glyph false (n % 10) == 46))
    (at_below (λ d. is_name_byte (digit_glyph false d) && not (digit_glyph false d == 46)) 10 (n % 10) glyphs (last_digit n))).0

with_glyph : (n : ℕ) (acc : List ℕ) → IsLegible acc → IsLegible (digit_glyph false (n % 10) ∷ acc)
with_glyph n acc is = legible_both (digit_glyph false (n % 10) ∷ []) acc (ap (λ b. b && true) (glyph n)) is

onto : (k n : ℕ) (acc : List ℕ) → IsLegible acc → IsLegible (digits_onto k 10 false n acc)
onto zero n acc is = is
onto (suc k) n acc is =
    by_test (n / 10 == 0) (digit_glyph false (n % 10) ∷ acc) (digits_onto k 10 false (n / 10) (digit_glyph false (n % 10) ∷ acc)) (with_glyph n acc is)
    (onto k (n / 10) (digit_glyph false (n % 10) ∷ acc) (with_glyph n acc is))
  where
    by_test : (b : Bool) (x y : List ℕ) → IsLegible x → IsLegible y → IsLegible (if b then x else y)
    by_test true x y p q = p
    by_test false x y p q = q

pub legible_decimal : (n : ℕ) → IsLegible (decimal n)
unfolding digits
legible_decimal n = onto 64 n [] refl

-- the digits of bytes

plain_digit : (d : ℕ) → is_plain (hex_digit d ∷ []) ≡ true
plain_digit d = elim (cases_Bool (nat_lt d 10)) [
  | inl less ↦ ap (λ b. is_plain ((if b then 48 + d else 87 + d) ∷ [])) less ∙ large 48 d (omega arith)
  | inr more ↦ ap (λ b. is_plain ((if b then 48 + d else 87 + d) ∷ [])) more ∙ large 87 d (omega arith)
]
  where
    large : (k e : ℕ) → 35 < k → is_plain ((k + e) ∷ []) ≡ true
    large k e more = elim (eqb_tells (k + e) 35) [
      | inl alike ↦ absurd (omega (arith, more, alike.1))
      | inr other ↦ ap (λ b. not b && true) other.0
    ]

pub plain_hex : (bytes : List ℕ) → is_plain (bytes_text bytes) ≡ true
plain_hex bytes = plain_both (codes "x") (flat_map hex_byte bytes) refl (each bytes)
  where
    each : (bs : List ℕ) → is_plain (flat_map hex_byte bs) ≡ true
    each [] = refl
    each (b ∷ bs) =
        plain_both (hex_byte b) (flat_map hex_byte bs)
        (plain_both (hex_digit (b / 16) ∷ []) (hex_digit (b % 16) ∷ []) (plain_digit (b / 16)) (plain_digit (b % 16))) (each bs)

-- symbols

module _ (c : NameChange) (is : IsLegibleChange c) where
  abbrev old : List ℕ
  old = symbol_text c.path c.old

  abbrev new : List ℕ
  new = symbol_text c.path c.new

  abbrev by : GlobalName → GlobalName
  by = renamed_global c.path c.old c.new

  same_name : (g : GlobalName) → g.path ≡ c.path → g.name ≡ c.old → by g ≡ record { path = c.path; name = c.new }
  same_name g p n =
      ap (λ b. if b then record { path = c.path; name = c.new } else g)
      (ap (λ b. b && same_bytes g.name c.old) ((bytes_decides g.path c.path).1 p) ∙ (bytes_decides g.name c.old).1 n)

  other_name : (g : GlobalName) → (g.path ≡ c.path → g.name ≡ c.old → ⊥) → by g ≡ g
  other_name g not = by_test (same_bytes g.path c.path) (same_bytes g.name c.old)
      (λ p n. not ((bytes_decides g.path c.path).0 p) ((bytes_decides g.name c.old).0 n))
    where
      by_test : (a b : Bool) → (a ≡ true → b ≡ true → ⊥) → (if a && b then record { path = c.path; name = c.new } else g) ≡ g
      by_test true true k = absurd (k refl refl)
      by_test true false k = refl
      by_test false b k = refl

  -- a symbol with nothing or a `#` behind it
  symbol_word : (g : GlobalName) → IsLegibleGlobal g → (tail : List ℕ) → is_symbol_end tail ≡ true →
      word_with old new (global_text g ++ tail) ≡ global_text (by g) ++ tail
  symbol_word g named tail ends =
      elim (cases_Bool (same_bytes g.path c.path)) [
        | inl p ↦
            elim (cases_Bool (same_bytes g.name c.old)) [
              | inl n ↦
                  (let path : g.path ≡ c.path = (bytes_decides g.path c.path).0 p in
                  let name : g.name ≡ c.old = (bytes_decides g.name c.old).0 n in
                  let whole : global_text g ≡ old = (λ i. path i ++ (codes "#" ++ name i)) in
                  ap (λ l. word_with old new (l ++ tail)) whole
                  ∙ ap (word_by new (old ++ tail)) (behind_some old tail ends)
                  ∙ ap (λ h. global_text h ++ tail) (sym (same_name g path name)))
              | inr n ↦ stays (λ path name. false≢true (sym n ∙ (bytes_decides g.name c.old).1 name))
            ]
        | inr p ↦ stays (λ path name. false≢true (sym p ∙ (bytes_decides g.path c.path).1 path))
      ]
    where
      stays : (g.path ≡ c.path → g.name ≡ c.old → ⊥) → word_with old new (global_text g ++ tail) ≡ global_text (by g) ++ tail
      stays not =
          ap (word_by new (global_text g ++ tail))
          (behind_none old (global_text g ++ tail) (λ rest e stop.
          let apart = split_hash g.path (g.name ++ tail) c.path (c.old ++ rest) (legible_plain g.path named.0) (legible_plain c.path is.path)
          (sym (append_assoc g.path (35 ∷ g.name) tail) ∙ e ∙ append_assoc c.path (35 ∷ c.old) rest) in
          not apart.0 (split_name g.name tail c.old rest (legible_plain g.name named.1) (legible_plain c.old is.old) ends stop apart.1)))
          ∙ ap (λ h. global_text h ++ tail) (sym (other_name g not))

  whole_global : (g : GlobalName) → IsLegibleGlobal g → is_whole (global_text g) ≡ true
  whole_global g named = whole_both g.path (35 ∷ g.name) (legible_whole g.path named.0) (whole_both (35 ∷ []) g.name refl (legible_whole g.name named.1))

  pub turns_global : (g : GlobalName) → IsLegibleGlobal g → Turns c.path c.old new (global_text g) (global_text (by g))
  turns_global g named =
      subst (Turns c.path c.old new (global_text g))
      (ap (word_with old new) (sym (append-nil (global_text g))) ∙ symbol_word g named [] refl ∙ append-nil (global_text (by g)))
      (turns_word c.path c.old new (global_text g) (whole_global g named))

  -- a point is in the name of a function `init`, and not in the old name
  no_point : (k : ℕ) → codes "init." ++ decimal k ≡ c.old → ⊥
  no_point k e = false≢true (subst (λ l. list_all (λ b. not (b == 46)) l ≡ true) (sym e) is.no_point)

  pub turns_function : (f : FunctionName) → IsLegibleFunction f → Turns c.path c.old new (function_text f) (function_text (function_of_global by f))
  unfolding function_text
  turns_function (Plain g) named = turns_global g named
  turns_function (Method g name) named =
      subst (Turns c.path c.old new (global_text g ++ 35 ∷ name)) (symbol_word g named.0 (35 ∷ name) refl)
      (turns_word c.path c.old new (global_text g ++ 35 ∷ name)
      (whole_both (global_text g) (35 ∷ name) (whole_global g named.0) (whole_both (35 ∷ []) name refl (legible_whole name named.1))))
  turns_function (Initializer path k) named =
      let g : GlobalName = record { path = path; name = codes "init." ++ decimal k } in
      subst (Turns c.path c.old new (global_text g)) (ap global_text (other_name g (λ p n. no_point k n)))
      (turns_global g (named, legible_both (codes "init.") (decimal k) refl (legible_decimal k)))
