-- The units of characters.
use Rattle.std.proofs.Common.{◌≡◌, ◌∙◌, ◌+◌, ◌/◌, ◌%◌, ◌<◌, ◌≤◌, ◌⊎◌, inl, inr, ℕ, false, List, [], ◌∷◌, length, refl, sym, ap, length-append, arith}
use Rattle.std.specs.Char.{encode_utf8}
use Rattle.std.specs.Char.Escape.{encode_utf16}
use Rattle.std.specs.List.{flat_map}
use Rattle.std.specs.Str.{encode_utf8_all}
use Rattle.std.proofs.lemmas.Bool.{and_left, and_right, cases_lt, le-ltb, lt-leb, lt-ltb, le-leb}
use Rattle.std.proofs.lemmas.List.Sums.{sum_by-append, sum_by-cons}
use Rattle.std.proofs.lemmas.Str.{chars_from_encodes}
use Rattle.lsp_position.specs.Laws.{UnitsAreCounted}
use Rattle.lsp_position.specs.Units.{continues_character, unit_count, units}
use Rattle.lsp_position.specs.declared.units.PositionEncoding.TheVariants.{Utf8, Utf16}

bytes_counted : (text : List ℕ) → units Utf8 text ≡ length text
bytes_counted [] = refl
bytes_counted (x ∷ text) = let more = sum_by-cons (unit_count Utf8) x text in let rest = bytes_counted text in omega (arith, more, rest)

-- what each byte of a character adds
one_unit : (byte : ℕ) → (byte < 128) ⊎ ((192 ≤ byte) × (byte < 240)) → unit_count Utf16 byte ≡ 1
one_unit byte (inl low) =
    let begins : continues_character byte ≡ false = and_left _ _ (lt-leb 128 byte low) in
    let narrow = lt-ltb byte 240 (omega (arith, low)) in rw (begins, narrow) refl
one_unit byte (inr range) =
    let from = range.0 in
    let begins : continues_character byte ≡ false = and_right _ _ (le-ltb byte 192 from) in
    let narrow = lt-ltb byte 240 range.1 in rw (begins, narrow) refl

two_units : (byte : ℕ) → 240 ≤ byte → unit_count Utf16 byte ≡ 2
two_units byte from =
    let begins : continues_character byte ≡ false = and_right _ _ (le-ltb byte 192 (omega (arith, from))) in
    let wide = le-ltb byte 240 from in rw (begins, wide) refl

no_unit : (bits : ℕ) → unit_count Utf16 (128 + bits % 64) ≡ 0
no_unit bits =
    let from = le-leb 128 (128 + bits % 64) (omega arith) in
    let below = lt-ltb (128 + bits % 64) 192 (omega arith) in
    rw (from, below) refl

narrow_units : (c : ℕ) → c < 65536 → length (encode_utf16 c) ≡ 1
narrow_units c h = let e = lt-ltb c 65536 h in rw e refl

wide_units : (c : ℕ) → 65536 ≤ c → length (encode_utf16 c) ≡ 2
wide_units c h = let e = le-ltb c 65536 h in rw e refl

one_byte : (c : ℕ) → c < 128 → units Utf16 (encode_utf8 c) ≡ 1
unfolding encode_utf8
one_byte c h = let e = lt-ltb c 128 h in let u = one_unit c (inl h) in rw e (omega (arith, u))

two_bytes : (c : ℕ) → 128 ≤ c → c < 2048 → units Utf16 (encode_utf8 c) ≡ 1
unfolding encode_utf8
two_bytes c low high =
    let e = le-ltb c 128 low in
    let f = lt-ltb c 2048 high in
    let u = one_unit (192 + c / 64) (inr (omega arith, omega (arith, high))) in
    let v = no_unit c in
    rw (e, f) (omega (arith, u, v))

three_bytes : (c : ℕ) → 2048 ≤ c → c < 65536 → units Utf16 (encode_utf8 c) ≡ 1
unfolding encode_utf8
three_bytes c low high =
    let e = le-ltb c 128 (omega (arith, low)) in
    let f = le-ltb c 2048 low in
    let g = lt-ltb c 65536 high in
    let u = one_unit (224 + c / 4096) (inr (omega arith, omega (arith, high))) in
    let v = no_unit (c / 64) in
    let w = no_unit c in
    rw (e, f, g) (omega (arith, u, v, w))

four_bytes : (c : ℕ) → 65536 ≤ c → units Utf16 (encode_utf8 c) ≡ 2
unfolding encode_utf8
four_bytes c low =
    let e = le-ltb c 128 (omega (arith, low)) in
    let f = le-ltb c 2048 (omega (arith, low)) in
    let g = le-ltb c 65536 low in
    let u = two_units (240 + c / 262144) (omega arith) in
    let v = no_unit (c / 4096) in
    let w = no_unit (c / 64) in
    let x = no_unit c in
    rw (e, f, g) (omega (arith, u, v, w, x))

one_counted : (c : ℕ) → units Utf16 (encode_utf8 c) ≡ length (encode_utf16 c)
one_counted c = elim (cases_lt c 128) [
  | inl a ↦ one_byte c a ∙ sym (narrow_units c (omega (arith, a)))
  | inr a ↦ elim (cases_lt c 2048) [
    | inl b ↦ two_bytes c a b ∙ sym (narrow_units c (omega (arith, b)))
    | inr b ↦ elim (cases_lt c 65536) [
      | inl d ↦ three_bytes c b d ∙ sym (narrow_units c d)
      | inr d ↦ four_bytes c d ∙ sym (wide_units c d)
    ]
  ]
]

chars_counted : (cs : List ℕ) → units Utf16 (encode_utf8_all cs) ≡ length (flat_map encode_utf16 cs)
chars_counted [] = refl
chars_counted (c ∷ cs) =
    let both = sum_by-append (unit_count Utf16) (encode_utf8 c) (encode_utf8_all cs) in
    let joined = length-append (encode_utf16 c) (flat_map encode_utf16 cs) in
    let first = one_counted c in
    let others = chars_counted cs in
    both ∙ (ap (λ n. n + units Utf16 (encode_utf8_all cs)) first ∙ (ap (λ n. length (encode_utf16 c) + n) others ∙ sym joined))

pub counted : UnitsAreCounted
counted text utf8 =
    let same = chars_from_encodes utf8.0 text utf8 utf8.1.1 in (
      bytes_counted text,
      sym (ap (units Utf16) utf8.1.1) ∙ (chars_counted utf8.0 ∙ ap (λ cs. length (flat_map encode_utf16 cs)) same),
    )
