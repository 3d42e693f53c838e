-- Positions rise with their offsets, and so each place has a position of its own.
use Rattle.std.proofs.Common.{◌≡◌, ◌+◌, ◌-◌, ◌<◌, ◌≤◌, ◌⊎◌, inl, inr, ℕ, zero, suc, Bool, true, false, List, length, get_or, refl, sym, ap, subst, arith}
use Rattle.std.proofs.lemmas.Bool.{cases_lt, cond_both}
use Rattle.lsp_position.specs.Units.{continues_character, unit_count}
use Rattle.lsp_position.specs.Positions.{editor_position, is_line_end}
use Rattle.lsp_position.specs.Offsets.{IsAtOrBefore, IsEditorPlace}
use Rattle.lsp_position.specs.Laws.{OffsetsKeepOrder, PlacesAreNamed}
use Rattle.lsp_position.specs.declared.units.PositionEncoding.{PositionEncoding}
use Rattle.lsp_position.specs.declared.units.PositionEncoding.TheVariants.{Utf8, Utf16}
use Rattle.lsp_position.specs.declared.positions.EditorPosition.{EditorPosition}
use Rattle.lsp_position.proofs.Stepping.{step_ends, step_goes_on}

pub same_place : (a : EditorPosition) → IsAtOrBefore a a
same_place a = inr (refl, omega arith)

pub in_order : (a b c : EditorPosition) → IsAtOrBefore a b → IsAtOrBefore b c → IsAtOrBefore a c
in_order a b c (inl h) (inl k) = inl (omega (arith, h, k))
in_order a b c (inl h) (inr k) = let line = k.0 in inl (omega (arith, h, line))
in_order a b c (inr h) (inl k) = let line = h.0 in inl (omega (arith, line, k))
in_order a b c (inr h) (inr k) =
    let line = h.0 in
    let next = k.0 in
    let column = h.1 in
    let later = k.1 in
    inr (omega (arith, line, next), omega (arith, column, later))

-- The first position lies before the second.
abbrev pub IsBefore : EditorPosition → EditorPosition → Type 0
IsBefore a b = (a.line < b.line) ⊎ ((a.line ≡ b.line) × (a.character < b.character))

pub not_back : (a b c : EditorPosition) → IsBefore a b → IsAtOrBefore b c → IsAtOrBefore c a → ⊥
not_back a b c (inl h) (inl k) (inl m) = omega (arith, h, k, m)
not_back a b c (inl h) (inl k) (inr m) = let line = m.0 in omega (arith, h, k, line)
not_back a b c (inl h) (inr k) (inl m) = let line = k.0 in omega (arith, h, line, m)
not_back a b c (inl h) (inr k) (inr m) = let line = k.0 in let same = m.0 in omega (arith, h, line, same)
not_back a b c (inr h) (inl k) (inl m) = let line = h.0 in omega (arith, line, k, m)
not_back a b c (inr h) (inl k) (inr m) = let line = h.0 in let same = m.0 in omega (arith, line, k, same)
not_back a b c (inr h) (inr k) (inl m) = let line = h.0 in let same = k.0 in omega (arith, line, same, m)
not_back a b c (inr h) (inr k) (inr m) =
    let column = h.1 in
    let same = k.1 in
    let back = m.1 in
    omega (arith, column, same, back)

-- a byte that continues no character counts
counts : (encoding : PositionEncoding) (byte : ℕ) → continues_character byte ≡ false → 0 < unit_count encoding byte
counts Utf8 byte e = omega arith
counts Utf16 byte e = rw e (cond_both _ 1 2 (λ n. 0 < n) (λ _. omega arith) (λ _. omega arith))

module _ (encoding : PositionEncoding) (text : List ℕ) where
  at_next : (n : ℕ) → n < length text → IsAtOrBefore (editor_position encoding text n) (editor_position encoding text (n + 1))
  at_next n h = go (is_line_end text n) refl
    where
      go : (b : Bool) → is_line_end text n ≡ b → IsAtOrBefore (editor_position encoding text n) (editor_position encoding text (n + 1))
      go true e =
          let next = step_ends encoding text n e in
          let line : (editor_position encoding text (n + 1)).line ≡ (editor_position encoding text n).line + 1 = ap (λ p. p.line) next in
          inl (omega (arith, line))
      go false e =
          let next = step_goes_on encoding text n h e in
          let line : (editor_position encoding text (n + 1)).line ≡ (editor_position encoding text n).line = ap (λ p. p.line) next in
          let column : (editor_position encoding text (n + 1)).character
          ≡ (editor_position encoding text n).character + unit_count encoding (get_or text n 0) = ap (λ p. p.character) next in
          inr (sym line, omega (arith, column))

  moves_on : (n : ℕ) → n < length text → continues_character (get_or text n 0) ≡ false
      → IsBefore (editor_position encoding text n) (editor_position encoding text (n + 1))
  moves_on n h f = go (is_line_end text n) refl
    where
      go : (b : Bool) → is_line_end text n ≡ b → IsBefore (editor_position encoding text n) (editor_position encoding text (n + 1))
      go true e =
          let next = step_ends encoding text n e in
          let line : (editor_position encoding text (n + 1)).line ≡ (editor_position encoding text n).line + 1 = ap (λ p. p.line) next in
          inl (omega (arith, line))
      go false e =
          let next = step_goes_on encoding text n h e in
          let line : (editor_position encoding text (n + 1)).line ≡ (editor_position encoding text n).line = ap (λ p. p.line) next in
          let column : (editor_position encoding text (n + 1)).character
          ≡ (editor_position encoding text n).character + unit_count encoding (get_or text n 0) = ap (λ p. p.character) next in
          let some = counts encoding (get_or text n 0) f in
          inr (sym line, omega (arith, column, some))

  some_on : (a d : ℕ) → a + d ≤ length text → IsAtOrBefore (editor_position encoding text a) (editor_position encoding text (a + d))
  some_on a zero h =
      let none : a ≡ a + 0 = omega arith in
      subst (λ n. IsAtOrBefore (editor_position encoding text a) (editor_position encoding text n)) none (same_place (editor_position encoding text a))
  some_on a (suc d) h =
      let next : a + d + 1 ≡ a + suc d = omega arith in
      subst (λ n. IsAtOrBefore (editor_position encoding text a) (editor_position encoding text n)) next
      (in_order (editor_position encoding text a) (editor_position encoding text (a + d)) (editor_position encoding text (a + d + 1))
      (some_on a d (omega (arith, h))) (at_next (a + d) (omega (arith, h))))

  pub rises : (a b : ℕ) → a ≤ b → b ≤ length text → IsAtOrBefore (editor_position encoding text a) (editor_position encoding text b)
  rises a b low h =
      let d : a + (b - a) ≡ b = omega (arith, low) in
      subst (λ n. IsAtOrBefore (editor_position encoding text a) (editor_position encoding text n)) d (some_on a (b - a) (omega (arith, d, h)))

  whole_at : (offset : ℕ) → continues_character (get_or text 0 0) ≡ false → IsEditorPlace text offset → continues_character (get_or text offset 0) ≡ false
  whole_at offset whole place = elim place.1 [
    | inl none ↦ subst (λ n. continues_character (get_or text n 0) ≡ false) (sym none) whole
    | inr inside ↦ inside.0
  ]

pub places_named : PlacesAreNamed
places_named encoding text offset whole place = record {
  place = place;
  reached = same_place (editor_position encoding text offset);
  last = λ other there at. elim (cases_lt offset other) [
    | inl behind ↦ absurd (let within = there.0 in
        not_back (editor_position encoding text offset) (editor_position encoding text (offset + 1)) (editor_position encoding text other)
        (moves_on encoding text offset (omega (arith, behind, within)) (whole_at encoding text offset whole place))
        (rises encoding text (offset + 1) other (omega (arith, behind)) within) at)
    | inr before ↦ before
  ];
}

pub order_kept : OffsetsKeepOrder
order_kept encoding text a b low high later first second =
    second.last low first.place (in_order (editor_position encoding text low) a b first.reached later)
