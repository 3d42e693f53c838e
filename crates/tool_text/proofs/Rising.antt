-- Positions rise with their offsets.
use Rattle.std.proofs.Common.{◌≡◌, ◌+◌, ◌-◌, ◌<◌, ◌≤◌, ◌⊎◌, inl, inr, ℕ, zero, suc, Bool, true, false, List, length, take, get_or, refl, sym, ap, ◌∙◌, arith}
use Rattle.std.specs.Prelude.{count_by}
use Rattle.std.specs.List.{suffix_len}
use Rattle.std.proofs.lemmas.Bool.{cases_lt}
use Rattle.std.proofs.lemmas.List.Sums.{count_by_more_no, count_by_more_yes, suffix_len-take_yes}
use Rattle.tool_text.specs.Laws.{PositionsTellOffsets}
use Rattle.tool_text.specs.Positions.{is_inside_line, is_line_feed, line_position}

abbrev feeds : List ℕ → ℕ → ℕ
feeds text n = count_by is_line_feed (take n text)

abbrev inside : List ℕ → ℕ → ℕ
inside text n = suffix_len is_inside_line (take n text)

-- One byte further, there is one more line, or the same line with one more byte.
record Further (text : List ℕ) (n : ℕ) : Type 0 where
  line : feeds text (n + 1) ≡ feeds text n
  column : inside text (n + 1) ≡ inside text n + 1

further : (text : List ℕ) (n : ℕ) → n < length text → (feeds text (n + 1) ≡ feeds text n + 1) ⊎ Further text n
further text n h = go (is_line_feed (get_or text n 0)) refl
  where
    back : n + 1 - 1 ≡ n
    back = omega arith

    go : (b : Bool) → is_line_feed (get_or text n 0) ≡ b → (feeds text (n + 1) ≡ feeds text n + 1) ⊎ Further text n
    go true e = inl (count_by_more_yes is_line_feed text n 0 h e)
    go false e =
        let low : 0 < n + 1 = omega arith in
        let within : n + 1 ≤ length text = omega (arith, h) in
        let stays : is_inside_line (get_or text (n + 1 - 1) 0) ≡ true = rw (back, e) refl in
        let one : inside text (n + 1) ≡ 1 + suffix_len is_inside_line (take (n + 1 - 1) text) =
        suffix_len-take_yes is_inside_line text (n + 1) 0 low within stays in
        let same : suffix_len is_inside_line (take (n + 1 - 1) text) ≡ inside text n = rw back refl in
        inr (record { line = count_by_more_no is_line_feed text n 0 h e; column = omega (arith, one, same) })

-- Some bytes further, there are more lines, or the same line with so many more bytes.
rises : (text : List ℕ) (a d : ℕ) → a + d ≤ length text
    → (feeds text a < feeds text (a + d)) ⊎ ((feeds text (a + d) ≡ feeds text a) × (inside text (a + d) ≡ inside text a + d))
rises text a zero h = let none : a + 0 ≡ a = omega arith in inr (ap (feeds text) none, ap (inside text) none ∙ sym (omega arith))
rises text a (suc d) h =
    let next : a + suc d ≡ a + d + 1 = omega arith in
    rw next (go (rises text a d (omega (arith, h))) (further text (a + d) (omega (arith, h))))
  where
    go : (feeds text a < feeds text (a + d)) ⊎ ((feeds text (a + d) ≡ feeds text a) × (inside text (a + d) ≡ inside text a + d))
        → (feeds text (a + d + 1) ≡ feeds text (a + d) + 1) ⊎ Further text (a + d)
        → (feeds text a < feeds text (a + d + 1)) ⊎ ((feeds text (a + d + 1) ≡ feeds text a) × (inside text (a + d + 1) ≡ inside text a + suc d))
    go (inl more) (inl one) = inl (omega (arith, more, one))
    go (inl more) (inr same) = let line = same.line in inl (omega (arith, more, line))
    go (inr level) (inl one) = let line = level.0 in inl (omega (arith, line, one))
    go (inr level) (inr same) =
        let before = level.0 in
        let bytes = level.1 in
        let line = same.line in
        let column = same.column in
        inr (omega (arith, before, line), omega (arith, bytes, column))

apart : (text : List ℕ) (a d : ℕ) → a + d ≤ length text → line_position text a ≡ line_position text (a + d) → d ≡ 0
apart text a d h e =
    let lines : feeds text a + 1 ≡ feeds text (a + d) + 1 = ap (λ p. p.line) e in
    let columns : inside text a + 1 ≡ inside text (a + d) + 1 = ap (λ p. p.column) e in
    elim (rises text a d h) [
      | inl more ↦ absurd (omega (arith, more, lines))
      | inr level ↦ let bytes = level.1 in omega (arith, bytes, columns)
    ]

later : (text : List ℕ) (a b : ℕ) → a ≤ b → b ≤ length text → line_position text a ≡ line_position text b → a ≡ b
later text a b low k e =
    let d : a + (b - a) ≡ b = omega (arith, low) in
    let within : a + (b - a) ≤ length text = omega (arith, d, k) in
    let same : line_position text a ≡ line_position text (a + (b - a)) = e ∙ ap (line_position text) (sym d) in
    let none : b - a ≡ 0 = apart text a (b - a) within same in
    omega (arith, none, low)

pub positions_apart : PositionsTellOffsets
positions_apart text a b h k e = elim (cases_lt a b) [
  | inl below ↦ later text a b (omega (arith, below)) k e
  | inr above ↦ sym (later text b a above h (sym e))
]
