-- The position one byte further.
use Rattle.std.proofs.Common.{◌≡◌, ◌∙◌, ◌+◌, ◌-◌, ◌*◌, ◌<◌, ◌≤◌, ℕ, zero, suc, Bool, true}
use Rattle.std.proofs.Common.{false, cond, ltb, List, length, take, drop, get_or, refl, ap, length-drop, length-take, arith}
use Rattle.std.specs.List.{slice_range, sum_by}
use Rattle.std.proofs.lemmas.List.{get_or-drop}
use Rattle.std.proofs.lemmas.Bool.{cond_both}
use Rattle.std.proofs.lemmas.List.Sums.{sum_by-le, sum_by_more}
use Rattle.lsp_position.specs.Units.{continues_character, unit_count, units}
use Rattle.lsp_position.specs.Positions.{editor_position, ends_before, is_line_end, line_begin}
use Rattle.lsp_position.specs.declared.units.PositionEncoding.{PositionEncoding}
use Rattle.lsp_position.specs.declared.units.PositionEncoding.TheVariants.{Utf8, Utf16}
use Rattle.lsp_position.specs.declared.positions.EditorPosition.{EditorPosition}

pub line_begin_le : (text : List ℕ) (n : ℕ) → line_begin text n ≤ n
line_begin_le text zero = omega arith
line_begin_le text (suc n) = go (is_line_end text n) refl (line_begin_le text n)
  where
    go : (b : Bool) → is_line_end text n ≡ b → line_begin text n ≤ n → line_begin text (suc n) ≤ suc n
    go true e low = rw e (omega arith)
    go false e low = rw e (omega (arith, low))

pub ends_before_le : (text : List ℕ) (n : ℕ) → ends_before text n ≤ n
ends_before_le text zero = omega arith
ends_before_le text (suc n) = go (is_line_end text n) refl (ends_before_le text n)
  where
    go : (b : Bool) → is_line_end text n ≡ b → ends_before text n ≤ n → ends_before text (suc n) ≤ suc n
    go true e low = rw e (omega (arith, low))
    go false e low = rw e (omega (arith, low))

few_units : (encoding : PositionEncoding) (byte : ℕ) → unit_count encoding byte ≤ 2
few_units Utf8 byte = omega arith
few_units Utf16 byte =
    cond_both (continues_character byte) 0 (cond (ltb byte 240) 1 2) (λ n. n ≤ 2) (λ _. omega arith)
    (λ _. cond_both (ltb byte 240) 1 2 (λ n. n ≤ 2) (λ _. omega arith) (λ _. omega arith))

pub character_le : (encoding : PositionEncoding) (text : List ℕ) (n : ℕ) → n ≤ length text → (editor_position encoding text n).character ≤ 2 * n
character_le encoding text n h =
    let begin : ℕ = line_begin text n in
    let line : List ℕ = slice_range text begin n in
    let most : sum_by (unit_count encoding) line ≤ length line * 2 = sum_by-le (unit_count encoding) 2 line (λ k d low. few_units encoding (get_or line k d)) in
    let low = line_begin_le text n in
    let size : length line ≡ n - begin = simp (length-take, length-drop) (omega (arith, low, h)) in
    omega (arith, most, size)

-- one byte more in a line
more_units : (encoding : PositionEncoding) (text : List ℕ) (s n : ℕ) → s ≤ n → n < length text
    → units encoding (slice_range text s (suc n)) ≡ units encoding (slice_range text s n) + unit_count encoding (get_or text n 0)
more_units encoding text s n low h =
    let i : ℕ = n - s in
    let next : suc n - s ≡ i + 1 = omega (arith, low) in
    let inside : i < length (drop s text) = simp length-drop (omega (arith, low, h)) in
    let back : s + i ≡ n = omega (arith, low) in
    let byte : get_or (drop s text) i 0 ≡ get_or text n 0 = get_or-drop s text i 0 ∙ ap (λ k. get_or text k 0) back in
    ap (λ k. units encoding (take k (drop s text))) next ∙ sum_by_more (unit_count encoding) (drop s text) i 0 inside
    ∙ ap (λ b. units encoding (take i (drop s text)) + unit_count encoding b) byte

position_of : ℕ → ℕ → EditorPosition
position_of line character = record { line = line; character = character }

module _ (encoding : PositionEncoding) (text : List ℕ) (n : ℕ) where
  -- where a line ends, the next begins
  ends_next : is_line_end text n ≡ true
      → editor_position encoding text (suc n) ≡ record { line = (editor_position encoding text n).line + 1; character = 0 }
  ends_next e = let none : suc n - suc n ≡ 0 = omega arith in rw e (rw none refl)

  -- elsewhere the byte's units are added
  goes_next : n < length text → is_line_end text n ≡ false
      → editor_position encoding text (suc n)
      ≡ record {
        line = (editor_position encoding text n).line;
        character = (editor_position encoding text n).character + unit_count encoding (get_or text n
            0);
      }
  unfolding position_of
  goes_next h e = rw e (ap (position_of (ends_before text n)) (more_units encoding text (line_begin text n) n (line_begin_le text n) h))

  next_is : n + 1 ≡ suc n
  next_is = omega arith

  pub step_ends : is_line_end text n ≡ true
      → editor_position encoding text (n + 1) ≡ record { line = (editor_position encoding text n).line + 1; character = 0 }
  step_ends e = ap (editor_position encoding text) next_is ∙ ends_next e

  pub step_goes_on : n < length text → is_line_end text n ≡ false
      → editor_position encoding text (n + 1)
      ≡ record {
        line = (editor_position encoding text n).line;
        character = (editor_position encoding text n).character + unit_count encoding (get_or text n
            0);
      }
  step_goes_on h e = ap (editor_position encoding text) next_is ∙ goes_next h e
