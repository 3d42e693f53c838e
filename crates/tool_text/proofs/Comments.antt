-- Marks of comments in a line.
use Rattle.std.proofs.Common.{◌≡◌, ◌≤◌, ◌&&◌, ◌||◌, ℕ, Bool, true, false, List, [], ◌∷◌, None, Some, arith, drop, length, refl}
use Rattle.std.proofs.lemmas.Bool.{false≢true}
use Rattle.std.specs.List.{starts_with}
use Rattle.std.specs.Prelude.{codes, nat_eq, not}
use Rattle.tool_text.specs.GoMod.{is_padding}
use Rattle.tool_text.specs.Taken.{comment_mark, ends_inside}

never : (b : Bool) → (b && false) ≡ true → ⊥
never true h = false≢true h
never false h = false≢true h

-- a mark has two bytes
pub two_bytes : (inside : Bool) (line : List ℕ) → starts_with nat_eq line (comment_mark inside) ≡ true → 2 ≤ length line
two_bytes true [] h = absurd (false≢true h)
two_bytes false [] h = absurd (false≢true h)
two_bytes true (byte ∷ []) h = absurd (never _ h)
two_bytes false (byte ∷ []) h = absurd (never _ h)
two_bytes inside (byte ∷ other ∷ line) h = omega arith

-- behind a mark
pub mark_step : (inside : Bool) (line : List ℕ) → starts_with nat_eq line (comment_mark inside) ≡ true
    → ends_inside inside line ≡ ends_inside (not inside) (drop 2 line)
mark_step true [] h = absurd (false≢true h)
mark_step false [] h = absurd (false≢true h)
mark_step true (byte ∷ []) h = absurd (never _ h)
mark_step false (byte ∷ []) h = absurd (never _ h)
mark_step inside (byte ∷ other ∷ line) h = rw h refl

module _ (inside : Bool) (byte : ℕ) (rest : List ℕ) (no_mark : starts_with nat_eq (byte ∷ rest) (comment_mark inside) ≡ false) where
  -- behind a byte of a comment, or a blank
  pub byte_step : (inside || is_padding byte) ≡ true → ends_inside inside (byte ∷ rest) ≡ ends_inside inside rest
  byte_step h = rw no_mark (rw h refl)

  module _ (text : (inside || is_padding byte) ≡ false) where
    -- at a comment to the end of the line
    pub line_comment : starts_with nat_eq (byte ∷ rest) (codes "//") ≡ true → ends_inside inside (byte ∷ rest) ≡ Some false
    line_comment h = rw no_mark (rw text (rw h refl))

    -- at other text
    pub other_text : starts_with nat_eq (byte ∷ rest) (codes "//") ≡ false → ends_inside inside (byte ∷ rest) ≡ None
    other_text h = rw no_mark (rw text (rw h refl))
