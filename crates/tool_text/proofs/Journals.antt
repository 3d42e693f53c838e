-- The lines of a journal.
use Rattle.std.proofs.Common.{◌≡◌, ◌∙◌, ◌==◌, inl, inr, ℕ, suc, false, List, [], ◌∷◌, ◌++◌, Option, append_assoc, refl, sym, ap, arith}
use Rattle.std.specs.Borrow.{Bor}
use Rattle.std.specs.List.{onto_first}
use Rattle.std.proofs.lemmas.Bool.Decides.{eqb_tells}
use Rattle.std.proofs.lemmas.List.Elements.{All-head, All-tail}
use Rattle.tool_text.specs.Journal.{bare_texts, lines_text}
use Rattle.tool_text.specs.Laws.{LinesAreRead}
use Rattle.tool_text.specs.Parts.{HasNoByte, SplitsPart, parts, parts_left}

bare_push : (lines : List (Bor (List ℕ))) (line : Bor (List ℕ)) → bare_texts (lines ++ line ∷ []) ≡ bare_texts lines ++ line.now ∷ []
bare_push [] line = refl
bare_push (x ∷ lines) line = ap (λ l. x.now ∷ l) (bare_push lines line)

-- one line more is read
pub reading_step : (lines : List (Bor (List ℕ))) (line : Bor (List ℕ)) (more : List ℕ) (left : Option (Bor (List ℕ))) (whole : List (List ℕ))
    → bare_texts lines ++ parts 10 more ≡ whole → SplitsPart 10 more line.now left → bare_texts (lines ++ line ∷ []) ++ parts_left 10 left ≡ whole
reading_step lines line more left whole so_far split =
    ap (λ l. l ++ parts_left 10 left) (bare_push lines line) ∙ append_assoc (bare_texts lines) (line.now ∷ []) (parts_left 10 left)
    ∙ ap (λ l. bare_texts lines ++ l) (sym split) ∙ so_far

others_bare : (x : ℕ) (xs : List ℕ) → HasNoByte 10 (x ∷ xs) → HasNoByte 10 xs
others_bare x xs h = λ i l. h (suc i) (omega (arith, l))

step_other : (x : ℕ) (xs : List ℕ) → (x == 10) ≡ false → parts 10 (x ∷ xs) ≡ onto_first x (parts 10 xs)
step_other x xs e = rw e refl

-- the first part of a text whose first line has no line feed but its last
line_first : (line rest : List ℕ) → HasNoByte 10 line → parts 10 (line ++ 10 ∷ rest) ≡ line ∷ parts 10 rest
line_first [] rest h = refl
line_first (x ∷ line) rest h = elim (eqb_tells x 10) [
  | inl alike ↦ absurd (h 0 (omega arith) alike.1)
  | inr other ↦ step_other x (line ++ 10 ∷ rest) other.0 ∙ ap (onto_first x) (line_first line rest (others_bare x line h))
]

pub lines_read : LinesAreRead
lines_read [] h = refl
lines_read (line ∷ lines) h =
    ap (parts 10) (append_assoc line.now (10 ∷ []) (lines_text lines))
    ∙ line_first line.now (lines_text lines) (All-head (HasNoByte 10) line.now (bare_texts lines) h)
    ∙ ap (λ l. line.now ∷ l) (lines_read lines (All-tail (HasNoByte 10) line.now (bare_texts lines) h))
