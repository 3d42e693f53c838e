-- Lines of two texts, side by side, and the lines of a hunk.
use Rattle.std.proofs.Common.{◌≡◌, ◌∙◌, ◌+◌, ℕ, true, false, List, [], ◌∷◌, ◌++◌, take, drop, refl, sym, ap, append_assoc, append-nil, take-append-drop}
use Rattle.std.specs.List.{flat_map, position_or_len}
use Rattle.std.proofs.lemmas.Grind.{flat_map-append}
use Rattle.tool_text.specs.Diff.{TakesLine, hunk_lines, is_even, signed_line}
use Rattle.tool_text.specs.Positions.{is_line_feed}
use Rattle.tool_text.specs.declared.script.LinePair.{LinePair}

pub line_and_rest : (text line rest : List ℕ) → TakesLine text line rest → line ++ rest ≡ text
line_and_rest text line rest h =
    let e : line ≡ take (position_or_len is_line_feed text + 1) text = h.is_line in
    let f : rest ≡ drop (position_or_len is_line_feed text + 1) text = h.is_rest in
    rw (e, f) (take-append-drop (position_or_len is_line_feed text + 1) text)

-- one more pair, whose line was at the begin of what was left
pub one_more_line : {X : Type 0} (f : X → List ℕ) (xs : List X) (x : X) (left rest whole : List ℕ) → TakesLine left (f x) rest → flat_map f xs ++ left ≡ whole
    → flat_map f (xs ++ x ∷ []) ++ rest ≡ whole
one_more_line f xs x left rest whole h e =
    let one : flat_map f (x ∷ []) ≡ f x = append-nil (f x) in
    let more : flat_map f (xs ++ x ∷ []) ≡ flat_map f xs ++ f x = flat_map-append f xs (x ∷ []) ∙ ap (λ l. flat_map f xs ++ l) one in
    ap (λ l. l ++ rest) more ∙ append_assoc (flat_map f xs) (f x) rest ∙ ap (λ l. flat_map f xs ++ l) (line_and_rest left (f x) rest h) ∙ e

module _ (text removed added whole : List ℕ) (pair : LinePair) (pairs : List LinePair)
    (so_far : text ++ hunk_lines removed added (pair ∷ pairs) ≡ whole) where
  pub even_step : is_even pair ≡ true
      → (((text ++ removed) ++ added) ++ signed_line 32 pair.old.now) ++ hunk_lines [] [] pairs ≡ whole
  even_step e =
      let kept = signed_line 32 pair.old.now in
      let others = hunk_lines [] [] pairs in
      let lines : hunk_lines removed added (pair ∷ pairs) ≡ removed ++ (added ++ (kept ++ others)) = rw e refl in
      append_assoc ((text ++ removed) ++ added) kept others ∙ append_assoc (text ++ removed) added (kept ++ others)
      ∙ append_assoc text removed (added ++ (kept ++ others)) ∙ ap (λ l. text ++ l) (sym lines) ∙ so_far

  pub uneven_step : is_even pair ≡ false
      → text ++ hunk_lines (removed ++ signed_line 45 pair.old.now) (added ++ signed_line 43 pair.new.now) pairs ≡ whole
  uneven_step e =
      let lines : hunk_lines removed added (pair ∷ pairs)
      ≡ hunk_lines (removed ++ signed_line 45 pair.old.now) (added ++ signed_line 43 pair.new.now) pairs = rw e refl in
      ap (λ l. text ++ l) (sym lines) ∙ so_far
