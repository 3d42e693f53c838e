-- The lines of two texts, side by side.
use Rattle.std.proofs.Common.{◌≡◌, ◌∙◌, ◌+◌, ◌<◌, ℕ, suc, Bool, true, false, List, []}
use Rattle.std.proofs.Common.{◌∷◌, ◌++◌, length, take, drop, refl, sym, ap, append_assoc, true≢false, arith}
use Rattle.std.specs.Prelude.{map, nat_eq}
use Rattle.std.specs.List.{onto_first, position_or_len}
use Rattle.tool_text.specs.Diff.{TakesLine, both_lines, lines_of, side_by_side}
use Rattle.tool_text.specs.Positions.{is_line_feed}
use Rattle.tool_text.specs.declared.script.LinePair.{LinePair}

-- the first line of a text, of so many bytes and a line feed, and the others
abbrev pub CutsLine : List ℕ → ℕ → Type 0
CutsLine text n = lines_of text ≡ take (suc n) text ∷ lines_of (drop (suc n) text)

step_yes : (byte : ℕ) (text : List ℕ) → is_line_feed byte ≡ true
    → (position_or_len is_line_feed (byte ∷ text) ≡ 0) × (lines_of (byte ∷ text) ≡ (byte ∷ []) ∷ lines_of text)
step_yes byte text e = (rw e refl, rw e refl)

step_no : (byte : ℕ) (text : List ℕ) → is_line_feed byte ≡ false
    → (position_or_len is_line_feed (byte ∷ text) ≡ 1 + position_or_len is_line_feed text) × (lines_of (byte ∷ text) ≡ onto_first byte (lines_of text))
step_no byte text e = (rw e refl, rw e refl)

line_case : (byte : ℕ) (text : List ℕ) (n : ℕ) (b : Bool) → is_line_feed byte ≡ b → n ≡ position_or_len is_line_feed (byte ∷ text)
    → (0 < length text → CutsLine text (position_or_len is_line_feed text)) → CutsLine (byte ∷ text) n
line_case byte text n true e at rest = let s = step_yes byte text e in let zero_is : n ≡ 0 = at ∙ s.0 in rw zero_is (s.1)
line_case byte [] n false e at rest =
    let s = step_no byte [] e in let one_is : n ≡ suc 0 = at ∙ s.0 in rw one_is (s.1)
line_case byte (next ∷ text) n false e at rest =
    let s = step_no byte (next ∷ text) e in
    let more : n ≡ suc (position_or_len is_line_feed (next ∷ text)) = omega (arith, at, s.0) in
    rw more (s.1 ∙ ap (onto_first byte) (rest (omega arith)))

pub first_line_cut : (text : List ℕ) (n : ℕ) → n ≡ position_or_len is_line_feed text → 0 < length text → CutsLine text n
first_line_cut [] n at h = absurd (omega (arith, h))
first_line_cut (byte ∷ text) n at h =
    line_case byte text n (is_line_feed byte) refl at (λ some. first_line_cut text (position_or_len is_line_feed text) refl some)

-- what is left of lines behind the first
pub lines_step : (text line rest : List ℕ) → TakesLine text line rest → 0 < length text → lines_of text ≡ line ∷ lines_of rest
lines_step text line rest h some =
    let n = position_or_len is_line_feed text in
    let e : line ≡ take (position_or_len is_line_feed text + 1) text = h.is_line in
    let f : rest ≡ drop (position_or_len is_line_feed text + 1) text = h.is_rest in
    let next : suc n ≡ n + 1 = omega arith in
    first_line_cut text n refl some ∙ ap (λ k. take k text ∷ lines_of (drop k text)) next
    ∙ ap (λ l. l ∷ lines_of (drop (n + 1) text)) (sym e) ∙ ap (λ l. line ∷ lines_of l) (sym f)

side_nil : (olds : List (List ℕ)) → side_by_side olds [] ≡ map (λ old. (old, [])) olds
side_nil [] = refl
side_nil (old ∷ olds) = refl

-- the first pair of two texts that are not both empty, and the others
pub next_pair : (old new olds news old_line new_line : List ℕ) → TakesLine old old_line olds → TakesLine new new_line news → 0 < length old + length new
    → side_by_side (lines_of old) (lines_of new) ≡ (old_line, new_line) ∷ side_by_side (lines_of olds) (lines_of news)
next_pair [] [] olds news old_line new_line h k some = absurd (omega (arith, some))
next_pair [] (y ∷ new) olds news old_line new_line h k some =
    let e : old_line ≡ [] = h.is_line in
    let f : olds ≡ [] = h.is_rest in
    let g : lines_of (y ∷ new) ≡ new_line ∷ lines_of news = lines_step (y ∷ new) new_line news k (omega arith) in
    rw (e, f) (ap (side_by_side []) g)
next_pair (x ∷ old) [] olds news old_line new_line h k some =
    let e : new_line ≡ [] = k.is_line in
    let f : news ≡ [] = k.is_rest in
    let g : lines_of (x ∷ old) ≡ old_line ∷ lines_of olds = lines_step (x ∷ old) old_line olds h (omega arith) in
    rw (e, f) (ap (λ l. side_by_side l []) g ∙ ap (λ l. (old_line, []) ∷ l) (sym (side_nil (lines_of olds))))
next_pair (x ∷ old) (y ∷ new) olds news old_line new_line h k some =
    let e : lines_of (x ∷ old) ≡ old_line ∷ lines_of olds = lines_step (x ∷ old) old_line olds h (omega arith) in
    let f : lines_of (y ∷ new) ≡ new_line ∷ lines_of news = lines_step (y ∷ new) new_line news k (omega arith) in
    ap (λ l. side_by_side l (lines_of (y ∷ new))) e ∙ ap (side_by_side (old_line ∷ lines_of olds)) f

both_push : (pairs : List LinePair) (pair : LinePair) → both_lines (pairs ++ pair ∷ []) ≡ both_lines pairs ++ (pair.old.now, pair.new.now) ∷ []
both_push [] pair = refl
both_push (one ∷ pairs) pair = ap (λ l. (one.old.now, one.new.now) ∷ l) (both_push pairs pair)

-- one pair more
pub pairs_step : (pairs : List LinePair) (pair : LinePair) (old new olds news : List ℕ) (whole : List (List ℕ × List ℕ))
    → TakesLine old pair.old.now olds → TakesLine new pair.new.now news → 0 < length old + length new
    → both_lines pairs ++ side_by_side (lines_of old) (lines_of new) ≡ whole
    → both_lines (pairs ++ pair ∷ []) ++ side_by_side (lines_of olds) (lines_of news) ≡ whole
pairs_step pairs pair old new olds news whole h k some so_far =
    let one : List (List ℕ × List ℕ) = (pair.old.now, pair.new.now) ∷ [] in
    let left = side_by_side (lines_of olds) (lines_of news) in
    ap (λ l. l ++ left) (both_push pairs pair) ∙ append_assoc (both_lines pairs) one left
    ∙ ap (λ l. both_lines pairs ++ l) (sym (next_pair old new olds news pair.old.now pair.new.now h k some)) ∙ so_far

-- bytes are left of the old text, or of the new one
bytes_there : (xs : List ℕ) (r : Bool) → r ≡ nat_eq (length xs) 0 → r ≡ false → 0 < length xs
bytes_there [] r e f = let bad : true ≡ false = sym e ∙ f in absurd (true≢false bad)
bytes_there (x ∷ xs) r e f = omega arith

pub some_old : (old new : List ℕ) (r : Bool) → r ≡ nat_eq (length old) 0 → r ≡ false → 0 < length old + length new
some_old old new r e f = let low = bytes_there old r e f in omega (arith, low)

pub some_new : (old new : List ℕ) (r : Bool) → r ≡ nat_eq (length new) 0 → r ≡ false → 0 < length old + length new
some_new old new r e f = let low = bytes_there new r e f in omega (arith, low)
