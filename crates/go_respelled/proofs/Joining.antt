-- The whole cut of a text in which other bytes take the place of those of a piece.
use Rattle.std.proofs.Common.{ℕ, ◌≡◌, ◌+◌, ◌-◌, ◌<◌, ◌≤◌, List, [], ◌∷◌, ◌++◌, length, get_or, drop, sym, ap, ◌∙◌, subst, arith, refl, ⊎_elim}
use Rattle.std.proofs.Common.{append_assoc, drop-drop, length-append}
use Rattle.std.specs.Prelude.{map, slice_index}
use Rattle.std.proofs.lemmas.Bool.{cases_lt}
use Rattle.std.proofs.lemmas.List.{drop_at, append_cancel_left, get_or_append_left, get_or-append_right}
use Rattle.go_scanner.specs.declared.piece.Class.{Class}
use Rattle.go_scanner.specs.declared.piece.Piece.{Piece}
use Rattle.go_scanner.specs.Pieces.{Stands}
use Rattle.go_scanner.specs.Cuts.{IsCut, IsWellEncoded, CutsTo, CutsUpTo, mark_of, mark_len}
use Rattle.go_scanner.proofs.CutLemmas.{CutsUpTo-push}
use Rattle.go_respelled.specs.Literals.{piece_at, shifted}

-- pieces behind a place, where the same bytes stand behind another one

pub shifted_cut : (text other : List ℕ) (a b from to : ℕ) (ps : List Piece) → a ≤ from → drop a text ≡ drop b other → CutsTo text from ps to →
    CutsTo other (from - a + b) (map (shifted a b) ps) (to - a + b)
shifted_cut text other a b from to [] behind same cut = ap (λ (k : ℕ). k - a + b) cut
shifted_cut text other a b from to (p ∷ ps) behind same cut =
    let here : a + (from - a) ≡ from = omega (arith, behind) in
    let there : b + (from - a) ≡ from - a + b = omega arith in
    let bytes : drop from text ≡ drop (from - a + b) other =
    ap (λ (k : ℕ). drop k text) (sym here) ∙ sym (drop-drop (from - a) a text) ∙ ap (drop (from - a)) same ∙ drop-drop (from - a) b other
    ∙ ap (λ (k : ℕ). drop k other) there in
    let size : p.span.end - from ≡ p.span.end - a + b - (from - a + b) = omega (arith, cut.1, behind) in
    let stands = subst (λ (k : ℕ). Stands (drop (from - a + b) other) p.class k) size (subst (λ t. Stands t p.class (p.span.end - from)) bytes cut.2) in
    (ap (λ (k : ℕ). k - a + b) cut.0, omega (arith, cut.1), stands, shifted_cut text other a b p.span.end to ps (omega (arith, behind, cut.1)) same cut.3)

pub cut_behind : (text : List ℕ) (from mid to : ℕ) (ps qs : List Piece) → CutsTo text from ps mid → CutsTo text from (ps ++ qs) to → CutsTo text mid qs to
cut_behind text from mid to [] qs front whole = subst (λ (k : ℕ). CutsTo text k qs to) front whole
cut_behind text from mid to (p ∷ ps) qs front whole = cut_behind text p.span.end mid to ps qs front.3 whole.3

pub cut_joins : (text : List ℕ) (from mid to : ℕ) (ps qs : List Piece) → CutsTo text from ps mid → CutsTo text mid qs to → CutsTo text from (ps ++ qs) to
cut_joins text from mid to [] qs front rest = subst (λ (k : ℕ). CutsTo text k qs to) (sym front) rest
cut_joins text from mid to (p ∷ ps) qs front rest = (front.0, front.1, front.2, cut_joins text p.span.end mid to ps qs front.3 rest)

-- no zero byte comes in

pub no_zero : (front old new rest : List ℕ) → IsWellEncoded (front ++ (old ++ rest)) → IsWellEncoded new → (k : ℕ) → k < length (front ++ (new ++ rest)) →
    slice_index (front ++ (new ++ rest)) k ≡ 0 → ⊥
no_zero front old new rest was is k less zero =
    let long = length-append front (new ++ rest) in
    let longer = length-append new rest in
    let old_long = length-append front (old ++ rest) in
    let old_longer = length-append old rest in
    ⊎_elim
    (λ (in_front : k < length front). was.1 k (omega (arith, in_front, old_long)) (get_or_append_left front (old ++ rest) 0 k in_front
    ∙ sym (get_or_append_left front (new ++ rest) 0 k in_front) ∙ zero))
    (λ (behind : length front ≤ k).
    let i : ℕ = k - length front in
    let here : get_or (new ++ rest) i 0 ≡ 0 = sym (get_or-append_right front (new ++ rest) (length front) k 0 refl behind) ∙ zero in
    ⊎_elim
    (λ (inside : i < length new). is.1 i inside (sym (get_or_append_left new rest 0 i inside) ∙ here))
    (λ (past : length new ≤ i).
    let j : ℕ = i - length new in
    let byte : get_or rest j 0 ≡ 0 = sym (get_or-append_right new rest (length new) i 0 refl past) ∙ here in
    let at : ℕ = length front + (length old + j) in
    let first : at - length front ≡ length old + j = omega arith in
    let second : length old + j - length old ≡ j = omega arith in
    let there : get_or (front ++ (old ++ rest)) at 0 ≡ 0 =
    get_or-append_right front (old ++ rest) (length front) at 0 refl (omega arith) ∙ ap (λ (n : ℕ). get_or (old ++ rest) n 0) first
    ∙ get_or-append_right old rest (length old) (length old + j) 0 refl (omega arith) ∙ ap (λ (n : ℕ). get_or rest n 0) second ∙ byte in
    was.1 at (omega (arith, less, long, longer, old_long, old_longer, behind, past)) there)
    (cases_lt i (length new)))
    (cases_lt k (length front))

-- The old bytes are all of their piece, and the new ones are a piece in their place, up to which the same pieces lead.
pub record Replaces (front old new rest : List ℕ) (was is : Class) (before : List Piece) : Type 0 where
  pub size : (n : ℕ) → Stands (old ++ rest) was n → n ≡ length old
  pub stands : Stands (new ++ rest) is (length new)
  pub encoded : IsWellEncoded (front ++ (new ++ rest))
  pub leads : CutsUpTo (front ++ (old ++ rest)) before (length front)
  pub leads_still : CutsUpTo (front ++ (new ++ rest)) before (length front)

pub recut : (front old new rest : List ℕ) (before after : List Piece) (p : Piece) (c : Class) → Replaces front old new rest p.class c before →
    IsCut (front ++ (old ++ rest)) (before ++ p ∷ after) →
    IsCut (front ++ (new ++ rest)) (before ++ piece_at c (length front) new ∷ map (shifted (length front + length old) (length front + length new)) after)
recut front old new rest before after p c h whole =
    let was : List ℕ = front ++ (old ++ rest) in
    let now : List ℕ = front ++ (new ++ rest) in
    let here : Piece = piece_at c (length front) new in
    let a : ℕ = length front + length old in
    let b : ℕ = length front + length new in
    let cut = h.leads in
    let new_cut = CutsUpTo-push now before (length front) c (length new) (new ++ rest) h.leads_still (sym (drop_at front (new ++ rest) (length front) refl))
    h.stands in
    let pieces : whole.cut.0 ≡ cut.0 ++ p ∷ after = append_cancel_left (mark_of was) whole.cut.0 (cut.0 ++ p ∷ after)
    (sym whole.cut.1 ∙ ap (λ l. l ++ p ∷ after) cut.1 ∙ append_assoc (mark_of was) cut.0 (p ∷ after)) in
    let old_rest = cut_behind was (mark_len was) (length front) (length was) cut.0 (p ∷ after) cut.2 (subst (λ l. CutsTo was (mark_len was) l
    (length was)) pieces whole.cut.2) in
    let stood : Stands (old ++ rest) p.class (p.span.end - length front) = subst (λ t. Stands t p.class (p.span.end - length front)) (drop_at front
    (old ++ rest) (length front) refl) old_rest.2 in
    let end : p.span.end ≡ a = omega (arith, h.size (p.span.end - length front) stood, old_rest.1) in
    let after_old : CutsTo was a after (length was) = subst (λ (k : ℕ). CutsTo was k after (length was)) end old_rest.3 in
    let old_end : drop a was ≡ rest = ap (drop a) (sym (append_assoc front old rest)) ∙ drop_at (front ++ old) rest a (length-append front old) in
    let new_end : drop b now ≡ rest = ap (drop b) (sym (append_assoc front new rest)) ∙ drop_at (front ++ new) rest b (length-append front new) in
    let moved = shifted_cut was now a b a (length was) after (omega arith) (old_end ∙ sym new_end) after_old in
    let start : a - a + b ≡ b = omega arith in
    let stop : length was - a + b ≡ length now = omega (
      arith,
      length-append front (old ++ rest),
      length-append old rest,
      length-append front
          (new ++ rest),
      length-append new rest,
    ) in
    let behind : CutsTo now b (map (shifted a b) after) (length now) =
    subst (λ (k : ℕ). CutsTo now b (map (shifted a b) after) k) stop (subst (λ (k : ℕ). CutsTo now k (map (shifted a b) after)
    (length was - a + b)) start moved) in
    record {
      encoded = h.encoded;
      cut = (
        new_cut.0 ++ map (shifted a b) after,
        sym (append_assoc before (here ∷ []) (map (shifted a b) after)) ∙ ap (λ l. l ++ map (shifted a b) after) new_cut.1
            ∙ append_assoc (mark_of now) new_cut.0 (map (shifted a b) after),
        cut_joins now (mark_len now) b (length now) new_cut.0 (map (shifted a b) after) new_cut.2 behind,
      );
    }

-- other pieces stand at a place, and what was there behind them
pub put_in : (front put rest : List ℕ) (before news after : List Piece) → IsWellEncoded (front ++ (put ++ rest)) →
    CutsUpTo (front ++ rest) before (length front) → CutsUpTo (front ++ (put ++ rest)) (before ++ news) (length front + length put) →
    IsCut (front ++ rest) (before ++ after) →
    IsCut (front ++ (put ++ rest)) ((before ++ news) ++ map (shifted (length front) (length front + length put)) after)
put_in front put rest before news after encoded leads leads_still whole =
    let was : List ℕ = front ++ rest in
    let now : List ℕ = front ++ (put ++ rest) in
    let a : ℕ = length front in
    let b : ℕ = length front + length put in
    let pieces : whole.cut.0 ≡ leads.0 ++ after = append_cancel_left (mark_of was) whole.cut.0 (leads.0 ++ after)
    (sym whole.cut.1 ∙ ap (λ l. l ++ after) leads.1 ∙ append_assoc (mark_of was) leads.0 after) in
    let old_rest = cut_behind was (mark_len was) a (length was) leads.0 after leads.2
    (subst (λ l. CutsTo was (mark_len was) l (length was)) pieces whole.cut.2) in
    let old_end : drop a was ≡ rest = drop_at front rest a refl in
    let new_end : drop b now ≡ rest = ap (drop b) (sym (append_assoc front put rest)) ∙ drop_at (front ++ put) rest b (length-append front put) in
    let moved = shifted_cut was now a b a (length was) after (omega arith) (old_end ∙ sym new_end) old_rest in
    let start : a - a + b ≡ b = omega arith in
    let stop : length was - a + b ≡ length now = omega (arith, length-append front rest, length-append front (put ++ rest), length-append put rest) in
    let behind : CutsTo now b (map (shifted a b) after) (length now) =
    subst (λ (k : ℕ). CutsTo now b (map (shifted a b) after) k) stop (subst (λ (k : ℕ). CutsTo now k (map (shifted a b) after)
    (length was - a + b)) start moved) in
    record {
      encoded = encoded;
      cut = (
        leads_still.0 ++ map (shifted a b) after,
        ap (λ l. l ++ map (shifted a b) after) leads_still.1 ∙ append_assoc (mark_of now) leads_still.0 (map (shifted a b) after),
        cut_joins now (mark_len now) b (length now) leads_still.0 (map (shifted a b) after) leads_still.2 behind,
      );
    }
