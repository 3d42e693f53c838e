-- Where offsets are after edits, step by step.
use Rattle.std.proofs.Common.{◌≡◌, ℕ, ◌+◌, ◌-◌, ◌<◌, ◌≤◌, ◌⊎◌, true, false, cond, nat_le, List, [], ◌∷◌, ◌++◌, length, take, drop, refl, sym, ap, subst}
use Rattle.std.proofs.Common.{◌∙◌, inl, inr, ⊎_elim, arith}
use Rattle.std.specs.List.{slice_range, AllByRecursion, Contains}
use Rattle.std.proofs.lemmas.Bool.{cases_lt}
use Rattle.std.proofs.lemmas.Bool.Decides.{nat_tests}
use Rattle.std.proofs.lemmas.List.{drop-drop, take_at, drop_at, drop-append-le, take-append-le, take-take, drop-take, length-append, length-drop}
use Rattle.std.proofs.lemmas.List.Elements.{recursion_from_All}
use Rattle.std.proofs.lemmas.List.Sums.{sum_by-cons}
use Rattle.base_lemmas.proofs.Elements.{first_or_later, nothing_in}
use Rattle.base_edits.specs.Edits.{AreInOrder, edited_from, edited_text}
use Rattle.base_edits.specs.Laws.{KeepsOrder, KeepsOtherBytes, PutsNewBytes, MovesTheEnd}
use Rattle.base_edits.specs.Moved.{edits_before, added_by, removed_by, moved_offset}
use Rattle.base_edits.specs.PassedEdits.{moved_from}
use Rattle.base_edits.specs.declared.edit.Edit.{Edit}
use Rattle.base_edits.proofs.EditedText.{EndWithin, ends_within, drop_on, length_range}

le_true : (a b : ℕ) → a ≤ b → nat_le a b ≡ true
le_true a b h = grind (arith, nat_tests)

le_false : (a b : ℕ) → b < a → nat_le a b ≡ false
le_false a b h = grind (arith, nat_tests)

-- an edit that ends at the offset or before it, or behind it
abbrev by_end : (e : Edit) (offset : ℕ) → (e.span.end ≤ offset) ⊎ (offset < e.span.end)
by_end e offset = ⊎_elim (λ h. inr h) (λ h. inl h) (cases_lt offset e.span.end)

-- ---- what is past, by a step
before_more : (e : Edit) (edits : List Edit) (offset : ℕ) → e.span.end ≤ offset → edits_before (e ∷ edits) offset ≡ e ∷ edits_before edits offset
before_more e edits offset h = ap (λ b. cond b (e ∷ edits_before edits offset) (edits_before edits offset)) (le_true e.span.end offset h)

none_before : (edits : List Edit) (at offset : ℕ) → AreInOrder at edits → offset < at → edits_before edits offset ≡ []
none_before [] at offset order h = refl
none_before (e ∷ edits) at offset order h =
    let first : at ≤ e.span.start = order.0 in
    let second : e.span.start ≤ e.span.end = order.1 in
    ap (λ b. cond b (e ∷ edits_before edits offset) (edits_before edits offset)) (le_false e.span.end offset (omega arith))
    ∙ none_before edits e.span.end offset order.2 (omega arith)

none_more : (e : Edit) (edits : List Edit) (offset : ℕ) → AreInOrder e.span.end edits → offset < e.span.end → edits_before (e ∷ edits) offset ≡ []
none_more e edits offset order h =
    ap (λ b. cond b (e ∷ edits_before edits offset) (edits_before edits offset)) (le_false e.span.end offset h) ∙ none_before edits e.span.end offset order h

pub step_past : (old new : ℕ) (e : Edit) (edits : List Edit) (offset : ℕ) → e.span.end ≤ offset
    → moved_from old new (e ∷ edits) offset ≡ moved_from e.span.end (new + ((e.span.start - old) + length e.text)) edits offset
step_past old new e edits offset h = ap (λ b. cond b (moved_from e.span.end (new + ((e.span.start - old) + length e.text)) edits offset)
    (new + (offset - old))) (le_true e.span.end offset h)

pub stop_before : (old new : ℕ) (e : Edit) (edits : List Edit) (offset : ℕ) → offset < e.span.end → moved_from old new (e ∷ edits) offset ≡ new + (offset - old)
stop_before old new e edits offset h = ap (λ b. cond b (moved_from e.span.end (new + ((e.span.start - old) + length e.text)) edits offset)
    (new + (offset - old))) (le_false e.span.end offset h)

-- ---- the steps give the sum of the length changes
sums : (edits : List Edit) (old new offset : ℕ) → AreInOrder old edits → old ≤ offset
    → moved_from old new edits offset + removed_by (edits_before edits offset) ≡ (new + (offset - old)) + added_by (edits_before edits offset)
sums [] old new offset order h = refl
sums (e ∷ edits) old new offset order h =
    let first : old ≤ e.span.start = order.0 in
    let second : e.span.start ≤ e.span.end = order.1 in
    ⊎_elim
    (λ (past : e.span.end ≤ offset).
    let next = new + ((e.span.start - old) + length e.text) in
    let rest : moved_from e.span.end next edits offset + removed_by (edits_before edits offset) ≡ (next + (offset - e.span.end)) + added_by
    (edits_before edits offset) = sums edits e.span.end next offset order.2 past in
    let more = before_more e edits offset past in
    let removed : removed_by (edits_before (e ∷ edits) offset) ≡ (e.span.end - e.span.start) + removed_by (edits_before edits offset) = ap removed_by more ∙
    sum_by-cons (λ (x : Edit). x.span.end - x.span.start) e (edits_before edits offset) in
    let added : added_by (edits_before (e ∷ edits) offset) ≡ length e.text + added_by (edits_before edits offset) = ap added_by more ∙
    sum_by-cons (λ (x : Edit). length x.text) e (edits_before edits offset) in
    let step = step_past old new e edits offset past in
    sums_up (moved_from old new (e ∷ edits) offset) (moved_from e.span.end next edits offset) (removed_by (edits_before (e ∷ edits) offset))
    (removed_by (edits_before edits offset)) (added_by (edits_before (e ∷ edits) offset)) (added_by (edits_before edits offset))
    new old offset e.span.start e.span.end (length e.text) first second past step rest removed added)
    (λ (behind : offset < e.span.end).
    let none = none_more e edits offset order.2 behind in
    let removed : removed_by (edits_before (e ∷ edits) offset) ≡ 0 = ap removed_by none in
    let added : added_by (edits_before (e ∷ edits) offset) ≡ 0 = ap added_by none in
    let step = stop_before old new e edits offset behind in
    stops (moved_from old new (e ∷ edits) offset) (removed_by (edits_before (e ∷ edits) offset)) (added_by (edits_before (e ∷ edits) offset))
    (new + (offset - old)) step removed added)
    (by_end e offset)
  where
    sums_up : (m m' r r' a a' new old offset start end len : ℕ) → old ≤ start → start ≤ end → end ≤ offset → m ≡ m' →
        m' + r' ≡ ((new + ((start - old) + len)) + (offset - end)) + a' → r ≡ (end - start) + r' → a ≡ len + a'
        → m + r ≡ (new + (offset - old)) + a
    sums_up m m' r r' a a' new old offset start end len h1 h2 h3 e1 e2 e3 e4 = omega arith

    stops : (m r a n : ℕ) → m ≡ n → r ≡ 0 → a ≡ 0 → m + r ≡ n + a
    stops m r a n e1 e2 e3 = omega arith

-- where an offset is moved to
pub moves_all : (edits : List Edit) (offset : ℕ) → AreInOrder 0 edits → moved_from 0 0 edits offset ≡ moved_offset edits offset
moves_all edits offset order =
    let sum = sums edits 0 0 offset order (omega arith) in
    taken (moved_from 0 0 edits offset) (removed_by (edits_before edits offset)) (added_by (edits_before edits offset)) offset sum
  where
    taken : (m r a offset : ℕ) → m + r ≡ (0 + (offset - 0)) + a → m ≡ (offset + a) - r
    taken m r a offset e = omega arith

-- ---- order
pub at_least : (edits : List Edit) (old new offset : ℕ) → new ≤ moved_from old new edits offset
at_least [] old new offset = omega arith
at_least (e ∷ edits) old new offset =
    ⊎_elim
    (λ (past : e.span.end ≤ offset).
    let step = step_past old new e edits offset past in
    let rest = at_least edits e.span.end (new + ((e.span.start - old) + length e.text)) offset in
    more (moved_from old new (e ∷ edits) offset) (moved_from e.span.end (new + ((e.span.start - old) + length e.text)) edits offset) new
    ((e.span.start - old) + length e.text) step rest)
    (λ (behind : offset < e.span.end). let step = stop_before old new e edits offset behind in
    direct (moved_from old new (e ∷ edits) offset) new (offset - old) step)
    (by_end e offset)
  where
    more : (m m' new k : ℕ) → m ≡ m' → new + k ≤ m' → new ≤ m
    more m m' new k e h = omega arith

    direct : (m new k : ℕ) → m ≡ new + k → new ≤ m
    direct m new k e = omega arith

abbrev Outside : List Edit → ℕ → Type 0
Outside edits offset = AllByRecursion (λ e. (offset ≤ e.span.start) ⊎ (e.span.end ≤ offset)) edits

rises : (edits : List Edit) (old new one other : ℕ) → AreInOrder old edits → Outside edits one → old ≤ one → one ≤ other →
    moved_from old new edits one ≤ moved_from old new edits other
rises [] old new one other order outside from le = omega arith
rises (e ∷ edits) old new one other order outside from le =
    let first : old ≤ e.span.start = order.0 in
    let second : e.span.start ≤ e.span.end = order.1 in
    let next = new + ((e.span.start - old) + length e.text) in
    ⊎_elim
    (λ (past : e.span.end ≤ one).
    let far : e.span.end ≤ other = omega arith in
    subst (λ (n : ℕ). n ≤ moved_from old new (e ∷ edits) other) (sym (step_past old new e edits one past))
    (subst (λ (n : ℕ). moved_from e.span.end next edits one ≤ n) (sym (step_past old new e edits other far))
    (rises edits e.span.end next one other order.2 outside.1 past le)))
    (λ (behind : one < e.span.end).
    let before : one ≤ e.span.start = ⊎_elim (λ (h : one ≤ e.span.start). h)
    (λ (h : e.span.end ≤ one). let x : one ≤ e.span.start = absurd (omega arith) in x) outside.0 in
    subst (λ (n : ℕ). n ≤ moved_from old new (e ∷ edits) other) (sym (stop_before old new e edits one behind))
    (⊎_elim
    (λ (past : e.span.end ≤ other).
    let low : next ≤ moved_from e.span.end next edits other = at_least edits e.span.end next other in
    subst (λ (n : ℕ). new + (one - old) ≤ n) (sym (step_past old new e edits other past))
    (reach new old one e.span.start (length e.text) (moved_from e.span.end next edits other) before low))
    (λ (far : other < e.span.end).
    subst (λ (n : ℕ). new + (one - old) ≤ n) (sym (stop_before old new e edits other far)) (omega arith))
    (by_end e other)))
    (by_end e one)
  where
    reach : (new old one start len m : ℕ) → one ≤ start → new + ((start - old) + len) ≤ m → new + (one - old) ≤ m
    reach new old one start len m h low = omega arith

pub keeps_order : KeepsOrder
keeps_order edits one other order outside le =
    subst (λ (n : ℕ). n ≤ moved_offset edits other) (moves_all edits one order)
    (subst (λ (n : ℕ). moved_from 0 0 edits one ≤ n) (moves_all edits other order)
    (rises edits 0 0 one other order (recursion_from_All (λ (e : Edit). (one ≤ e.span.start) ⊎ (e.span.end ≤ one)) edits outside) (omega arith) le))

-- ---- bytes
--
-- The bytes of the new text from an offset on, past the first edit.
past_first : (old : ℕ) (e : Edit) (edits : List Edit) (text : List ℕ) (k : ℕ) → old ≤ e.span.start → e.span.start ≤ e.span.end → e.span.end ≤ length text
    → drop (((e.span.start - old) + length e.text) + k) (edited_from old (e ∷ edits) text) ≡ drop k (edited_from e.span.end edits text)
past_first old e edits text k first second third =
    let kept = slice_range text old e.span.start in
    let size = e.span.start - old in
    let rest = edited_from e.span.end edits text in
    let len : length kept ≡ size = length_range text old e.span.start first (omega arith) in
    sym (drop-drop k (size + length e.text) (kept ++ (e.text ++ rest)))
    ∙ ap (drop k) (sym (drop-drop (length e.text) size (kept ++ (e.text ++ rest))) ∙ ap (drop (length e.text)) (drop_at kept (e.text ++ rest) size len) ∙
    drop_at e.text rest (length e.text) refl)

abbrev Kept : List Edit → ℕ → ℕ → Type 0
Kept edits start end = AllByRecursion (λ e. (end ≤ e.span.start) ⊎ (e.span.end ≤ start)) edits

bytes_kept : (edits : List Edit) (text : List ℕ) (old new start end : ℕ) → AreInOrder old edits → EndWithin (length text) edits → old ≤ start →
    start < end → end ≤ length text → Kept edits start end
    → take (end - start) (drop (moved_from old new edits start - new) (edited_from old edits text)) ≡ slice_range text start end
bytes_kept [] text old new start end order within from some ends kept =
    ap (λ n. take (end - start) (drop n (drop old text))) (let e : (new + (start - old)) - new ≡ start - old = omega arith in e)
    ∙ ap (take (end - start)) (drop_on old start text from)
bytes_kept (e ∷ edits) text old new start end order within from some ends kept =
    let first : old ≤ e.span.start = order.0 in
    let second : e.span.start ≤ e.span.end = order.1 in
    let third : e.span.end ≤ length text = within.0 in
    let size = e.span.start - old in
    let next = new + (size + length e.text) in
    ⊎_elim
    (λ (past : e.span.end ≤ start).
    let m = moved_from e.span.end next edits start in
    let low : next ≤ m = at_least edits e.span.end next start in
    ap (λ n. take (end - start) (drop (n - new) (edited_from old (e ∷ edits) text))) (step_past old new e edits start past)
    ∙ ap (λ n. take (end - start) (drop n (edited_from old (e ∷ edits) text))) (apart m new (size + length e.text) low)
    ∙ ap (take (end - start)) (past_first old e edits text (m - next) first second third)
    ∙ bytes_kept edits text e.span.end next start end order.2 within.1 past some ends kept.1)
    (λ (behind : start < e.span.end).
    let before : end ≤ e.span.start = ⊎_elim (λ (h : end ≤ e.span.start). h)
    (λ (h : e.span.end ≤ start). let x : end ≤ e.span.start = absurd (omega arith) in x) kept.0 in
    let part = slice_range text old e.span.start in
    let rest = e.text ++ edited_from e.span.end edits text in
    let len : length part ≡ size = length_range text old e.span.start first (omega arith) in
    let inside : start - old ≤ length part = omega arith in
    let left : length (drop (start - old) part) ≡ length part - (start - old) = length-drop (start - old) part in
    let fits : end - start ≤ length (drop (start - old) part) = omega arith in
    ap (λ n. take (end - start) (drop (n - new) (part ++ rest))) (stop_before old new e edits start behind)
    ∙ ap (λ n. take (end - start) (drop n (part ++ rest))) (let x : (new + (start - old)) - new ≡ start - old = omega arith in x)
    ∙ ap (take (end - start)) (drop-append-le (start - old) part rest inside)
    ∙ take-append-le (end - start) (drop (start - old) part) rest fits
    ∙ ap (λ n. take (end - start) (drop (start - old) (take n (drop old text)))) (let x : size ≡ (start - old) + (e.span.start - start) = omega arith in x)
    ∙ ap (take (end - start)) (drop-take (start - old) (e.span.start - start) (drop old text))
    ∙ take-take (end - start) (e.span.start - start) (drop (start - old) (drop old text)) (omega arith)
    ∙ ap (take (end - start)) (drop_on old start text from))
    (by_end e start)
  where
    apart : (m new k : ℕ) → new + k ≤ m → m - new ≡ k + (m - (new + k))
    apart m new k h = omega arith

range_at : (xs : List ℕ) (m k : ℕ) → slice_range xs m (m + k) ≡ take k (drop m xs)
range_at xs m k = ap (λ n. take n (drop m xs)) (let e : (m + k) - m ≡ k = omega arith in e)

pub keeps_bytes : KeepsOtherBytes
keeps_bytes edits text start end order within some ends kept =
    let new = edited_text edits text in
    ap (λ (m : ℕ). slice_range new m (m + (end - start))) (sym (moves_all edits start order))
    ∙ range_at new (moved_from 0 0 edits start) (end - start)
    ∙ ap (λ (m : ℕ). take (end - start) (drop m new)) (let e : moved_from 0 0 edits start ≡ moved_from 0 0 edits start - 0 = omega arith in e)
    ∙ bytes_kept edits text 0 0 start end order (ends_within (length text) edits within) (omega arith) some ends
    (recursion_from_All (λ (e : Edit). (end ≤ e.span.start) ⊎ (e.span.end ≤ start)) edits kept)

-- an edit of a list in order begins behind where the list does
begins : (edits : List Edit) (at : ℕ) (e : Edit) → AreInOrder at edits → Contains edits e → at ≤ e.span.start
begins [] at e order has = absurd (nothing_in e has)
begins (d ∷ edits) at e order has =
    let first : at ≤ d.span.start = order.0 in
    let second : d.span.start ≤ d.span.end = order.1 in
    ⊎_elim
    (λ (is : d ≡ e). subst (λ (x : Edit). at ≤ x.span.start) is first)
    (λ (rest : Contains edits e). let far : d.span.end ≤ e.span.start = begins edits d.span.end e order.2 rest in omega arith)
    (first_or_later d edits e has)

bytes_put : (edits : List Edit) (text : List ℕ) (old new : ℕ) (e : Edit) → AreInOrder old edits → EndWithin (length text) edits → Contains edits e →
    e.span.start < e.span.end
    → take (length e.text) (drop (moved_from old new edits e.span.start - new) (edited_from old edits text)) ≡ e.text
bytes_put [] text old new e order within has some = absurd (nothing_in e has)
bytes_put (d ∷ edits) text old new e order within has some =
    let first : old ≤ d.span.start = order.0 in
    let second : d.span.start ≤ d.span.end = order.1 in
    let third : d.span.end ≤ length text = within.0 in
    let size = d.span.start - old in
    let next = new + (size + length d.text) in
    ⊎_elim
    (λ (is : d ≡ e).
    let P : Edit → Type 0 = λ x. x.span.start < x.span.end →
    take (length x.text) (drop (moved_from old new (d ∷ edits) x.span.start - new) (edited_from old (d ∷ edits) text)) ≡ x.text in
    subst P is (λ (less : d.span.start < d.span.end).
    let part = slice_range text old d.span.start in
    let rest = edited_from d.span.end edits text in
    let len : length part ≡ size = length_range text old d.span.start first (omega arith) in
    ap (λ n. take (length d.text) (drop (n - new) (part ++ (d.text ++ rest)))) (stop_before old new d edits d.span.start less)
    ∙ ap (λ n. take (length d.text) (drop n (part ++ (d.text ++ rest)))) (let x : (new + size) - new ≡ size = omega arith in x)
    ∙ ap (take (length d.text)) (drop_at part (d.text ++ rest) size len)
    ∙ take_at d.text rest (length d.text) refl) some)
    (λ (later : Contains edits e).
    let far : d.span.end ≤ e.span.start = begins edits d.span.end e order.2 later in
    let m = moved_from d.span.end next edits e.span.start in
    let low : next ≤ m = at_least edits d.span.end next e.span.start in
    ap (λ n. take (length e.text) (drop (n - new) (edited_from old (d ∷ edits) text))) (step_past old new d edits e.span.start far)
    ∙ ap (λ n. take (length e.text) (drop n (edited_from old (d ∷ edits) text))) (apart m new (size + length d.text) low)
    ∙ ap (take (length e.text)) (past_first old d edits text (m - next) first second third)
    ∙ bytes_put edits text d.span.end next e order.2 within.1 later some)
    (first_or_later d edits e has)
  where
    apart : (m new k : ℕ) → new + k ≤ m → m - new ≡ k + (m - (new + k))
    apart m new k h = omega arith

pub puts_bytes : PutsNewBytes
puts_bytes edits text e order within has some =
    let new = edited_text edits text in
    ap (λ (m : ℕ). slice_range new m (m + length e.text)) (sym (moves_all edits e.span.start order))
    ∙ range_at new (moved_from 0 0 edits e.span.start) (length e.text)
    ∙ ap (λ (m : ℕ). take (length e.text) (drop m new)) (let x : moved_from 0 0 edits e.span.start ≡ moved_from 0 0 edits e.span.start - 0 = omega arith in x)
    ∙ bytes_put edits text 0 0 e order (ends_within (length text) edits within) has some

-- ---- the end
pub end_moves : (edits : List Edit) (text : List ℕ) (old new : ℕ) → AreInOrder old edits → EndWithin (length text) edits → old ≤ length text
    → new + length (edited_from old edits text) ≡ moved_from old new edits (length text)
end_moves [] text old new order within from = let len : length (drop old text) ≡ length text - old = length-drop old text in omega arith
end_moves (e ∷ edits) text old new order within from =
    let first : old ≤ e.span.start = order.0 in
    let second : e.span.start ≤ e.span.end = order.1 in
    let third : e.span.end ≤ length text = within.0 in
    let part = slice_range text old e.span.start in
    let rest = edited_from e.span.end edits text in
    let len : length part ≡ e.span.start - old = length_range text old e.span.start first (omega arith) in
    let next = new + ((e.span.start - old) + length e.text) in
    let whole : length (part ++ (e.text ++ rest)) ≡ length part + (length e.text + length rest) = length-append part (e.text ++ rest) ∙
    ap (λ n. length part + n) (length-append e.text rest) in
    let step = step_past old new e edits (length text) third in
    let further : next + length rest ≡ moved_from e.span.end next edits (length text) = end_moves edits text e.span.end next order.2 within.1 third in
    adds (length (part ++ (e.text ++ rest))) (length part) (length e.text) (length rest) new (e.span.start - old)
    (moved_from e.span.end next edits (length text)) whole len further ∙ sym step
  where
    adds : (all part len rest new size m : ℕ) → all ≡ part + (len + rest) → part ≡ size → (new + (size + len)) + rest ≡ m → new + all ≡ m
    adds all part len rest new size m e1 e2 e3 = omega arith

pub moves_end : MovesTheEnd
moves_end edits text order within =
    let e : length (edited_text edits text) ≡ 0 + length (edited_text edits text) = omega arith in
    e ∙ end_moves edits text 0 0 order (ends_within (length text) edits within) (omega arith) ∙ moves_all edits (length text) order
