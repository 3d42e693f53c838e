-- A text after its edits, and that reversed edits give it back.
use Rattle.std.proofs.Common.{◌≡◌, ℕ, ◌+◌, ◌-◌, ◌≤◌, List, [], ◌∷◌, ◌++◌, length, take, drop, refl, sym, ap, ◌∙◌, arith, min}
use Rattle.std.specs.List.{slice_range, AllByRecursion}
use Rattle.std.proofs.lemmas.List.{take-append-drop, drop-drop, take_at, drop_at, length-take, length-drop, length-append}
use Rattle.std.proofs.lemmas.List.Elements.{recursion_from_All, All-from_recursion}
use Rattle.base_edits.specs.Edits.{AreInOrder, LieWithin, edited_from}
use Rattle.base_edits.specs.Inverse.{reversed_from}
use Rattle.base_edits.specs.Laws.{ReversedRestore}
use Rattle.base_edits.specs.declared.edit.Edit.{Edit}

-- all spans end in a text of so many bytes
abbrev pub EndWithin : ℕ → List Edit → Type 0
EndWithin size edits = AllByRecursion (λ e. e.span.end ≤ size) edits

pub drop_on : (a b : ℕ) (xs : List ℕ) → a ≤ b → drop (b - a) (drop a xs) ≡ drop b xs
drop_on a b xs le = drop-drop (b - a) a xs ∙ ap (λ n. drop n xs) (let e : a + (b - a) ≡ b = omega arith in e)

-- a range, and what is behind it
pub range_then_rest : (xs : List ℕ) (a b : ℕ) → a ≤ b → slice_range xs a b ++ drop b xs ≡ drop a xs
range_then_rest xs a b le = ap (λ rest. slice_range xs a b ++ rest) (sym (drop_on a b xs le)) ∙ take-append-drop (b - a) (drop a xs)

pub length_range : (xs : List ℕ) (a b : ℕ) → a ≤ b → b ≤ length xs → length (slice_range xs a b) ≡ b - a
length_range xs a b le within = length-take (b - a) (drop a xs) ∙
    (let len : length (drop a xs) ≡ length xs - a = length-drop a xs in let e : min (b - a) (length (drop a xs)) ≡ b - a = omega arith in e)

-- where the part before a span ends in the new text, the new bytes begin
rest_behind : (new : List ℕ) (start size : ℕ) (kept rest : List ℕ) → length kept ≡ size → drop start new ≡ kept ++ rest → drop (start + size) new ≡ rest
rest_behind new start size kept rest len is = sym (drop-drop size start new) ∙ ap (drop size) is ∙ drop_at kept rest size len

kept_range : (new : List ℕ) (start size : ℕ) (kept rest : List ℕ) → length kept ≡ size → drop start new ≡ kept ++ rest →
    slice_range new start (start + size) ≡ kept
kept_range new start size kept rest len is = ap (λ n. take n (drop start new)) (let e : (start + size) - start ≡ size = omega arith in e) ∙
    ap (take size) is ∙ take_at kept rest size len

-- what the new text has from start on is the old one's from at on, edited; the reversed edits make that of it again
pub reversed_back : (edits : List Edit) (text new : List ℕ) (at start : ℕ) → AreInOrder at edits → EndWithin (length text) edits
    → drop start new ≡ edited_from at edits text → edited_from start (reversed_from at start edits text) new ≡ drop at text
reversed_back [] text new at start order within is = is
reversed_back (e ∷ edits) text new at start order within is =
    let kept = slice_range text at e.span.start in
    let size = e.span.start - at in
    let rest = e.text ++ edited_from e.span.end edits text in
    let first : at ≤ e.span.start = order.0 in
    let second : e.span.start ≤ e.span.end = order.1 in
    let third : e.span.end ≤ length text = within.0 in
    let len : length kept ≡ size = length_range text at e.span.start first (omega arith) in
    let behind : drop (start + size) new ≡ rest = rest_behind new start size kept rest len is in
    let further : drop ((start + size) + length e.text) new ≡ edited_from e.span.end edits text =
    rest_behind new (start + size) (length e.text) e.text (edited_from e.span.end edits text) refl behind in
    let back = reversed_back edits text new e.span.end ((start + size) + length e.text) order.2 within.1 further in
    let same : slice_range new start (start + size) ≡ kept = kept_range new start size kept rest len is in
    ap (λ xs. xs ++ (slice_range text e.span.start e.span.end ++ edited_from ((start + size) + length e.text)
    (reversed_from e.span.end ((start + size) + length e.text) edits text) new)) same
    ∙ ap (λ xs. kept ++ (slice_range text e.span.start e.span.end ++ xs)) back
    ∙ ap (λ xs. kept ++ xs) (range_then_rest text e.span.start e.span.end second)
    ∙ range_then_rest text at e.span.start first

pub reversed_order : (edits : List Edit) (text : List ℕ) (at start : ℕ) → AreInOrder start (reversed_from at start edits text)
reversed_order [] text at start = tt
reversed_order (e ∷ edits) text at start = ((omega arith), (omega arith), reversed_order edits text e.span.end ((start + (e.span.start - at)) + length e.text))

pub reversed_within : (edits : List Edit) (text new : List ℕ) (at start : ℕ) → AreInOrder at edits → EndWithin (length text) edits → start ≤ length new
    → drop start new ≡ edited_from at edits text → EndWithin (length new) (reversed_from at start edits text)
reversed_within [] text new at start order within begins is = tt
reversed_within (e ∷ edits) text new at start order within begins is =
    let kept = slice_range text at e.span.start in
    let size = e.span.start - at in
    let rest = e.text ++ edited_from e.span.end edits text in
    let first : at ≤ e.span.start = order.0 in
    let second : e.span.start ≤ e.span.end = order.1 in
    let third : e.span.end ≤ length text = within.0 in
    let len : length kept ≡ size = length_range text at e.span.start first (omega arith) in
    let behind : drop (start + size) new ≡ rest = rest_behind new start size kept rest len is in
    let further : drop ((start + size) + length e.text) new ≡ edited_from e.span.end edits text =
    rest_behind new (start + size) (length e.text) e.text (edited_from e.span.end edits text) refl behind in
    let whole : length (drop start new) ≡ size + (length e.text + length (edited_from e.span.end edits text)) =
    ap length is ∙ length-append kept rest ∙ (let split = length-append e.text (edited_from e.span.end edits text) in omega arith) in
    let left : length (drop start new) ≡ length new - start = length-drop start new in
    let inside : (start + size) + length e.text ≤ length new = omega arith in
    (inside, reversed_within edits text new e.span.end ((start + size) + length e.text) order.2 within.1 inside further)

pub ends_within : (size : ℕ) (edits : List Edit) → LieWithin size edits → EndWithin size edits
ends_within size edits within = recursion_from_All (λ e. e.span.end ≤ size) edits within

pub lie_within : (size : ℕ) (edits : List Edit) → EndWithin size edits → LieWithin size edits
lie_within size edits within = All-from_recursion (λ e. e.span.end ≤ size) edits within

pub reversed_restore : ReversedRestore
reversed_restore edits text order within = reversed_back edits text (edited_from 0 edits text) 0 0 order (ends_within (length text) edits within) refl
