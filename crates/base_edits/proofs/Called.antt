-- The edit that takes the place of bytes that begin at an offset.
use Rattle.std.proofs.Common.{ℕ, zero, suc, ◌≡◌, ◌+◌, ◌<◌, ◌≤◌, Bool, true, false, List, [], ◌∷◌, length, refl, sym, ap, subst, ◌∙◌, arith}
use Rattle.std.specs.Prelude.{Option, Some, None, slice_get, find, ◌==◌, nat_lt, ◌&&◌, if◌then◌else◌}
use Rattle.std.proofs.lemmas.Bool.Decides.{nat_tests}
use Rattle.std.proofs.lemmas.Option.{none-some, same_Some}
use Rattle.base_edits.specs.Edits.{AreInOrder}
use Rattle.base_edits.specs.declared.edit.Edit.{Edit}
use Rattle.base_edits.specs.declared.moves.End.{End}
use Rattle.base_edits.specs.Ends.{AreEnds, IsLastEnd}
use Rattle.base_edits.specs.RevisionsOfEdits.{replaces_at, text_or}
use Rattle.base_edits.proofs.Ending.{element, stops}

passed_by : (offset start end : ℕ) → end ≤ offset → ((start == offset) && nat_lt start end) ≡ false
passed_by offset start end h = grind (arith, nat_tests)

not_yet : (offset start end : ℕ) → offset < start → ((start == offset) && nat_lt start end) ≡ false
not_yet offset start end h = grind (arith, nat_tests)

other_start : (offset start end : ℕ) → (start ≡ offset → ⊥) → ((start == offset) && nat_lt start end) ≡ false
other_start offset start end h = grind (arith, nat_tests)

replaced : (offset start end : ℕ) → start ≡ offset → offset < end → ((start == offset) && nat_lt start end) ≡ true
replaced offset start end e h = grind (arith, nat_tests)

-- no edit begins before where edits begin
none_later : (at : ℕ) (edits : List Edit) (offset : ℕ) → AreInOrder at edits → offset < at → find (replaces_at offset) edits ≡ None
none_later at [] offset order lt = refl
none_later at (e ∷ es) offset order lt =
    let a = order.0 in
    let b = order.1 in
    ap (λ t. if t then Some e else find (replaces_at offset) es) (not_yet offset e.span.start e.span.end (omega arith))
    ∙ none_later e.span.end es offset order.2 (omega arith)

ends_later : (at : ℕ) (edits : List Edit) (k : ℕ) (e : Edit) → AreInOrder at edits → slice_get edits k ≡ Some e → at ≤ e.span.end
ends_later at [] k e order has = absurd (none-some e has)
ends_later at (x ∷ xs) zero e order has =
    let a = order.0 in
    let b = order.1 in
    subst (λ (y : Edit). at ≤ y.span.end) (same_Some x e has) (omega arith)
ends_later at (x ∷ xs) (suc k) e order has =
    let a = order.0 in
    let b = order.1 in
    let c = ends_later x.span.end xs k e order.2 has in
    omega arith

-- how many of the first edits end at the offset or before it
record AreBefore (edits : List Edit) (offset n : ℕ) : Type 0 where
  within : n ≤ length edits
  last : (k : ℕ) (e : Edit) → n ≡ suc k → slice_get edits k ≡ Some e → e.span.end ≤ offset
  behind : (e : Edit) → slice_get edits n ≡ Some e → offset < e.span.end

first_passed : (at : ℕ) (e : Edit) (es : List Edit) (offset k : ℕ) → AreInOrder at (e ∷ es) → AreBefore (e ∷ es) offset (suc k) → e.span.end ≤ offset
first_passed at e es offset zero order h = h.last zero e refl refl
first_passed at e es offset (suc k) order h =
    let lt : k < length es = let le : suc (suc k) ≤ suc (length es) = h.within in omega arith in
    let x = element es k lt in
    let a : x.0.span.end ≤ offset = h.last (suc k) x.0 refl x.1 in
    let b : e.span.end ≤ x.0.span.end = ends_later e.span.end es k x.0 order.2 x.1 in
    omega arith

abbrev pub found_at : ℕ → Option Edit → Option Edit
found_at offset None = None
found_at offset (Some e) = if e.span.start == offset then Some e else None

found_is : (at : ℕ) (edits : List Edit) (offset n : ℕ) → AreInOrder at edits → AreBefore edits offset n →
    find (replaces_at offset) edits ≡ found_at offset (slice_get edits n)
found_is at [] offset n order h = refl
found_is at (e ∷ es) offset zero order h =
    let behind : offset < e.span.end = h.behind e refl in
    let rest = none_later e.span.end es offset order.2 behind in
    by_start (e.span.start == offset) refl behind rest
  where
    by_start : (t : Bool) → (e.span.start == offset) ≡ t → offset < e.span.end → find (replaces_at offset) es ≡ None →
        find (replaces_at offset) (e ∷ es) ≡ found_at offset (Some e)
    by_start true same behind rest =
        let eq : e.span.start ≡ offset = grind (arith, nat_tests) in
        ap (λ t. if t then Some e else find (replaces_at offset) es) (replaced offset e.span.start e.span.end eq behind)
        ∙ ap (λ t. if t then Some e else None) (sym same)
    by_start false same behind rest =
        let ne : e.span.start ≡ offset → ⊥ = λ eq. grind (arith, nat_tests) in
        ap (λ t. if t then Some e else find (replaces_at offset) es) (other_start offset e.span.start e.span.end ne) ∙ rest
        ∙ ap (λ t. if t then Some e else None) (sym same)
found_is at (e ∷ es) offset (suc k) order h =
    ap (λ t. if t then Some e else find (replaces_at offset) es) (passed_by offset e.span.start e.span.end (first_passed at e es offset k order h))
    ∙ found_is e.span.end es offset k order.2 (record {
      within = (let le : suc k ≤ suc (length es) = h.within in omega arith);
      last = λ j x is has. h.last (suc j) x (ap suc is) has;
      behind = λ x has. h.behind x has;
    })

before_last : (edits : List Edit) (ends : List End) (offset n : ℕ) → AreEnds edits ends → IsLastEnd ends offset n → AreBefore edits offset n
before_last edits ends offset n are last = record {
  within = (let size = are.size in let lt = last.within in omega arith);
  last = λ k e is has. passed k e is has;
  behind = stops edits ends offset n are last;
}
  where
    passed : (k : ℕ) (e : Edit) → n ≡ suc k → slice_get edits k ≡ Some e → e.span.end ≤ offset
    passed k e is has =
        let num : n ≡ k + 1 = omega arith in
        let size = are.size in
        let lt = last.within in
        let end = element ends n lt in
        subst (λ m. m ≤ offset) (are.at_end k e end.0 has (ap (slice_get ends) (sym num) ∙ end.1)) (last.reached end.0 end.1)

pub found_edit : (edits : List Edit) (ends : List End) (offset n : ℕ) → AreInOrder 0 edits → AreEnds edits ends → IsLastEnd ends offset n →
    find (replaces_at offset) edits ≡ found_at offset (slice_get edits n)
found_edit edits ends offset n order are last = found_is 0 edits offset n order (before_last edits ends offset n are last)

-- the text that is found
pub no_text : (name : List ℕ) (edits : List Edit) (ends : List End) (offset n : ℕ) → slice_get edits n ≡ None → AreInOrder 0 edits → AreEnds edits ends →
    IsLastEnd ends offset n →
    name ≡ text_or name (find (replaces_at offset) edits)
no_text name edits ends offset n none order are last = ap (text_or name) (sym (found_edit edits ends offset n order are last ∙ ap (found_at offset) none))

pub some_text : (name : List ℕ) (edits : List Edit) (ends : List End) (offset n : ℕ) (e : Edit) → slice_get edits n ≡ Some e → e.span.start ≡ offset →
    AreInOrder 0 edits → AreEnds edits ends → IsLastEnd ends offset n →
    e.text ≡ text_or name (find (replaces_at offset) edits)
some_text name edits ends offset n e is at order are last =
    let true_at : (e.span.start == offset) ≡ true = grind (arith, nat_tests) in
    ap (text_or name) (sym (found_edit edits ends offset n order are last ∙ ap (found_at offset) is ∙ ap (λ t. if t then Some e else None) true_at))

pub other_text : (name : List ℕ) (edits : List Edit) (ends : List End) (offset n : ℕ) (e : Edit) → slice_get edits n ≡ Some e → (e.span.start ≡ offset →
    ⊥) → AreInOrder 0 edits → AreEnds edits ends → IsLastEnd ends offset n →
    name ≡ text_or name (find (replaces_at offset) edits)
other_text name edits ends offset n e is at order are last =
    let false_at : (e.span.start == offset) ≡ false = grind (arith, nat_tests) in
    ap (text_or name) (sym (found_edit edits ends offset n order are last ∙ ap (found_at offset) is ∙ ap (λ t. if t then Some e else None) false_at))
