-- Where the edits of a file end, and where that moves offsets.
use Rattle.std.proofs.Common.{ℕ, zero, suc, ◌≡◌, ◌+◌, ◌-◌, ◌<◌, ◌≤◌, ◌⊎◌, inl, inr, List, [], ◌∷◌, ◌++◌, length, drop, get_or, refl, sym, ap, subst, ◌∙◌, arith}
use Rattle.std.specs.Prelude.{Some, slice_get}
use Rattle.std.specs.Global.{Vec}
use Rattle.std.specs.List.{HoldsAt}
use Rattle.std.specs.List.Sorted.{IsStrictlySortedBy}
use Rattle.std.specs.declared.cmp.Ordering.TheVariants.{Equal}
use Rattle.base_files.specs.Workspace.{path_cmp}
use Rattle.std.proofs.lemmas.Bool.{cases_lt}
use Rattle.std.proofs.lemmas.List.{length_push}
use Rattle.std.proofs.lemmas.Option.{same_Some, none-some, slice_get_within, slice_get-get_or, slice_get_read, get_or_from_slice_get}
use Rattle.base_edits.specs.Edits.{AreInOrder}
use Rattle.base_edits.specs.EditSet.{FileChanges, change_in, change_of, paths_of}
use Rattle.base_edits.specs.Moved.{moved_offset, edits_by}
use Rattle.base_edits.specs.PassedEdits.{ArePast}
use Rattle.base_edits.specs.declared.edit.Edit.{Edit}
use Rattle.base_edits.specs.declared.change.FileChange.{FileChange}
use Rattle.base_edits.proofs.Searched.{found_is, search_cmp}
use Rattle.base_edits.proofs.Steps.{drop_next, past_start, past_later, past_more, past_all, past_stops}
use Rattle.base_edits.specs.declared.moves.End.{End}
use Rattle.base_edits.specs.FilesMoved.{HasEnds}
use Rattle.base_edits.specs.Ends.{passed_at, IsEnd, AreEndsBelow, AreEnds, AreEndsOf, IsLastEnd, IsChangeOf}

-- what a list with one more element has at a number
pub pushed_get : {X : Type 0} (xs : List X) (x y : X) (n : ℕ) → slice_get (xs ++ (x ∷ [])) n ≡ Some y → (slice_get xs n ≡ Some y) ⊎ ((n ≡ length xs) × (x ≡ y))
pushed_get [] x y zero h = inr (refl, same_Some x y h)
pushed_get [] x y (suc n) h = absurd (none-some y h)
pushed_get (z ∷ zs) x y zero h = inl h
pushed_get (z ∷ zs) x y (suc n) h = elim (pushed_get zs x y n h) [
  | inl a ↦ inl a
  | inr a ↦ inr (ap suc a.0, a.1)
]

-- what a list has at a number
pub element : {X : Type 0} (xs : List X) (n : ℕ) → n < length xs → (x : X) × (slice_get xs n ≡ Some x)
element [] n lt = let no : n < 0 = lt in absurd (omega arith)
element (x ∷ xs) zero lt = (x, refl)
element (x ∷ xs) (suc n) lt = element xs n (let h : suc n < suc (length xs) = lt in omega arith)

abbrev beginning : End
beginning = record { old = 0; new = 0 }

pub begins : (edits : List Edit) → AreInOrder 0 edits → IsEnd edits 0 beginning
begins edits order = past_start edits order

-- the beginning alone
pub first_end : (edits : List Edit) (ends : List End) → AreInOrder 0 edits → ends ≡ beginning ∷ [] → AreEndsBelow edits 1 ends
first_end edits ends order e = record {
  size = ap length e;
  first = λ end is. let same : beginning ≡ end = only 0 end is in ap (λ (x : End). x.old) (sym same);
  each = λ n end is. each n end (ap (λ l. slice_get l n) (sym e) ∙ is);
  at_end = λ n x end has is. absurd (beyond n end (ap (λ l. slice_get l (n + 1)) (sym e) ∙ is));
}
  where
    only : (n : ℕ) (end : End) → slice_get ends n ≡ Some end → beginning ≡ end
    only zero end is = same_Some beginning end (ap (λ l. slice_get l 0) (sym e) ∙ is)
    only (suc n) end is = absurd (none-some end (ap (λ l. slice_get l (suc n)) (sym e) ∙ is))

    each : (n : ℕ) (end : End) → slice_get (beginning ∷ []) n ≡ Some end → IsEnd edits n end
    each zero end is = subst (IsEnd edits 0) (same_Some beginning end is) (begins edits order)
    each (suc n) end is = absurd (none-some end is)

    beyond : (n : ℕ) (end : End) → slice_get (beginning ∷ []) (n + 1) ≡ Some end → ⊥
    beyond n end is = let lt = slice_get_within (beginning ∷ []) (n + 1) end is in let low : n + 1 < 1 = lt in omega arith

-- the next edit begins behind an end, and not behind its own
pub record IsBehind (end : End) (e : Edit) : Type 0 where
  pub starts : end.old ≤ e.span.start
  pub ends : e.span.start ≤ e.span.end

pub behind_end : (edits : List Edit) (i : ℕ) (end : End) (e : Edit) → IsEnd edits i end → i < length edits → e ≡ get_or edits i e → IsBehind end e
behind_end edits i end e is lt at =
    let here : AreInOrder end.old (e ∷ drop (i + 1) edits) = subst (AreInOrder end.old) (drop_next edits i e lt at) is.order in
    record { starts = here.0; ends = here.1 }

abbrev pub ended : End → Edit → End
ended end e = record { old = e.span.end; new = end.new + ((e.span.start - end.old) + length e.text) }

pub next_is_end : (edits : List Edit) (i : ℕ) (end : End) (e : Edit) → IsEnd edits i end → i < length edits → e ≡ get_or edits i e →
    IsEnd edits (i + 1) (ended end e)
next_is_end edits i end e is lt at =
    let b = behind_end edits i end e is lt at in
    let starts = b.starts in
    let ends = b.ends in
    (past_more edits e.span.end (passed_at i end) e (past_later edits end.old e.span.end (passed_at i end) is (omega arith)) lt at (omega arith)).next

-- one end more
pub more_ends : (edits : List Edit) (i : ℕ) (old new : List End) (end next : End) (e : Edit) → i < length edits → e ≡ get_or edits i e →
    IsEnd edits i end → next ≡ ended end e →
    new ≡ old ++ (next ∷ []) → AreEndsBelow edits (i + 1) old → AreEndsBelow edits ((i + 1) + 1) new
more_ends edits i old new end next e lt at is made grown h = record {
  size = ap length grown ∙ length_push old next ∙ ap (λ n. n + 1) h.size;
  first = λ x has. elim (pushed_get old next x 0 (ap (λ l. slice_get l 0) (sym grown) ∙ has)) [
    | inl a ↦ h.first x a
    | inr a ↦ let none : 0 ≡ i + 1 = a.0 ∙ h.size in absurd (omega arith)
  ];
  each = λ n x has. elim (pushed_get old next x n (ap (λ l. slice_get l n) (sym grown) ∙ has)) [
    | inl a ↦ h.each n x a
    | inr a ↦ (
        let same : ended end e ≡ x = sym made ∙ a.1 in
        subst (λ m. IsEnd edits m x) (sym (a.0 ∙ h.size)) (subst (IsEnd edits (i + 1)) same (next_is_end edits i end e is lt at)))
  ];
  at_end = λ n other x held has. elim (pushed_get old next x (n + 1) (ap (λ l. slice_get l (n + 1)) (sym grown) ∙ has)) [
    | inl a ↦ h.at_end n other x held a
    | inr a ↦ (
        let num : n + 1 ≡ i + 1 = a.0 ∙ h.size in
        let last : n ≡ i = omega arith in
        let one : other ≡ e = same_Some other e (sym held ∙ ap (slice_get edits) last ∙ slice_get_read edits (length edits) i e refl lt at) in
        sym (ap (λ (y : End). y.old) (sym made ∙ a.1)) ∙ ap (λ (y : Edit). y.span.end) (sym one))
  ];
}

-- the ends of one more file
pub more_files : (changed : List FileChange) (i : ℕ) (old new : List (Vec End)) (here : Vec End) (c : FileChange) → i < length changed →
    c ≡ get_or changed i c → AreEnds c.edits here.items →
    new ≡ old ++ (here ∷ []) → AreEndsOf changed i old → AreEndsOf changed (i + 1) new
more_files changed i old new here c lt at are grown h = record {
  size = ap length grown ∙ length_push old here ∙ ap (λ n. n + 1) h.size;
  each = λ n other x held has. elim (pushed_get old here x n (ap (λ l. slice_get l n) (sym grown) ∙ has)) [
    | inl a ↦ h.each n other x held a
    | inr a ↦ (
        let one : c ≡ other = same_Some c other (sym (slice_get_read changed (length changed) i c refl lt at) ∙ ap (slice_get changed) (sym (a.0
        ∙ h.size)) ∙ held) in
        subst (λ (d : FileChange). AreEnds d.edits x.items) one (subst (λ (y : Vec End). AreEnds c.edits y.items) a.1 are))
  ];
}

-- the edits before and behind the last end at an offset
pub stops : (edits : List Edit) (ends : List End) (offset n : ℕ) → AreEnds edits ends → IsLastEnd ends offset n → (e : Edit) → slice_get edits n ≡ Some e →
    offset < e.span.end
stops edits ends offset n are last e has =
    let lt : n < length edits = slice_get_within edits n e has in
    let size = are.size in
    let in_ends : n + 1 < length ends = omega arith in
    let end : End = get_or ends (n + 1) beginning in
    let is : slice_get ends (n + 1) ≡ Some end = slice_get-get_or ends (n + 1) beginning in_ends in
    subst (λ m. offset < m) (are.at_end n e end has is) (last.behind end is)

pub moved_last : (edits : List Edit) (ends : List End) (offset n : ℕ) (end : End) → AreEnds edits ends → IsLastEnd ends offset n → slice_get ends n ≡ Some end →
    end.new + (offset - end.old) ≡ moved_offset edits offset
moved_last edits ends offset n end are last is =
    let past : ArePast edits offset (passed_at n end) = past_later edits end.old offset (passed_at n end) (are.each n end is) (last.reached end is) in
    elim (cases_lt n (length edits)) [
      | inl lt ↦ (
          let e = element edits n lt in
          sym (past_stops edits offset (passed_at n end) e.0 past lt (sym (get_or_from_slice_get edits n e.0 e.0 e.1))
          (stops edits ends offset n are last e.0 e.1)))
      | inr ge ↦ sym (past_all edits offset (passed_at n end) past ge)
    ]

pub some_ends : (s : FileChanges) (path : List ℕ) (ends : List End) → HasEnds s path ends → 0 < length ends
some_ends s path ends h = let size = h.are.size in omega arith

pub first_at : (s : FileChanges) (path : List ℕ) (ends : List End) → HasEnds s path ends → (end : End) → slice_get ends 0 ≡ Some end → end.old ≡ 0
first_at s path ends h = h.are.first

pub moved_in : (s : FileChanges) (path : List ℕ) (ends : List End) (offset : ℕ) (P : ℕ → Type 0) → HasEnds s path ends →
    ((edits : List Edit) → AreEnds edits ends → P (moved_offset edits offset)) → P (moved_offset (edits_by (change_of s path)) offset)
moved_in s path ends offset P h moves = subst (λ o. P (moved_offset (edits_by o) offset)) (sym h.is) (moves h.change.edits h.are)

-- the change of a path, by a search
pub change_number : (s t : FileChanges) (changed : List FileChange) (path : List ℕ) (n : ℕ) → changed ≡ s.changed → s ≡ t →
    IsStrictlySortedBy path_cmp (paths_of changed) → n < length changed →
    HoldsAt (λ x. search_cmp path x ≡ Equal) changed n → IsChangeOf t path n
change_number s t changed path n same view sorted lt at =
    let c = element changed n lt in
    let found : Some c.0 ≡ change_in changed path = found_is changed path n c.0 sorted lt at (sym (get_or_from_slice_get changed n c.0 c.0 c.1)) in
    let here : IsChangeOf s path n = record {
      within = subst (λ l. n < length l) same lt;
      is = ap (λ l. slice_get l n) (sym same) ∙ c.1 ∙ found ∙ ap (λ l. change_in l path) same;
    } in
    subst (λ u. IsChangeOf u path n) view here
