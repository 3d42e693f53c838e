-- One step of the loops over edits and changes.
use Rattle.std.proofs.Common.{◌≡◌, ℕ, ◌+◌, ◌-◌, ◌<◌, ◌≤◌, List, [], ◌∷◌, ◌++◌, length, drop, get_or, sym, ap, subst, ◌∙◌, arith}
use Rattle.std.specs.List.{slice_range, All}
use Rattle.std.proofs.lemmas.List.{drop_more, drop_all, append_assoc, length-append}
use Rattle.base_files.specs.Workspace.{Workspace}
use Rattle.base_edits.specs.Edits.{AreInOrder, LieWithin, edited_from}
use Rattle.base_edits.specs.EditSet.{FileChanges, edited}
use Rattle.base_edits.specs.Fits.{Fits, HasSpans}
use Rattle.base_edits.specs.Inverse.{AreChanges, IsInverse, reversed_from, inverse}
use Rattle.base_edits.specs.Made.{made}
use Rattle.base_edits.specs.Moved.{moved_offset}
use Rattle.base_edits.specs.PassedEdits.{ArePast, moved_from, PassedEdits}
use Rattle.base_edits.specs.Prepared.{IsPrepared}
use Rattle.base_edits.specs.declared.edit.Edit.{Edit}
use Rattle.base_edits.specs.declared.change.FileChange.{FileChange}
use Rattle.base_edits.proofs.EditedText.{length_range}
use Rattle.base_edits.proofs.MovedPlaces.{at_least, step_past, stop_before, moves_all}
use Rattle.base_edits.proofs.MadeFiles.{made_is_edited}
use Rattle.base_edits.proofs.Restored.{leads_back, inverse_changes}

pub drop_next : {X : Type 0} (xs : List X) (i : ℕ) (x : X) → i < length xs → x ≡ get_or xs i x → drop i xs ≡ x ∷ drop (i + 1) xs
drop_next xs i x lt is = drop_more xs i x lt ∙ ap (λ y. y ∷ drop (i + 1) xs) (sym is)

-- an edit, the edits behind it, and where all stand
pub record IsNextEdit (edits : List Edit) (i : ℕ) (at size : ℕ) (e : Edit) : Type 0 where
  pub left : drop i edits ≡ e ∷ drop (i + 1) edits
  pub first : at ≤ e.span.start
  pub second : e.span.start ≤ e.span.end
  pub third : e.span.end ≤ size
  pub order : AreInOrder e.span.end (drop (i + 1) edits)

pub next_edit : (edits : List Edit) (i : ℕ) (at size : ℕ) (e : Edit) → i < length edits → e ≡ get_or edits i e → AreInOrder at (drop i edits) →
    LieWithin size edits → IsNextEdit edits i at size e
next_edit edits i at size e lt is order within =
    let left = drop_next edits i e lt is in
    let here : AreInOrder at (e ∷ drop (i + 1) edits) = subst (AreInOrder at) left order in
    record {
      left = left;
      first = here.0;
      second = here.1;
      third = subst (λ (x : Edit). x.span.end ≤ size) (sym is) (within i e lt);
      order = here.2;
    }

-- the text so far, one edit further
pub text_more : (edits : List Edit) (i at : ℕ) (old new all : List ℕ) (e : Edit) → IsNextEdit edits i at (length old) e →
    new ++ edited_from at (drop i edits) old ≡ all
    → ((new ++ slice_range old at e.span.start) ++ e.text) ++ edited_from e.span.end (drop (i + 1) edits) old ≡ all
text_more edits i at old new all e next so_far =
    let rest = edited_from e.span.end (drop (i + 1) edits) old in
    append_assoc (new ++ slice_range old at e.span.start) e.text rest
    ∙ append_assoc new (slice_range old at e.span.start) (e.text ++ rest)
    ∙ ap (λ (es : List Edit). new ++ edited_from at es old) (sym next.left) ∙ so_far

-- the reversed edits so far, one further
pub reversed_more : (edits back all : List Edit) (i at new len : ℕ) (old : List ℕ) (e r : Edit) → IsNextEdit edits i at (length old) e →
    back ++ reversed_from at new (drop i edits) old ≡ all
    → len ≡ length e.text
    → r ≡ record {
      span = record { start = new + (e.span.start - at); end = (new + (e.span.start - at)) + len };
      text =
          slice_range old e.span.start e.span.end;
    }
    → (back ++ r ∷ []) ++ reversed_from e.span.end ((new + (e.span.start - at)) + len) (drop (i + 1) edits) old ≡ all
reversed_more edits back all i at new len old e r next so_far len_is is =
    let rest = drop (i + 1) edits in
    let start = new + (e.span.start - at) in
    let P : ℕ → Type 0 = λ n. r ≡ record { span = record { start = start; end = start + n }; text = slice_range old e.span.start e.span.end } →
    (back ++ r ∷ []) ++ reversed_from e.span.end (start + n) rest old ≡ all in
    subst P (sym len_is) (λ same.
    append_assoc back (r ∷ []) (reversed_from e.span.end (start + length e.text) rest old)
    ∙ ap (λ (x : Edit). back ++ (x ∷ reversed_from e.span.end (start + length e.text) rest old)) same
    ∙ ap (λ (es : List Edit). back ++ reversed_from at new es old) (sym next.left) ∙ so_far) is

-- how many bytes of the new text are left
pub size_more : (edits : List Edit) (i at : ℕ) (old : List ℕ) (e : Edit) → IsNextEdit edits i at (length old) e
    → length (edited_from at (drop i edits) old) ≡ (e.span.start - at) + (length e.text + length (edited_from e.span.end (drop (i + 1) edits) old))
size_more edits i at old e next =
    let kept = slice_range old at e.span.start in
    let rest = edited_from e.span.end (drop (i + 1) edits) old in
    let first = next.first in
    let second = next.second in
    let third = next.third in
    let len : length kept ≡ e.span.start - at = length_range old at e.span.start first (omega arith) in
    ap (λ (es : List Edit). length (edited_from at es old)) next.left
    ∙ length-append kept (e.text ++ rest) ∙ ap (λ n. n + length (e.text ++ rest)) len ∙ ap (λ n. (e.span.start - at) + n) (length-append e.text rest)

-- what the list of changes says of one
pub order_at : (changes : List FileChange) (i : ℕ) (c : FileChange) → i < length changes → c ≡ get_or changes i c →
    All (λ x. AreInOrder 0 x.edits) changes → AreInOrder 0 c.edits
order_at changes i c lt is all = subst (λ (x : FileChange). AreInOrder 0 x.edits) (sym is) (all i c lt)

pub there_at : (w : Workspace) (changes : List FileChange) (i : ℕ) (c : FileChange) → i < length changes → c ≡ get_or changes i c →
    All (HasSpans w) changes → HasSpans w c
there_at w changes i c lt is all = subst (HasSpans w) (sym is) (all i c lt)

-- ---- what is prepared
pub are_prepared : (s : FileChanges) (w files : Workspace) (back : List FileChange) (lost : List (List ℕ × List ℕ)) → AreChanges s → Fits s w
    → files ≡ made s w → back ≡ (inverse s w).changed → lost ≡ (inverse s w).added →
    IsPrepared s w (record { files = files; inverse = record { changed = back; added = lost } })
are_prepared s w files back lost changes fits e1 e2 e3 =
    let made_so : files ≡ edited s w = e1 ∙ made_is_edited s w changes fits in
    let turned : ◌≡◌ {A = FileChanges} (inverse s w) (record { changed = back; added = lost }) = (λ i. record { changed = sym e2 i; added = sym e3 i }) in
    record {
      made = made_so;
      back = subst (λ (v : Workspace). IsInverse (record { changed = back; added = lost }) v w) (sym made_so)
          (subst (λ (t : FileChanges). IsInverse t (edited s w) w) turned (leads_back s w changes fits));
    }

pub are_changes : (s : FileChanges) (w : Workspace) (back : List FileChange) (lost : List (List ℕ × List ℕ)) → AreChanges s → Fits s w
    → back ≡ (inverse s w).changed → lost ≡ (inverse s w).added → AreChanges (record { changed = back; added = lost })
are_changes s w back lost changes fits e2 e3 =
    let turned : ◌≡◌ {A = FileChanges} (inverse s w) (record { changed = back; added = lost }) = (λ i. record { changed = sym e2 i; added = sym e3 i }) in
    subst AreChanges turned (inverse_changes s w changes fits)

-- ---- the cursor
pub past_start : (edits : List Edit) → AreInOrder 0 edits → ArePast edits 0 (record { edits = 0; old = 0; new = 0 })
past_start edits order = record { within = omega arith; behind = omega arith; order = order; moves = λ offset h. moves_all edits offset order }

pub past_later : (edits : List Edit) (last offset : ℕ) (past : PassedEdits) → ArePast edits last past → last ≤ offset → ArePast edits offset past
past_later edits last offset past is le =
    let behind = is.behind in
    record { within = is.within; behind = omega arith; order = is.order; moves = λ other h. is.moves other (omega arith) }

-- the part of the edits that a cursor goes past by one more
pub record IsNextPast (edits : List Edit) (offset : ℕ) (past : PassedEdits) (e : Edit) : Type 0 where
  pub first : past.old ≤ e.span.start
  pub fits : past.new + ((e.span.start - past.old) + length e.text) ≤ moved_offset edits offset
  pub next : ArePast edits offset (record { edits = past.edits + 1; old = e.span.end; new = past.new + ((e.span.start - past.old) + length e.text) })

pub past_more : (edits : List Edit) (offset : ℕ) (past : PassedEdits) (e : Edit) → ArePast edits offset past → past.edits < length edits →
    e ≡ get_or edits past.edits e → e.span.end ≤ offset → IsNextPast edits offset past e
past_more edits offset past e is lt at ends =
    let left = drop_next edits past.edits e lt at in
    let rest = drop (past.edits + 1) edits in
    let here : AreInOrder past.old (e ∷ rest) = subst (AreInOrder past.old) left is.order in
    let new = past.new + ((e.span.start - past.old) + length e.text) in
    let moves : (other : ℕ) → offset ≤ other → moved_from e.span.end new rest other ≡ moved_offset edits other = λ other h.
    sym (step_past past.old past.new e rest other (omega arith)) ∙ ap (λ (es : List Edit). moved_from past.old past.new es other) (sym left) ∙
    is.moves other h in
    record {
      first = here.0;
      fits = subst (λ (n : ℕ). new ≤ n) (moves offset (omega arith)) (at_least rest e.span.end new offset);
      next = record { within = omega arith; behind = ends; order = here.2; moves = moves };
    }

pub past_all : (edits : List Edit) (offset : ℕ) (past : PassedEdits) → ArePast edits offset past → length edits ≤ past.edits →
    moved_offset edits offset ≡ past.new + (offset - past.old)
past_all edits offset past is all =
    let none : drop past.edits edits ≡ [] = drop_all past.edits edits all in
    sym (is.moves offset (omega arith)) ∙ ap (λ (es : List Edit). moved_from past.old past.new es offset) none

pub past_stops : (edits : List Edit) (offset : ℕ) (past : PassedEdits) (e : Edit) → ArePast edits offset past → past.edits < length edits →
    e ≡ get_or edits past.edits e → offset < e.span.end → moved_offset edits offset ≡ past.new + (offset - past.old)
past_stops edits offset past e is lt at behind =
    sym (is.moves offset (omega arith)) ∙ ap (λ (es : List Edit). moved_from past.old past.new es offset) (drop_next edits past.edits e lt at)
    ∙ stop_before past.old past.new e (drop (past.edits + 1) edits) offset behind
