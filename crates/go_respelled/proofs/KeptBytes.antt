-- The bytes of pieces after edits of names and strings.
use Rattle.std.proofs.Common.{ℕ, ◌≡◌, ◌⊎◌, ◌+◌, ◌-◌, ◌<◌, ◌≤◌, List, [], ◌∷◌, length, take, drop, refl, sym, ap, ◌∙◌, subst, arith, inl, inr, ⊎_elim}
use Rattle.std.specs.List.{AllByRecursion, Contains}
use Rattle.std.proofs.lemmas.List.Elements.{All-contains, All-from_recursion, recursion_from_All}
use Rattle.base_lemmas.proofs.Elements.{first_in, first_or_later, later_in, nothing_in}
use Rattle.base_files.specs.declared.place.Span.{Span}
use Rattle.go_scanner.specs.declared.piece.Class.{Class}
use Rattle.go_scanner.specs.declared.piece.Piece.{Piece}
use Rattle.go_scanner.specs.Cuts.{IsCut, bytes_of}
use Rattle.go_scanner.specs.CutText.{CutText}
use Rattle.go_scanner.proofs.SpanLemmas.{cut_covers}
use Rattle.base_edits.specs.Edits.{AreInOrder, LieWithin, edited_text}
use Rattle.base_edits.specs.Laws.{AreUntouched}
use Rattle.base_edits.specs.Moved.{moved_offset}
use Rattle.base_edits.specs.PassedEdits.{moved_from}
use Rattle.base_edits.specs.declared.edit.Edit.{Edit}
use Rattle.base_edits.proofs.MovedPlaces.{keeps_bytes, moves_all, puts_bytes, step_past, stop_before}
use Rattle.go_respelled.specs.PieceEdits.{ArePieceEdits, IsPieceEdit, MayStandFor, edited_piece}
use Rattle.go_respelled.specs.Renamings.{AreNameEdits, IsNameEdit, moved_piece, recut, replaced_piece}
use Rattle.go_respelled.proofs.Many.{piece_edits, pieces_have_bytes}
use Rattle.go_respelled.proofs.Offsets.{HaveBytes}
use Rattle.go_respelled.proofs.Places.{apart, begins_behind}

-- where the end of a piece moves

abbrev Spared : List Edit → ℕ → ℕ → Type 0
Spared edits start end = AllByRecursion (λ e. (end ≤ e.span.start) ⊎ (e.span.end ≤ start)) edits

moves_along : (edits : List Edit) (old new start end : ℕ) → AreInOrder old edits → HaveBytes edits → old ≤ start → start ≤ end → Spared edits start end →
    moved_from old new edits end ≡ moved_from old new edits start + (end - start)
moves_along [] old new start end order some low le spared = omega arith
moves_along (e ∷ edits) old new start end order some low le spared =
    ⊎_elim
    (λ (before : end ≤ e.span.start).
    let has : e.span.start < e.span.end = some.0 in
    let one = stop_before old new e edits end (omega arith) in
    let two = stop_before old new e edits start (omega arith) in
    let sum : new + (end - old) ≡ new + (start - old) + (end - start) = omega arith in
    one ∙ sum ∙ ap (λ n. n + (end - start)) (sym two))
    (λ (past : e.span.end ≤ start).
    let next : ℕ = new + ((e.span.start - old) + length e.text) in
    let one = step_past old new e edits end (omega arith) in
    let two = step_past old new e edits start past in
    one ∙ moves_along edits e.span.end next start end order.2 some.1 past le spared.1 ∙ ap (λ n. n + (end - start)) (sym two))
    spared.0

at_old : (edits : List Edit) (old new : ℕ) → AreInOrder old edits → HaveBytes edits → moved_from old new edits old ≡ new
at_old [] old new order some = omega arith
at_old (e ∷ edits) old new order some =
    let first : old ≤ e.span.start = order.0 in
    let has : e.span.start < e.span.end = some.0 in
    let same : new + (old - old) ≡ new = omega arith in
    stop_before old new e edits old (omega arith) ∙ same

begins : (edits : List Edit) (at : ℕ) (e : Edit) → AreInOrder at edits → Contains edits e → at ≤ e.span.start
begins [] at e order has = absurd (nothing_in e has)
begins (d ∷ edits) at e order has =
    let first : at ≤ d.span.start = order.0 in
    let second : d.span.start ≤ d.span.end = order.1 in
    ⊎_elim
    (λ (is : d ≡ e). subst (λ (x : Edit). at ≤ x.span.start) is first)
    (λ (rest : Contains edits e). let far : d.span.end ≤ e.span.start = begins edits d.span.end e order.2 rest in omega arith)
    (first_or_later d edits e has)

put_end : (edits : List Edit) (old new : ℕ) (e : Edit) → AreInOrder old edits → HaveBytes edits → Contains edits e →
    moved_from old new edits e.span.end ≡ moved_from old new edits e.span.start + length e.text
put_end [] old new e order some has = absurd (nothing_in e has)
put_end (d ∷ edits) old new e order some has =
    let next : ℕ = new + ((d.span.start - old) + length d.text) in
    ⊎_elim
    (λ (is : d ≡ e).
    let less : d.span.start < d.span.end = some.0 in
    let one : moved_from old new (d ∷ edits) d.span.end ≡ next = step_past old new d edits d.span.end (omega arith) ∙
    at_old edits d.span.end next order.2 some.1 in
    let two : moved_from old new (d ∷ edits) d.span.start ≡ new + (d.span.start - old) = stop_before old new d edits d.span.start less in
    let sum : next ≡ new + (d.span.start - old) + length d.text = omega arith in
    subst (λ (x : Edit). moved_from old new (d ∷ edits) x.span.end ≡ moved_from old new (d ∷ edits) x.span.start + length x.text) is
    (one ∙ sum ∙ ap (λ n. n + length d.text) (sym two)))
    (λ (later : Contains edits e).
    let far : d.span.end ≤ e.span.start = begins edits d.span.end e order.2 later in
    let order_of : e.span.start ≤ e.span.end = ordered edits d.span.end e order.2 later in
    let one = step_past old new d edits e.span.end (omega arith) in
    let two = step_past old new d edits e.span.start far in
    one ∙ put_end edits d.span.end next e order.2 some.1 later ∙ ap (λ n. n + length e.text) (sym two))
    (first_or_later d edits e has)
  where
    ordered : (edits : List Edit) (at : ℕ) (e : Edit) → AreInOrder at edits → Contains edits e → e.span.start ≤ e.span.end
    ordered [] at e order has = absurd (nothing_in e has)
    ordered (d ∷ edits) at e order has =
        ⊎_elim
        (λ (is : d ≡ e). subst (λ (x : Edit). x.span.start ≤ x.span.end) is order.1)
        (λ (rest : Contains edits e). ordered edits d.span.end e order.2 rest)
        (first_or_later d edits e has)

-- a piece is kept, or one of the edits replaces it

pub data IsEdited (edits : List Edit) (p : Piece) : Type 0 where
  kept : Spared edits p.span.start p.span.end → IsEdited edits p
  put : (e : Edit) → Contains edits e → p.span ≡ e.span → IsEdited edits p

one_more : (e : Edit) (edits : List Edit) (p : Piece) (c : Class) →
    (p ≡ edited_piece c e) ⊎ ((p.span.end ≤ e.span.start) ⊎ (e.span.end ≤ p.span.start)) → IsEdited edits p → IsEdited (e ∷ edits) p
one_more e edits p c (inl is) rest = put e (first_in e edits) (ap (λ (q : Piece). q.span) is)
one_more e edits p c (inr far) (kept rest) = kept (far, rest)
one_more e edits p c (inr far) (put d has is) = put d (later_in e edits d has) is

pub edited_or_kept : (text : List ℕ) (pieces : List Piece) (edits : List Edit) (p : Piece) → IsCut text pieces →
    AllByRecursion (IsPieceEdit pieces) edits → Contains pieces p → IsEdited edits p
edited_or_kept text pieces [] p cut each has = kept tt
edited_or_kept text pieces (e ∷ edits) p cut each has =
    one_more e edits p each.0.class
    (apart 0 (length text) pieces p (edited_piece each.0.class e) (cut_covers text pieces cut) has each.0.is_piece)
    (edited_or_kept text pieces edits p cut each.1 has)

-- pieces with the span of an edit are the piece that it replaces
pub same_place : (text : List ℕ) (pieces : List Piece) (p q : Piece) → IsCut text pieces → Contains pieces p → Contains pieces q → p.span ≡ q.span → p ≡ q
same_place text pieces p q cut one other same =
    let place = begins_behind 0 (length text) pieces p (cut_covers text pieces cut) one in
    let start : p.span.start ≡ q.span.start = ap (λ (x : Span). x.start) same in
    let end : p.span.end ≡ q.span.end = ap (λ (x : Span). x.end) same in
    by_lie place.1 start end (apart 0 (length text) pieces p q (cut_covers text pieces cut) one other)
  where
    by_lie : p.span.start < p.span.end → p.span.start ≡ q.span.start → p.span.end ≡ q.span.end →
        (p ≡ q) ⊎ ((p.span.end ≤ q.span.start) ⊎ (q.span.end ≤ p.span.start)) → p ≡ q
    by_lie less start end (inl is) = is
    by_lie less start end (inr (inl far)) = absurd (omega (arith, less, start, far))
    by_lie less start end (inr (inr far)) = absurd (omega (arith, less, end, far))

-- bytes

module _ (c : CutText) (edits : List Edit) (cut : IsCut c.text c.pieces) (are : ArePieceEdits c.pieces edits) where
  pub each_edit : AllByRecursion (IsPieceEdit c.pieces) edits
  each_edit = recursion_from_All (IsPieceEdit c.pieces) edits are.each

  some_bytes : HaveBytes edits
  some_bytes = pieces_have_bytes c.text c.pieces edits cut each_edit

  pub within : LieWithin (length c.text) edits
  within = All-from_recursion (λ e. e.span.end ≤ length c.text) edits (each_within edits each_edit)
    where
      each_within : (es : List Edit) → AllByRecursion (IsPieceEdit c.pieces) es → AllByRecursion (λ e. e.span.end ≤ length c.text) es
      each_within [] each = tt
      each_within (e ∷ es) each = (
        (begins_behind 0 (length c.text) c.pieces (edited_piece each.0.class e) (cut_covers c.text c.pieces cut) each.0.is_piece).2,
        each_within es each.1,
      )

  pub kept_bytes : (p : Piece) → Contains c.pieces p → Spared edits p.span.start p.span.end →
      bytes_of (edited_text edits c.text) (moved_piece edits p) ≡ bytes_of c.text p
  kept_bytes p has spared =
      let new : List ℕ = edited_text edits c.text in
      let start : ℕ = p.span.start in
      let end : ℕ = p.span.end in
      let place = begins_behind 0 (length c.text) c.pieces p (cut_covers c.text c.pieces cut) has in
      let far : moved_offset edits end ≡ moved_offset edits start + (end - start) =
      sym (moves_all edits end are.in_order) ∙ moves_along edits 0 0 start end are.in_order some_bytes (omega arith) (omega (arith, place.1)) spared
      ∙ ap (λ n. n + (end - start)) (moves_all edits start are.in_order) in
      let untouched : AreUntouched edits start end = All-from_recursion (λ (e : Edit). (end ≤ e.span.start) ⊎ (e.span.end ≤ start)) edits spared in
      ap (λ (n : ℕ). take (n - moved_offset edits start) (drop (moved_offset edits start) new)) far
      ∙ keeps_bytes edits c.text start end are.in_order within place.1 place.2 untouched

  pub put_bytes : (e : Edit) (p : Piece) → Contains edits e → p.span ≡ e.span → bytes_of (edited_text edits c.text) (moved_piece edits p) ≡ e.text
  put_bytes e p has is =
      let new : List ℕ = edited_text edits c.text in
      let start : ℕ = e.span.start in
      let less : start < e.span.end = one_has edits some_bytes has in
      let far : moved_offset edits e.span.end ≡ moved_offset edits start + length e.text =
      sym (moves_all edits e.span.end are.in_order) ∙ put_end edits 0 0 e are.in_order some_bytes has
      ∙ ap (λ n. n + length e.text) (moves_all edits start are.in_order) in
      ap (λ (x : Span). take (moved_offset edits x.end - moved_offset edits x.start) (drop (moved_offset edits x.start) new)) is
      ∙ ap (λ (n : ℕ). take (n - moved_offset edits start) (drop (moved_offset edits start) new)) far ∙ puts_bytes edits c.text e are.in_order within has less
    where
      one_has : (es : List Edit) → HaveBytes es → Contains es e → e.span.start < e.span.end
      one_has [] some has = absurd (nothing_in e has)
      one_has (d ∷ es) some has =
          ⊎_elim
          (λ (is : d ≡ e). subst (λ (x : Edit). x.span.start < x.span.end) is some.0)
          (λ (later : Contains es e). one_has es some.1 later)
          (first_or_later d es e has)

  -- of a piece that no edit replaces
  pub other_bytes : (p : Piece) → Contains c.pieces p → ((e : Edit) → Contains edits e → p.span ≡ e.span → ⊥) →
      bytes_of (edited_text edits c.text) (moved_piece edits p) ≡ bytes_of c.text p
  other_bytes p has other = by_edit (edited_or_kept c.text c.pieces edits p cut each_edit has)
    where
      by_edit : IsEdited edits p → bytes_of (edited_text edits c.text) (moved_piece edits p) ≡ bytes_of c.text p
      by_edit (kept spared) = kept_bytes p has spared
      by_edit (put e at is) = absurd (other e at is)

  -- the bytes of an edit may take the place of the piece that it replaces
  pub may_stand : (e : Edit) (p : Piece) → Contains c.pieces p → Contains edits e → p.span ≡ e.span → MayStandFor p.class e.text
  may_stand e p has at is =
      let r : IsPieceEdit c.pieces e = All-contains (IsPieceEdit c.pieces) edits e are.each at in
      subst (λ (q : Piece). MayStandFor q.class e.text) (sym (same_place c.text c.pieces p (edited_piece r.class e) cut has r.is_piece is)) r.may

-- after edits of names

pub spelled_put : (c : CutText) (edits : List Edit) (e : Edit) → IsCut c.text c.pieces → AreNameEdits c.pieces edits → Contains edits e →
    bytes_of (recut edits c).text (moved_piece edits (replaced_piece e)) ≡ e.text
spelled_put c edits e cut are has = put_bytes c edits cut (piece_edits c.pieces edits are) e (replaced_piece e) has refl

pub spelled_kept : (c : CutText) (edits : List Edit) (p : Piece) → IsCut c.text c.pieces → AreNameEdits c.pieces edits → Contains c.pieces p →
    ((e : Edit) → Contains edits e → p ≡ replaced_piece e → ⊥) → bytes_of (recut edits c).text (moved_piece edits p) ≡ bytes_of c.text p
spelled_kept c edits p cut are has other =
    other_bytes c edits cut (piece_edits c.pieces edits are) p has (λ e at same. other e at (same_place c.text c.pieces p (replaced_piece e) cut has
    (All-contains (IsNameEdit c.pieces) edits e are.each at).is_piece same))
