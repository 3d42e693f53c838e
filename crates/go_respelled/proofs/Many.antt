-- A text in which names and strings are replaced, one edit after another.
use Rattle.std.proofs.Common.{ℕ, ◌≡◌, ◌+◌, ◌-◌, ◌<◌, ◌≤◌, List, [], ◌∷◌, ◌++◌, length}
use Rattle.std.proofs.Common.{take, drop, refl, sym, ap, ◌∙◌, subst, arith, drop-drop, append_assoc, inl}
use Rattle.std.specs.Prelude.{◌↔◌, map}
use Rattle.std.specs.List.{AllByRecursion, Contains, slice_range}
use Rattle.std.proofs.lemmas.List.{map-append}
use Rattle.std.proofs.lemmas.List.Elements.{All-from_recursion, All-weaker, recursion_from_All}
use lib.Seq.{take-add}
use Rattle.go_scanner.specs.declared.piece.Class.{Class}
use Rattle.go_scanner.specs.declared.piece.Class.TheVariants.{Name}
use Rattle.go_scanner.specs.declared.piece.Piece.{Piece}
use Rattle.go_scanner.specs.Cuts.{IsCut}
use Rattle.go_scanner.specs.CutText.{CutText}
use Rattle.go_scanner.specs.Spans.{CoversFrom}
use Rattle.go_scanner.proofs.OneCutLemmas.{one_cut}
use Rattle.go_scanner.proofs.SpanLemmas.{cut_covers}
use Rattle.base_edits.specs.Edits.{AreInOrder, edited_from, edited_text}
use Rattle.base_edits.specs.Moved.{moved_offset}
use Rattle.base_edits.specs.declared.edit.Edit.{Edit}
use Rattle.base_edits.proofs.EditedText.{length_range, range_then_rest}
use Rattle.go_respelled.specs.Literals.{piece_at, shifted}
use Rattle.go_respelled.specs.PieceEdits.{ArePieceEdits, IsPieceEdit, MayStandFor, edited_piece}
use Rattle.go_respelled.specs.Renamings.{AreNameEdits, IsNameEdit, moved_piece, recut}
use Rattle.go_respelled.proofs.Offsets.{HaveBytes, before_all, before_one, order_from, past_one}
use Rattle.go_respelled.proofs.Places.{begins_behind, covers_parts, map_agree, parts}
use Rattle.go_respelled.proofs.OnePiece.{replaced_by}

-- the text from one place on, before and behind another

range_joined : (text : List ℕ) (a b c : ℕ) → a ≤ b → b ≤ c → slice_range text a b ++ slice_range text b c ≡ slice_range text a c
range_joined text a b c one two =
    let size : (b - a) + (c - b) ≡ c - a = omega arith in
    let place : a + (b - a) ≡ b = omega arith in
    let behind : drop (b - a) (drop a text) ≡ drop b text = drop-drop (b - a) a text ∙ ap (λ k. drop k text) place in
    ap (λ l. slice_range text a b ++ take (c - b) l) (sym behind) ∙ sym (take-add (b - a) (c - b) (drop a text)) ∙ ap (λ k. take k (drop a text)) size

pub edited_split : (edits : List Edit) (text : List ℕ) (a b : ℕ) → a ≤ b → AreInOrder b edits →
    edited_from a edits text ≡ slice_range text a b ++ edited_from b edits text
edited_split [] text a b le order = sym (range_then_rest text a b le)
edited_split (e ∷ edits) text a b le order =
    let rest : List ℕ = e.text ++ edited_from e.span.end edits text in
    ap (λ l. l ++ rest) (sym (range_joined text a b e.span.start le order.0)) ∙ append_assoc (slice_range text a b) (slice_range text b e.span.start) rest

-- edits of names are edits of pieces

pub piece_edit : (pieces : List Piece) (e : Edit) → IsNameEdit pieces e → IsPieceEdit pieces e
piece_edit pieces e is = record { class = Name; is_piece = is.is_piece; may = inl (refl, is.is_name) }

pub piece_edits : (pieces : List Piece) (edits : List Edit) → AreNameEdits pieces edits → ArePieceEdits pieces edits
piece_edits pieces edits are = record {
  in_order = are.in_order;
  each = All-weaker (IsNameEdit pieces) (IsPieceEdit pieces) (piece_edit pieces) edits are.each;
}

-- edits of pieces have bytes

pub pieces_have_bytes : (text : List ℕ) (pieces : List Piece) (edits : List Edit) → IsCut text pieces → AllByRecursion (IsPieceEdit pieces) edits →
    HaveBytes edits
pieces_have_bytes text pieces [] cut each = tt
pieces_have_bytes text pieces (e ∷ edits) cut each = (
  (begins_behind 0 (length text) pieces (edited_piece each.0.class e) (cut_covers text pieces cut) each.0.is_piece).1,
  pieces_have_bytes text pieces edits cut each.1,
)

pub have_bytes : (text : List ℕ) (pieces : List Piece) (edits : List Edit) → IsCut text pieces → AllByRecursion (IsNameEdit pieces) edits → HaveBytes edits
have_bytes text pieces edits cut each =
    let all = All-weaker (IsNameEdit pieces) (IsPieceEdit pieces) (piece_edit pieces) edits (All-from_recursion (IsNameEdit pieces) edits each) in
    pieces_have_bytes text pieces edits cut (recursion_from_All (IsPieceEdit pieces) edits all)

-- pieces by their ends

same_piece : (p q : Piece) → p.class ≡ q.class → p.span.start ≡ q.span.start → p.span.end ≡ q.span.end → p ≡ q
same_piece p q class start end = λ i. record { class = class i; span = record { start = start i; end = end i } }

none_moves : (p : Piece) → moved_piece [] p ≡ p
none_moves p = same_piece (moved_piece [] p) p refl (before_all [] p.span.start p.span.start tt tt (omega arith))
    (before_all [] p.span.end p.span.end tt tt (omega arith))

map_same : (f : Piece → Piece) (ps : List Piece) → ((p : Piece) → f p ≡ p) → map f ps ≡ ps
map_same f [] same = refl
map_same f (p ∷ ps) same = λ i. same p i ∷ map_same f ps same i

map_map : (f g : Piece → Piece) (ps : List Piece) → map f (map g ps) ≡ map (λ p. f (g p)) ps
map_map f g [] = refl
map_map f g (p ∷ ps) = ap (λ l. f (g p) ∷ l) (map_map f g ps)

-- one edit before the others

module _ (text : List ℕ) (e : Edit) (edits : List Edit) (order : AreInOrder 0 (e ∷ edits)) (some : HaveBytes (e ∷ edits)) where
  later_order : AreInOrder 0 edits
  later_order = order_from 0 e.span.end edits (omega arith) order.2

  front_same : (p : Piece) → p.span.start < p.span.end → p.span.end ≤ e.span.start → moved_piece edits p ≡ moved_piece (e ∷ edits) p
  front_same p has before =
      let first : e.span.start < e.span.end = some.0 in
      let start : p.span.start ≤ e.span.end = omega arith in
      let end : p.span.end ≤ e.span.end = omega arith in
      same_piece (moved_piece edits p) (moved_piece (e ∷ edits) p) refl
      (before_all edits e.span.end p.span.start order.2 some.1 start ∙ sym (before_one e edits p.span.start order (omega arith)))
      (before_all edits e.span.end p.span.end order.2 some.1 end ∙ sym (before_one e edits p.span.end order (omega arith)))

  behind_same : (p : Piece) → e.span.end ≤ p.span.start → p.span.start < p.span.end →
      shifted e.span.end (e.span.start + length e.text) (moved_piece edits p) ≡ moved_piece (e ∷ edits) p
  behind_same p behind has =
      same_piece (shifted e.span.end (e.span.start + length e.text) (moved_piece edits p)) (moved_piece (e ∷ edits) p) refl
      (sym (past_one e edits p.span.start order behind)) (sym (past_one e edits p.span.end order (omega arith)))

  old_stays : (c : Class) → moved_piece edits (edited_piece c e) ≡ edited_piece c e
  old_stays c =
      let first : e.span.start < e.span.end = some.0 in
      same_piece (moved_piece edits (edited_piece c e)) (edited_piece c e) refl
      (before_all edits e.span.end e.span.start order.2 some.1 (omega arith)) (before_all edits e.span.end e.span.end order.2 some.1 (omega arith))

  new_stands : (c : Class) → piece_at c e.span.start e.text ≡ moved_piece (e ∷ edits) (edited_piece c e)
  new_stands c =
      let first : e.span.start < e.span.end = some.0 in
      let stays = before_all edits e.span.end e.span.end order.2 some.1 (omega arith) in
      let end : moved_offset (e ∷ edits) e.span.end ≡ moved_offset edits e.span.end - e.span.end + (e.span.start + length e.text) =
      past_one e edits e.span.end order (omega arith) in
      same_piece (piece_at c e.span.start e.text) (moved_piece (e ∷ edits) (edited_piece c e)) refl
      (sym (before_one e edits e.span.start order first)) (omega (arith, stays, end))

  -- all pieces
  pieces_same : (c : Class) (from to : ℕ) (before after : List Piece) → CoversFrom from (before ++ edited_piece c e ∷ after) to →
      map (moved_piece edits) before ++ piece_at c e.span.start e.text ∷
      map (shifted e.span.end (e.span.start + length e.text)) (map (moved_piece edits) after)
      ≡ map (moved_piece (e ∷ edits)) (before ++ edited_piece c e ∷ after)
  pieces_same c from to before after covers =
      let move : Piece → Piece = shifted e.span.end (e.span.start + length e.text) in
      let covered = covers_parts from to before after (edited_piece c e) covers in
      let front : map (moved_piece edits) before ≡ map (moved_piece (e ∷ edits)) before =
      map_agree (moved_piece edits) (moved_piece (e ∷ edits)) from e.span.start before covered.0 (λ p low has within. front_same p has within) in
      let behind : map move (map (moved_piece edits) after) ≡ map (moved_piece (e ∷ edits)) after = map_map move (moved_piece edits) after
      ∙ map_agree (λ p. move (moved_piece edits p)) (moved_piece (e ∷ edits)) e.span.end to after covered.2 (λ p low has within. behind_same p low has) in
      (λ i. front i ++ new_stands c i ∷ behind i) ∙ sym (map-append (moved_piece (e ∷ edits)) before (edited_piece c e ∷ after))

  -- the text of the others, about the span
  text_split : edited_text edits text ≡ slice_range text 0 e.span.start ++ (slice_range text e.span.start e.span.end ++ edited_from e.span.end edits text)
  text_split =
      edited_split edits text 0 e.span.start (omega arith) (order_from e.span.start e.span.end edits order.1 order.2)
      ∙ ap (λ l. slice_range text 0 e.span.start ++ l) (edited_split edits text e.span.start e.span.end order.1 order.2)

  one_more : (c : Class) (before after : List Piece) → CoversFrom 0 (before ++ edited_piece c e ∷ after) (length text) →
      Contains (before ++ edited_piece c e ∷ after) (edited_piece c e) → MayStandFor c e.text →
      IsCut (edited_text edits text) (map (moved_piece edits) (before ++ edited_piece c e ∷ after)) →
      IsCut (edited_text (e ∷ edits) text) (map (moved_piece (e ∷ edits)) (before ++ edited_piece c e ∷ after))
  one_more c before after covers is may cut =
      let front : List ℕ = slice_range text 0 e.span.start in
      let old : List ℕ = slice_range text e.span.start e.span.end in
      let rest : List ℕ = edited_from e.span.end edits text in
      let first : e.span.start < e.span.end = some.0 in
      let inside = begins_behind 0 (length text) (before ++ edited_piece c e ∷ after) (edited_piece c e) covers is in
      let within : e.span.end ≤ length text = inside.2 in
      let front_size : length front ≡ e.span.start = length_range text 0 e.span.start (omega arith) (omega arith) ∙ omega arith in
      let old_size : length old ≡ e.span.end - e.span.start = length_range text e.span.start e.span.end order.1 within in
      let end : length front + length old ≡ e.span.end = omega arith in
      let new_end : length front + length e.text ≡ e.span.start + length e.text = omega arith in
      let moved_before : List Piece = map (moved_piece edits) before in
      let moved_after : List Piece = map (moved_piece edits) after in
      let here : moved_piece edits (edited_piece c e) ≡ piece_at c (length front) old = old_stays c ∙
      same_piece (edited_piece c e) (piece_at c (length front) old) refl (sym front_size) (sym end) in
      let pieces : map (moved_piece edits) (before ++ edited_piece c e ∷ after) ≡ moved_before ++ piece_at c (length front) old ∷ moved_after =
      map-append (moved_piece edits) before (edited_piece c e ∷ after) ∙ ap (λ p. moved_before ++ p ∷ moved_after) here in
      let was : IsCut (front ++ (old ++ rest)) (moved_before ++ piece_at c (length front) old ∷ moved_after) =
      subst (IsCut (front ++ (old ++ rest))) pieces (subst (λ l. IsCut l (map (moved_piece edits) (before ++ edited_piece c e ∷ after))) text_split cut) in
      let now = replaced_by front old e.text rest moved_before moved_after c may was in
      let named : moved_before ++ piece_at c (length front) e.text ∷ map (shifted (length front + length old) (length front + length e.text)) moved_after
      ≡ moved_before ++ piece_at c e.span.start e.text ∷ map (shifted e.span.end (e.span.start + length e.text)) moved_after =
      λ i. moved_before ++ piece_at c (front_size i) e.text ∷ map (shifted (end i) (new_end i)) moved_after in
      subst (IsCut (front ++ (e.text ++ rest))) (named ∙ pieces_same c 0 (length text) before after covers) now

pub cut_again : (edits : List Edit) (text : List ℕ) (pieces : List Piece) → IsCut text pieces → AreInOrder 0 edits →
    AllByRecursion (IsPieceEdit pieces) edits → IsCut (edited_text edits text) (map (moved_piece edits) pieces)
cut_again [] text pieces cut order each = subst (IsCut text) (sym (map_same (moved_piece []) pieces none_moves)) cut
cut_again (e ∷ edits) text pieces cut order each =
    let some = pieces_have_bytes text pieces (e ∷ edits) cut each in
    let rest = cut_again edits text pieces cut (order_from 0 e.span.end edits (omega arith) order.2) each.1 in
    let c = each.0.class in
    let found = parts pieces (edited_piece c e) each.0.is_piece in
    let covers = subst (λ l. CoversFrom 0 l (length text)) found.whole (cut_covers text pieces cut) in
    let is = subst (λ l. Contains l (edited_piece c e)) found.whole each.0.is_piece in
    subst (λ l. IsCut (edited_text (e ∷ edits) text) (map (moved_piece (e ∷ edits)) l)) (sym found.whole)
    (one_more text e edits order some c found.before found.after covers is each.0.may
    (subst (λ l. IsCut (edited_text edits text) (map (moved_piece edits) l)) found.whole rest))

pub new_cut : (c : CutText) (edits : List Edit) → IsCut c.text c.pieces → ArePieceEdits c.pieces edits →
    (let new = recut edits c in IsCut new.text new.pieces)
new_cut c edits cut are = cut_again edits c.text c.pieces cut are.in_order (recursion_from_All (IsPieceEdit c.pieces) edits are.each)

pub recut_cut : (c : CutText) (edits : List Edit) → IsCut c.text c.pieces → AreNameEdits c.pieces edits →
    (let new = recut edits c in IsCut new.text new.pieces)
recut_cut c edits cut are = new_cut c edits cut (piece_edits c.pieces edits are)

pub recut_only : (c : CutText) (edits : List Edit) → IsCut c.text c.pieces → AreNameEdits c.pieces edits →
    (let new = recut edits c in (pieces : List Piece) → IsCut new.text pieces ↔ (pieces ≡ new.pieces))
recut_only c edits cut are pieces =
    let new = recut edits c in
    let is = recut_cut c edits cut are in
    ((λ other. one_cut new.text pieces new.pieces other is), λ same. subst (IsCut new.text) (sym same) is)
