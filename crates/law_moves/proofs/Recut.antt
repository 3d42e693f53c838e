-- A text in which names and string literals are replaced, one edit after another.
use Rattle.std.proofs.Common.{ℕ, ◌≡◌, ◌⊎◌, ◌+◌, ◌-◌, ◌<◌, ◌≤◌, ◌==◌, ◌||◌, inl, inr, Bool, true, false, List, [], ◌∷◌, ◌++◌, length, map, refl}
use Rattle.std.proofs.Common.{sym, ap, ◌∙◌, subst}
use Rattle.std.proofs.Common.{arith}
use Rattle.std.specs.List.{AllByRecursion, Contains, slice_range}
use Rattle.std.proofs.lemmas.Bool.Decides.{nat_tests}
use Rattle.std.proofs.lemmas.List.{map-append}
use Rattle.std.proofs.lemmas.List.Elements.{recursion_from_All}
use Rattle.base_files.specs.declared.place.Span.{Span}
use Rattle.go_scanner.specs.declared.piece.Class.{Class}
use Rattle.go_scanner.specs.declared.piece.Class.TheVariants.{RawString}
use Rattle.go_scanner.specs.declared.piece.Piece.{Piece}
use Rattle.go_scanner.specs.Cuts.{IsCut}
use Rattle.go_scanner.specs.CutText.{CutText}
use Rattle.go_scanner.specs.Spans.{CoversFrom}
use Rattle.go_scanner.proofs.SpanLemmas.{cut_covers}
use Rattle.base_edits.specs.Edits.{AreInOrder, edited_from, edited_text}
use Rattle.base_edits.specs.Moved.{moved_offset}
use Rattle.base_edits.specs.declared.edit.Edit.{Edit}
use Rattle.base_edits.proofs.EditedText.{length_range}
use Rattle.go_respelled.specs.Literals.{piece_at, shifted}
use Rattle.go_respelled.proofs.Many.{edited_split}
use Rattle.go_respelled.proofs.Offsets.{HaveBytes, before_all, before_one, order_from, past_one}
use Rattle.go_respelled.proofs.Places.{begins_behind, covers_parts, map_agree, parts}
use Rattle.law_moves.specs.Replacements.{AreReplacedPieces, IsReplacement, MayReplace, class_by, is_replaced, new_piece, replaced}
use Rattle.law_moves.proofs.OneEdit.{may_still, one_replaced}

-- edits that replace pieces have bytes

pub have_bytes : (text : List ℕ) (pieces : List Piece) (edits : List Edit) → IsCut text pieces → AllByRecursion (IsReplacement pieces) edits → HaveBytes edits
have_bytes text pieces [] cut each = tt
have_bytes text pieces (e ∷ edits) cut each =
    let inside = (begins_behind 0 (length text) pieces each.0.old (cut_covers text pieces cut) each.0.is_piece).1 in
    (subst (λ (x : Span). x.start < x.end) (sym each.0.span) inside, have_bytes text pieces edits cut each.1)

-- pieces by their parts

same_piece : (p q : Piece) → p.class ≡ q.class → p.span.start ≡ q.span.start → p.span.end ≡ q.span.end → p ≡ q
same_piece p q class start end = λ i. record { class = class i; span = record { start = start i; end = end i } }

never_replaced : (c : Class) → class_by c false ≡ c
never_replaced RawString = refl
never_replaced _ = refl

none_moves : (p : Piece) → new_piece [] p ≡ p
none_moves p = same_piece (new_piece [] p) p (never_replaced p.class) (before_all [] p.span.start p.span.start tt tt (omega arith))
    (before_all [] p.span.end p.span.end tt tt (omega arith))

map_same : (f : Piece → Piece) (ps : List Piece) → ((p : Piece) → f p ≡ p) → map f ps ≡ ps
map_same f [] same = refl
map_same f (p ∷ ps) same = λ i. same p i ∷ map_same f ps same i

map_map : (f g : Piece → Piece) (ps : List Piece) → map f (map g ps) ≡ map (λ p. f (g p)) ps
map_map f g [] = refl
map_map f g (p ∷ ps) = ap (λ l. f (g p) ∷ l) (map_map f g ps)

apart_starts : (a b : ℕ) → (a < b) ⊎ (b < a) → (a == b) ≡ false
apart_starts a b (inl lt) = grind (arith, nat_tests)
apart_starts a b (inr gt) = grind (arith, nat_tests)

same_starts : (a b : ℕ) → a ≡ b → (a == b) ≡ true
same_starts a b e = grind (arith, nat_tests)

-- one edit before the others

module _ (text : List ℕ) (e : Edit) (edits : List Edit) (order : AreInOrder 0 (e ∷ edits)) (some : HaveBytes (e ∷ edits)) where
  not_here : (p : Piece) → (e.span.start < p.span.start) ⊎ (p.span.start < e.span.start) →
      class_by p.class (is_replaced edits p) ≡ class_by p.class (is_replaced (e ∷ edits) p)
  not_here p apart = ap (λ b. class_by p.class (b || is_replaced edits p)) (sym (apart_starts e.span.start p.span.start apart))

  front_same : (p : Piece) → p.span.start < p.span.end → p.span.end ≤ e.span.start → new_piece edits p ≡ new_piece (e ∷ edits) p
  front_same p has before =
      let first : e.span.start < e.span.end = some.0 in
      let start : p.span.start ≤ e.span.end = omega arith in
      let end : p.span.end ≤ e.span.end = omega arith in
      same_piece (new_piece edits p) (new_piece (e ∷ edits) p) (not_here p (inr (omega arith)))
      (before_all edits e.span.end p.span.start order.2 some.1 start ∙ sym (before_one e edits p.span.start order (omega arith)))
      (before_all edits e.span.end p.span.end order.2 some.1 end ∙ sym (before_one e edits p.span.end order (omega arith)))

  behind_same : (p : Piece) → e.span.end ≤ p.span.start → p.span.start < p.span.end →
      shifted e.span.end (e.span.start + length e.text) (new_piece edits p) ≡ new_piece (e ∷ edits) p
  behind_same p behind has =
      let first : e.span.start < e.span.end = some.0 in
      same_piece (shifted e.span.end (e.span.start + length e.text) (new_piece edits p)) (new_piece (e ∷ edits) p) (not_here p (inl (omega arith)))
      (sym (past_one e edits p.span.start order behind)) (sym (past_one e edits p.span.end order (omega arith)))

  module _ (o : Piece) (span : e.span ≡ o.span) where
    start_is : o.span.start ≡ e.span.start
    start_is = ap (λ (x : Span). x.start) (sym span)

    end_is : o.span.end ≡ e.span.end
    end_is = ap (λ (x : Span). x.end) (sym span)

    old_start : moved_offset edits o.span.start ≡ e.span.start
    old_start =
        let first : e.span.start < e.span.end = some.0 in
        ap (moved_offset edits) start_is ∙ before_all edits e.span.end e.span.start order.2 some.1 (omega arith)

    old_end : moved_offset edits o.span.end ≡ e.span.end
    old_end = ap (moved_offset edits) end_is ∙ before_all edits e.span.end e.span.end order.2 some.1 (omega arith)

    new_stands : piece_at (class_by o.class true) e.span.start e.text ≡ new_piece (e ∷ edits) o
    new_stands =
        let first : e.span.start < e.span.end = some.0 in
        let stays = before_all edits e.span.end e.span.end order.2 some.1 (omega arith) in
        let end : moved_offset (e ∷ edits) e.span.end ≡ moved_offset edits e.span.end - e.span.end + (e.span.start + length e.text) =
        past_one e edits e.span.end order (omega arith) in
        let far : e.span.start + length e.text ≡ moved_offset (e ∷ edits) e.span.end = omega (arith, stays, end) in
        same_piece (piece_at (class_by o.class true) e.span.start e.text) (new_piece (e ∷ edits) o)
        (ap (λ b. class_by o.class (b || is_replaced edits o)) (sym (same_starts e.span.start o.span.start (sym start_is))))
        (sym (ap (moved_offset (e ∷ edits)) start_is ∙ before_one e edits e.span.start order first))
        (far ∙ sym (ap (moved_offset (e ∷ edits)) end_is))

    -- all pieces
    pieces_same : (from to : ℕ) (before after : List Piece) → CoversFrom from (before ++ o ∷ after) to →
        map (new_piece edits) before ++ piece_at (class_by o.class true) e.span.start e.text ∷
        map (shifted e.span.end (e.span.start + length e.text)) (map (new_piece edits) after)
        ≡ map (new_piece (e ∷ edits)) (before ++ o ∷ after)
    pieces_same from to before after covers =
        let move : Piece → Piece = shifted e.span.end (e.span.start + length e.text) in
        let covered = covers_parts from to before after o covers in
        let front : map (new_piece edits) before ≡ map (new_piece (e ∷ edits)) before =
        map_agree (new_piece edits) (new_piece (e ∷ edits)) from o.span.start before covered.0
        (λ p low has within. front_same p has (subst (λ (k : ℕ). p.span.end ≤ k) start_is within)) in
        let behind : map move (map (new_piece edits) after) ≡ map (new_piece (e ∷ edits)) after = map_map move (new_piece edits) after
        ∙ map_agree (λ p. move (new_piece edits p)) (new_piece (e ∷ edits)) o.span.end to after covered.2
        (λ p low has within. behind_same p (subst (λ (k : ℕ). k ≤ p.span.start) end_is low) has) in
        (λ i. front i ++ new_stands i ∷ behind i) ∙ sym (map-append (new_piece (e ∷ edits)) before (o ∷ after))

    -- the text of the others, about the span
    text_split : edited_text edits text ≡ slice_range text 0 e.span.start ++ (slice_range text e.span.start e.span.end ++ edited_from e.span.end edits text)
    text_split =
        edited_split edits text 0 e.span.start (omega arith) (order_from e.span.start e.span.end edits order.1 order.2)
        ∙ ap (λ l. slice_range text 0 e.span.start ++ l) (edited_split edits text e.span.start e.span.end order.1 order.2)

    one_more : (before after : List Piece) → CoversFrom 0 (before ++ o ∷ after) (length text) → Contains (before ++ o ∷ after) o → MayReplace o.class e.text →
        IsCut (edited_text edits text) (map (new_piece edits) (before ++ o ∷ after)) →
        IsCut (edited_text (e ∷ edits) text) (map (new_piece (e ∷ edits)) (before ++ o ∷ after))
    one_more before after covers among may cut =
        let front : List ℕ = slice_range text 0 e.span.start in
        let old : List ℕ = slice_range text e.span.start e.span.end in
        let rest : List ℕ = edited_from e.span.end edits text in
        let first : e.span.start < e.span.end = some.0 in
        let inside = begins_behind 0 (length text) (before ++ o ∷ after) o covers among in
        let within : e.span.end ≤ length text = omega (arith, inside.2, end_is) in
        let front_size : length front ≡ e.span.start = length_range text 0 e.span.start (omega arith) (omega arith) ∙ omega arith in
        let old_size : length old ≡ e.span.end - e.span.start = length_range text e.span.start e.span.end order.1 within in
        let end : length front + length old ≡ e.span.end = omega arith in
        let new_end : length front + length e.text ≡ e.span.start + length e.text = omega arith in
        let moved_before : List Piece = map (new_piece edits) before in
        let moved_after : List Piece = map (new_piece edits) after in
        let here : Piece = new_piece edits o in
        let was : IsCut (front ++ (old ++ rest)) (moved_before ++ here ∷ moved_after) =
        subst (IsCut (front ++ (old ++ rest))) (map-append (new_piece edits) before (o ∷ after))
        (subst (λ l. IsCut l (map (new_piece edits) (before ++ o ∷ after))) text_split cut) in
        let now = one_replaced front old e.text rest moved_before moved_after here (old_start ∙ sym front_size) (old_end ∙ sym end)
        (may_still o.class (is_replaced edits o) e.text may) was in
        let class : class_by here.class true ≡ class_by o.class true = twice o.class (is_replaced edits o) in
        let named : moved_before ++ piece_at (class_by here.class true) (length front) e.text
        ∷ map (shifted (length front + length old) (length front + length e.text)) moved_after
        ≡ moved_before ++ piece_at (class_by o.class true) e.span.start e.text ∷ map (shifted e.span.end (e.span.start + length e.text)) moved_after =
        λ i. moved_before ++ piece_at (class i) (front_size i) e.text ∷ map (shifted (end i) (new_end i)) moved_after in
        subst (IsCut (front ++ (e.text ++ rest))) (named ∙ pieces_same 0 (length text) before after covers) now
      where
        twice : (c : Class) (b : Bool) → class_by (class_by c b) true ≡ class_by c true
        twice RawString true = refl
        twice RawString false = refl
        twice _ b = refl

pub cut_again : (edits : List Edit) (text : List ℕ) (pieces : List Piece) → IsCut text pieces → AreInOrder 0 edits →
    AllByRecursion (IsReplacement pieces) edits → IsCut (edited_text edits text) (map (new_piece edits) pieces)
cut_again [] text pieces cut order each = subst (IsCut text) (sym (map_same (new_piece []) pieces none_moves)) cut
cut_again (e ∷ edits) text pieces cut order each =
    let some = have_bytes text pieces (e ∷ edits) cut each in
    let rest = cut_again edits text pieces cut (order_from 0 e.span.end edits (omega arith) order.2) each.1 in
    let o = each.0.old in
    let found = parts pieces o each.0.is_piece in
    let covers = subst (λ l. CoversFrom 0 l (length text)) found.whole (cut_covers text pieces cut) in
    subst (λ l. IsCut (edited_text (e ∷ edits) text) (map (new_piece (e ∷ edits)) l)) (sym found.whole)
    (one_more text e edits order some o each.0.span found.before found.after covers (subst (λ l. Contains l o) found.whole each.0.is_piece) each.0.may
    (subst (λ l. IsCut (edited_text edits text) (map (new_piece edits) l)) found.whole rest))

pub recut_cut : (c : CutText) (edits : List Edit) → IsCut c.text c.pieces → AreReplacedPieces c.pieces edits →
    (let new = replaced edits c in IsCut new.text new.pieces)
recut_cut c edits cut are = cut_again edits c.text c.pieces cut are.in_order (recursion_from_All (IsReplacement c.pieces) edits are.each)
