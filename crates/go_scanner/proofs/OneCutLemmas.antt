-- A text has at most one cut, and none where it has a fault.
use Rattle.std.proofs.Common.{◌<◌, ◌+◌, length-take, drop-drop, append_assoc, append-nil, take-append-drop}
use Rattle.std.specs.Prelude.{nat_eq, flat_map}
use Rattle.std.specs.List.{starts_with}
use Rattle.std.proofs.lemmas.List.{take_all, drop_all}
use Rattle.std.proofs.lemmas.Grind.{flat_map-append}
use Rattle.go_scanner.specs.declared.refusal.TextFault.{TextFault}
use Rattle.base_files.specs.declared.fault_kind.FaultKind.{FaultKind}
use Rattle.base_files.specs.declared.fault_kind.FaultKind.TheVariants as kinds
use Rattle.go_scanner.specs.Pieces.{Breaks}
use Rattle.go_scanner.specs.Cuts.{IsFirstFault, IsWellEncoded, byte_order_mark, bytes_of}
use Rattle.go_scanner.proofs.IntegerLemmas.{by_test}
use Rattle.std.proofs.Common.{◌≡◌, ℕ, ◌-◌, List, [], ◌∷◌, ◌++◌, true, false, cond, eqb, refl, sym, ap, ◌∙◌, subst, drop, take, length, arith, ⊎_elim}
use Rattle.std.proofs.Common.{length-drop, eq-eqb}
use Rattle.std.specs.Prelude.{slice_index}
use Rattle.std.proofs.lemmas.Bool.{false≢true, cases_order}
use Rattle.bstr.specs.Find.{OccursAt}
use Rattle.go_scanner.specs.declared.operators.Operator.{Operator}
use Rattle.go_scanner.specs.declared.piece.Class.{Class}
use Rattle.go_scanner.specs.declared.piece.Class.TheVariants as class
use Rattle.go_scanner.specs.declared.piece.Piece.{Piece}
use Rattle.go_scanner.specs.Operators.{operator_spelling}
use Rattle.go_scanner.specs.Trivia.{line_opening, comment_opening}
use Rattle.go_scanner.specs.Pieces.{IsPiece, Stands}
use Rattle.go_scanner.specs.Cuts.{CutsTo, IsCut, mark_of, mark_len}
use Rattle.go_scanner.proofs.FamilyLemmas.{family, has_family}
use Rattle.go_scanner.proofs.FrontLemmas.{two_openings, not_operator, operator_family}
use Rattle.go_scanner.proofs.TableLemmas.{each_operator, operator_same, keyword_same}

only_1 : (c : Class) → 1 ≡ family c → class.Blank ≡ c
only_1 class.Blank h = refl
only_1 (class.Operator o) h = absurd (not_operator o 1 h (λ e. omega (arith, e)) (λ e. omega (arith, e)))
only_1 _ h = absurd (omega (arith, h))

only_2 : (c : Class) → 2 ≡ family c → class.Newline ≡ c
only_2 class.Newline h = refl
only_2 (class.Operator o) h = absurd (not_operator o 2 h (λ e. omega (arith, e)) (λ e. omega (arith, e)))
only_2 _ h = absurd (omega (arith, h))

only_5 : (c : Class) → 5 ≡ family c → class.Integer ≡ c
only_5 class.Integer h = refl
only_5 (class.Operator o) h = absurd (not_operator o 5 h (λ e. omega (arith, e)) (λ e. omega (arith, e)))
only_5 _ h = absurd (omega (arith, h))

only_6 : (c : Class) → 6 ≡ family c → class.InterpretedString ≡ c
only_6 class.InterpretedString h = refl
only_6 (class.Operator o) h = absurd (not_operator o 6 h (λ e. omega (arith, e)) (λ e. omega (arith, e)))
only_6 _ h = absurd (omega (arith, h))

only_7 : (c : Class) → 7 ≡ family c → class.RawString ≡ c
only_7 class.RawString h = refl
only_7 (class.Operator o) h = absurd (not_operator o 7 h (λ e. omega (arith, e)) (λ e. omega (arith, e)))
only_7 _ h = absurd (omega (arith, h))

-- no operator begins as a comment does
no_comment_operator : (o : Operator) (bs : List ℕ) → bs ≡ operator_spelling o → (OccursAt bs line_opening 0 → ⊥) × (OccursAt bs comment_opening 0 → ⊥)
no_comment_operator o bs same =
    let first = ap (λ l. slice_index l 0) same in
    let second = ap (λ l. slice_index l 1) same in (
      λ at. let test = each_operator (λ o. cond (eqb (slice_index (operator_spelling o) 0) 47)
          (cond (eqb (slice_index (operator_spelling o) 1) 47) false true) true) refl o in
          let a : eqb (slice_index (operator_spelling o) 0) 47 ≡ true = eq-eqb _ _ (sym first ∙ at.reads 0 (omega arith)) in
          let b : eqb (slice_index (operator_spelling o) 1) 47 ≡ true = eq-eqb _ _ (sym second ∙ at.reads 1 (omega arith)) in
          false≢true (rw (a, b) at test),
      λ at. let test = each_operator (λ o. cond (eqb (slice_index (operator_spelling o) 0) 47)
          (cond (eqb (slice_index (operator_spelling o) 1) 42) false true) true) refl o in
          let a : eqb (slice_index (operator_spelling o) 0) 47 ≡ true = eq-eqb _ _ (sym first ∙ at.reads 0 (omega arith)) in
          let b : eqb (slice_index (operator_spelling o) 1) 42 ≡ true = eq-eqb _ _ (sym second ∙ at.reads 1 (omega arith)) in
          false≢true (rw (a, b) at test),
    )

from_line : (d : Class) (bs : List ℕ) → 3 ≡ family d → OccursAt bs line_opening 0 → IsPiece d bs → class.LineComment ≡ d
from_line class.LineComment bs h at q = refl
from_line class.GeneralComment bs h at q = absurd (two_openings bs at q.opens)
from_line (class.Operator o) bs h at q = absurd ((no_comment_operator o bs q).0 at)
from_line _ bs h at q = absurd (omega (arith, h))

from_general : (d : Class) (bs : List ℕ) → 3 ≡ family d → OccursAt bs comment_opening 0 → IsPiece d bs → class.GeneralComment ≡ d
from_general class.LineComment bs h at q = absurd (two_openings bs q.opens at)
from_general class.GeneralComment bs h at q = refl
from_general (class.Operator o) bs h at q = absurd ((no_comment_operator o bs q).1 at)
from_general _ bs h at q = absurd (omega (arith, h))

from_name : (d : Class) (bs : List ℕ) → 4 ≡ family d → IsPiece class.Name bs → IsPiece d bs → class.Name ≡ d
from_name class.Name bs h p q = refl
from_name (class.Keyword k) bs h p q = absurd (p.1 k q)
from_name (class.Operator o) bs h p q = absurd (not_operator o 4 h (λ e. omega (arith, e)) (λ e. omega (arith, e)))
from_name _ bs h p q = absurd (omega (arith, h))

from_keyword : (k : Rattle.go_scanner.specs.declared.keywords.Keyword.Keyword) (d : Class) (bs : List ℕ) → 4 ≡ family d → IsPiece (class.Keyword k) bs →
    IsPiece d bs → class.Keyword k ≡ d
from_keyword k class.Name bs h p q = absurd (q.1 k p)
from_keyword k (class.Keyword j) bs h p q = ap class.Keyword (keyword_same k j (sym p ∙ q))
from_keyword k (class.Operator o) bs h p q = absurd (not_operator o 4 h (λ e. omega (arith, e)) (λ e. omega (arith, e)))
from_keyword k _ bs h p q = absurd (omega (arith, h))

from_operator : (o : Operator) (d : Class) (bs : List ℕ) → family (class.Operator o) ≡ family d → IsPiece (class.Operator o) bs → IsPiece d bs →
    class.Operator o ≡ d
from_operator o class.LineComment bs h p q = absurd ((no_comment_operator o bs p).0 q.opens)
from_operator o class.GeneralComment bs h p q = absurd ((no_comment_operator o bs p).1 q.opens)
from_operator o (class.Operator x) bs h p q = ap class.Operator (operator_same o x (sym p ∙ q))
from_operator o _ bs h p q = ⊎_elim (λ three. absurd (omega (arith, h, three))) (λ eight. absurd (omega (arith, h, eight)))
    (operator_family o (family (class.Operator o)) refl)

-- the bytes of a piece determine its class
pub same_class : (c d : Class) (bs : List ℕ) → IsPiece c bs → IsPiece d bs → c ≡ d
same_class c d bs p q = by_class c (sym (has_family c bs p).is ∙ (has_family d bs q).is) p
  where
    by_class : (c : Class) → family c ≡ family d → IsPiece c bs → c ≡ d
    by_class class.ByteOrderMark h p = absurd p
    by_class class.Blank h p = only_1 d h
    by_class class.Newline h p = only_2 d h
    by_class class.LineComment h p = from_line d bs h p.opens q
    by_class class.GeneralComment h p = from_general d bs h p.opens q
    by_class class.Name h p = from_name d bs h p q
    by_class (class.Keyword k) h p = from_keyword k d bs h p q
    by_class class.Integer h p = only_5 d h
    by_class class.InterpretedString h p = only_6 d h
    by_class class.RawString h p = only_7 d h
    by_class (class.Operator o) h p = from_operator o d bs h p q

-- a text begins with at most one piece
pub one_piece : (text : List ℕ) (c d : Class) (n m : ℕ) → Stands text c n → Stands text d m → (n ≡ m) × (c ≡ d)
one_piece text c d n m a b =
    let same : n ≡ m = ⊎_elim (λ e. e) (⊎_elim (λ less. absurd (a.longest d m less b.fits b.piece)) (λ more. absurd (b.longest c n more a.fits a.piece)))
    (cases_order n m) in
    (same, same_class c d (take n text) a.piece (subst (λ (k : ℕ). IsPiece d (take k text)) (sym same) b.piece))

CutsTo-one : (text : List ℕ) (from : ℕ) (ps qs : List Piece) → CutsTo text from ps (length text) → CutsTo text from qs (length text) → ps ≡ qs
CutsTo-one text from [] [] a b = refl
CutsTo-one text from [] (q ∷ qs) a b = absurd (omega (arith, a, b.2.some, b.2.fits, length-drop from text))
CutsTo-one text from (p ∷ ps) [] a b = absurd (omega (arith, b, a.2.some, a.2.fits, length-drop from text))
CutsTo-one text from (p ∷ ps) (q ∷ qs) a b =
    let same = one_piece (drop from text) p.class q.class (p.span.end - from) (q.span.end - from) a.2 b.2 in
    let start : p.span.start ≡ q.span.start = a.0 ∙ sym b.0 in
    let end : p.span.end ≡ q.span.end = omega (arith, same.0, a.1, b.1) in
    let pieces : p ≡ q = λ i. record { class = same.1 i; span = record { start = start i; end = end i } } in
    let rest = CutsTo-one text q.span.end ps qs (subst (λ (k : ℕ). CutsTo text k ps (length text)) end a.3) b.3 in
    λ i. pieces i ∷ rest i

pub one_cut : (text : List ℕ) (ps qs : List Piece) → IsCut text ps → IsCut text qs → ps ≡ qs
one_cut text ps qs a b =
    let rest = CutsTo-one text (mark_len text) a.cut.0 b.cut.0 a.cut.2 b.cut.2 in
    a.cut.1 ∙ ap (λ l. mark_of text ++ l) rest ∙ sym b.cut.1

-- where a rule is broken there is a byte
breaks_some : (kind : FaultKind) (place : ℕ) (text : List ℕ) → Breaks kind place text → 0 < length text
breaks_some kinds.Encoding place text breaks = absurd breaks
breaks_some kinds.Number place text breaks =
    ⊎_elim (λ bad. omega (arith, (has_family class.Integer (take bad.size text) bad.integer).some, length-take bad.size text))
    (λ fraction. omega (arith, fraction.1)) breaks.1
breaks_some kinds.String place text breaks = ⊎_elim (λ bad. omega (arith, ap length bad.spelled)) (λ bad. omega (arith, ap length bad.1.spelled)) breaks
breaks_some kinds.Comment place text breaks = omega (arith, breaks.1.opens.fits)
breaks_some kinds.Character place text breaks = breaks.1
breaks_some _ place text breaks = absurd breaks

-- no rule is broken at the end of some pieces, where the whole text is cut
no_break_in_cut : (text : List ℕ) (from to : ℕ) (ps qs : List Piece) (kind : FaultKind) (place : ℕ) → CutsTo text from ps to →
    CutsTo text from qs (length text) → Breaks kind place (drop to text) → ⊥
no_break_in_cut text from to [] [] kind place a b breaks = omega (arith, a, b, breaks_some kind place (drop to text) breaks, length-drop to text)
no_break_in_cut text from to [] (q ∷ qs) kind place a b breaks = b.2.sound kind place (subst (λ (k : ℕ). Breaks kind place (drop k text)) (sym a) breaks)
no_break_in_cut text from to (p ∷ ps) [] kind place a b breaks = omega (arith, b, a.2.some, a.2.fits, length-drop from text)
no_break_in_cut text from to (p ∷ ps) (q ∷ qs) kind place a b breaks =
    let same = one_piece (drop from text) p.class q.class (p.span.end - from) (q.span.end - from) a.2 b.2 in
    let end : p.span.end ≡ q.span.end = omega (arith, same.0, a.1, b.1) in
    no_break_in_cut text q.span.end to ps qs kind place (subst (λ (k : ℕ). CutsTo text k ps to) end a.3) b.3 breaks

pub cut_or_fault : (text : List ℕ) (ps : List Piece) (fault : TextFault) → IsCut text ps → IsFirstFault text fault → ⊥
cut_or_fault text ps fault cut first =
    ⊎_elim
    (λ ill. ill.1.longest (length text) ill.1.short (omega arith) (subst IsWellEncoded (sym (take_all (length text) text (omega arith))) cut.encoded))
    (λ breaks. no_break_in_cut text (mark_len text) breaks.to breaks.cut.0 cut.cut.0 fault.kind breaks.place breaks.cut.2 cut.cut.2 breaks.breaks)
    first

-- the bytes of pieces that cut a text join to it
CutsTo-joins : (text : List ℕ) (from to : ℕ) (ps : List Piece) → CutsTo text from ps to → flat_map (bytes_of text) ps ++ drop to text ≡ drop from text
CutsTo-joins text from to [] cut = ap (λ k. drop k text) (sym cut)
CutsTo-joins text from to (p ∷ ps) cut =
    let rest = CutsTo-joins text p.span.end to ps cut.3 in
    let size : from + (p.span.end - from) ≡ p.span.end = omega (arith, cut.1) in
    let behind : drop (p.span.end - from) (drop from text) ≡ drop p.span.end text = drop-drop (p.span.end - from) from text ∙ ap (λ k. drop k text) size in
    append_assoc (bytes_of text p) (flat_map (bytes_of text) ps) (drop to text)
    ∙ ap (λ l. bytes_of text p ++ l) (rest ∙ sym behind)
    ∙ ap (λ (k : ℕ). take (p.span.end - k) (drop k text) ++ drop (p.span.end - from) (drop from text)) cut.0
    ∙ take-append-drop (p.span.end - from) (drop from text)

mark_joins : (text : List ℕ) → flat_map (bytes_of text) (mark_of text) ++ drop (mark_len text) text ≡ text
mark_joins text =
    by_test (starts_with nat_eq text byte_order_mark)
    (λ is. rw is (ap (λ l. l ++ drop 3 text) (append-nil (take 3 text)) ∙ take-append-drop 3 text))
    (λ not. rw not refl)

pub cut_joins : (text : List ℕ) (ps : List Piece) → IsCut text ps → flat_map (bytes_of text) ps ≡ text
cut_joins text ps cut =
    let rest = cut.cut.0 in
    let joined = CutsTo-joins text (mark_len text) (length text) rest cut.cut.2 in
    let whole : flat_map (bytes_of text) rest ≡ drop (mark_len text) text = sym (append-nil (flat_map (bytes_of text) rest)) ∙
    ap (λ l. flat_map (bytes_of text) rest ++ l) (sym (drop_all (length text) text (omega arith))) ∙ joined in
    ap (flat_map (bytes_of text)) cut.cut.1 ∙ flat_map-append (bytes_of text) (mark_of text) rest ∙
    ap (λ l. flat_map (bytes_of text) (mark_of text) ++ l) whole ∙ mark_joins text
