-- Where other bytes take the place of those behind a place of a text, the pieces before it stay.
use Rattle.std.proofs.Common.{ℕ, zero, suc, ◌≡◌, ◌⊎◌, ◌+◌, ◌-◌, ◌<◌, ◌≤◌, Bool, true, false, cond, ◌||◌, eqb, ltb, Option, Some, None, List, [], ◌∷◌, ◌++◌}
use Rattle.std.proofs.Common.{length, get_or, take, drop, refl, sym, ap, ◌∙◌, subst, arith, inl, inr, ⊎_elim, append_assoc, append-nil, length-append}
use Rattle.std.proofs.Common.{length-drop, length-take-le, get_or-take, take-append-drop, ltb-true}
use Rattle.std.specs.Prelude.{slice_index, nat_eq, IfSome}
use Rattle.std.specs.List.{AllByRecursion, list_all, starts_with}
use Rattle.std.specs.Char.{encode_utf8, is_digit}
use Rattle.std.specs.Str.{encode_utf8_all, IsUtf8}
use Rattle.std.specs.Cmp.Lexicographic.{same_text, bytes_decides}
use Rattle.std.proofs.lemmas.Bool.{and_parts, or_cases, cases_lt, false≢true}
use Rattle.std.proofs.lemmas.List.{take_at, take-append-le, drop-append-le, get_or_append_left, get_or_at}
use Rattle.std.proofs.lemmas.Str.{encode_same, IsUtf8-encode, IsUtf8-take}
use borrow.Author.Tests.{eqb-true}
use lib.Utf8.{scalar}
use Rattle.bstr.specs.Find.{OccursAt}
use Rattle.bstr.specs.Utf8.{Decoded, decoded}
use Rattle.bstr.proofs.lemmas.SoundLemmas.{SpellsChar-decoded}
use Rattle.bstr.proofs.lemmas.EncodeLemmas.{decoded-encode}
use Rattle.go_scanner.specs.declared.operators.Operator.{Operator}
use Rattle.go_scanner.specs.declared.piece.Class.{Class}
use Rattle.go_scanner.specs.declared.piece.Class.TheVariants as class
use Rattle.go_scanner.specs.declared.piece.Piece.{Piece}
use Rattle.go_scanner.specs.Characters.{continues_name}
use Rattle.go_scanner.specs.Families.{starts_word}
use Rattle.go_scanner.specs.Operators.{operator_spelling}
use Rattle.go_scanner.specs.Trivia.{line_opening, comment_opening}
use Rattle.go_scanner.specs.Pieces.{IsPiece, IsFraction, Stands, spoils_number}
use Rattle.go_scanner.specs.Contexts.{EndsName, EndsOperator, MayFollow}
use Rattle.go_scanner.specs.Cuts.{CutsTo, CutsUpTo, mark_of, mark_len, byte_order_mark}
use Rattle.go_scanner.proofs.CommentLemmas.{occurs_take, occurs_untake}
use Rattle.go_scanner.proofs.ContextLemmas.{stands_before, may_follow}
use Rattle.go_scanner.proofs.FamilyLemmas.{word_family, digit_family}
use Rattle.go_scanner.proofs.TableLemmas.{each_operator}

-- a byte that no character has behind its first one
abbrev pub StartsChar : ℕ → Type 0
StartsChar b = 128 ≤ b → 192 ≤ b

-- a byte that no operator, no opening of a comment and no number has: of a name, a quote or a blank
abbrev pub is_free : ℕ → Bool
is_free b = starts_word b || (eqb b 34 || (eqb b 96 || eqb b 32))

-- a piece behind which the next character counts, that it does not go on: a word or a number
abbrev pub is_open : Class → Bool
is_open class.Name = true
is_open (class.Keyword k) = true
is_open class.Integer = true
is_open _ = false

-- what begins with y and then s may stand where what begins with x and then r does, behind no word and no number
pub record MayReplace (x y : ℕ) (r s : List ℕ) : Type 0 where
  pub old_starts : StartsChar x
  pub starts : StartsChar y
  pub free : is_free y ≡ true
  pub no_line : x ≡ 10 → ⊥
  pub mark : starts_with nat_eq (x ∷ r) byte_order_mark ≡ starts_with nat_eq (y ∷ s) byte_order_mark

-- and behind a word or a number too
pub record EndsAlike (x y : ℕ) (r s : List ℕ) : Type 0 where
  pub name : EndsName (x ∷ r) → EndsName (y ∷ s)
  pub number : spoils_number (decoded (x ∷ r)).char ≡ false → spoils_number (decoded (y ∷ s)).char ≡ false

-- a character does not end inside another one

front_char : (c i : ℕ) (cs : List ℕ) → 1 ≤ i → i < length (encode_utf8 c) → encode_utf8_all cs ≡ take i (encode_utf8 c) → ⊥
front_char c i [] some lt e = omega (arith, some, lt, ap length e, length-take-le i (encode_utf8 c) (omega (arith, lt)))
front_char c i (d ∷ ds) some lt e =
    let whole : encode_utf8 c ++ [] ≡ encode_utf8 d ++ (encode_utf8_all ds ++ drop i (encode_utf8 c)) =
    append-nil (encode_utf8 c) ∙ sym (take-append-drop i (encode_utf8 c)) ∙ ap (λ l. l ++ drop i (encode_utf8 c)) (sym e)
    ∙ append_assoc (encode_utf8 d) (encode_utf8_all ds) (drop i (encode_utf8 c)) in
    let none = (encode_same c d [] (encode_utf8_all ds ++ drop i (encode_utf8 c)) whole).1 in
    omega (arith, lt, ap length none, length-append (encode_utf8_all ds) (drop i (encode_utf8 c)), length-drop i (encode_utf8 c))

pub cut_char : (c i : ℕ) → scalar c ≡ true → 1 ≤ i → i < length (encode_utf8 c) → StartsChar (get_or (encode_utf8 c) i 0) → ⊥
cut_char c i is some lt starts =
    let fits : i ≤ length (encode_utf8 c) = omega (arith, lt) in
    let front = IsUtf8-take (encode_utf8 c) i (IsUtf8-encode c is) (fits, λ less. starts) in
    front_char c i front.0 some lt front.1.1

one_char : (mid r s : List ℕ) (x y c : ℕ) → 1 ≤ length mid → StartsChar y → (decoded (mid ++ y ∷ s)).char ≡ Some c →
    (decoded (mid ++ x ∷ r)).char ≡ Some c
one_char mid r s x y c some starts found =
    let t : List ℕ = mid ++ y ∷ s in
    let at = SpellsChar-decoded t c found in
    let e : List ℕ = encode_utf8 c in
    let behind : List ℕ = drop (decoded t).size t in
    ⊎_elim
    (λ (cut : length mid < length e).
    let byte : get_or e (length mid) 0 ≡ y = sym (get_or_append_left e behind 0 (length mid) cut)
    ∙ ap (λ l. get_or l (length mid) 0) (sym at.bytes) ∙ get_or_at mid y s 0 (length mid) refl in
    absurd (cut_char c (length mid) at.scalar some cut (subst StartsChar (sym byte) starts)))
    (λ (inside : length e ≤ length mid).
    let front : take (length e) mid ≡ e = sym (take-append-le (length e) mid (y ∷ s) inside) ∙ ap (take (length e)) at.bytes
    ∙ take_at e behind (length e) refl in
    let spelled : mid ++ x ∷ r ≡ e ++ (drop (length e) mid ++ x ∷ r) =
    ap (λ l. l ++ x ∷ r) (sym (take-append-drop (length e) mid) ∙ ap (λ l. l ++ drop (length e) mid) front) ∙ append_assoc e (drop (length e) mid) (x ∷ r) in
    ap (λ l. (decoded l).char) spelled ∙ ap (λ (d : Decoded). d.char) (decoded-encode c (drop (length e) mid ++ x ∷ r) at.scalar))
    (cases_lt (length mid) (length e))

by_char : (P : Option ℕ → Type 0) → P None → (mid r s : List ℕ) (x y : ℕ) → 1 ≤ length mid → StartsChar y → P (decoded (mid ++ x ∷ r)).char →
    (o : Option ℕ) → (decoded (mid ++ y ∷ s)).char ≡ o → P o
by_char P none mid r s x y some starts was None e = none
by_char P none mid r s x y some starts was (Some c) e = subst P (one_char mid r s x y c some starts e) was

char_kept : (P : Option ℕ → Type 0) → P None → (mid r s : List ℕ) (x y : ℕ) → StartsChar y →
    (mid ≡ [] → P (decoded (x ∷ r)).char → P (decoded (y ∷ s)).char) → P (decoded (mid ++ x ∷ r)).char → P (decoded (mid ++ y ∷ s)).char
char_kept P none [] r s x y starts here was = here refl was
char_kept P none (b ∷ mid) r s x y starts here was = by_char P none (b ∷ mid) r s x y (omega arith) starts was (decoded ((b ∷ mid) ++ y ∷ s)).char refl

-- bytes that no free one is among

abbrev avoids : List ℕ → Bool
avoids n = list_all (λ b. cond (is_free b) false true) n

no_free : (n : List ℕ) (i : ℕ) → avoids n ≡ true → i < length n → is_free (get_or n i 0) ≡ true → ⊥
no_free [] i all lt free = omega (arith, lt)
no_free (b ∷ n) zero all lt free =
    let this = (and_parts (cond (is_free b) false true) (avoids n) all).0 in
    false≢true (subst (λ t. cond t false true ≡ true) free this)
no_free (b ∷ n) (suc i) all lt free = no_free n i (and_parts (cond (is_free b) false true) (avoids n) all).1 (omega (arith, lt)) free

begins_kept : (n front r s : List ℕ) (x y : ℕ) → avoids n ≡ true → is_free y ≡ true → starts_with nat_eq (front ++ y ∷ s) n ≡ true →
    starts_with nat_eq (front ++ x ∷ r) n ≡ true
begins_kept n front r s x y all free begins =
    let same : n ≡ take (length n) (front ++ y ∷ s) = same_text n (take (length n) (front ++ y ∷ s)) (sym begins) in
    ⊎_elim
    (λ (less : length front < length n).
    let byte : get_or n (length front) 0 ≡ y = ap (λ l. get_or l (length front) 0) same
    ∙ get_or-take (length n) (front ++ y ∷ s) (length front) 0 less ∙ get_or_at front y s 0 (length front) refl in
    absurd (no_free n (length front) all less (subst (λ (b : ℕ). is_free b ≡ true) (sym byte) free)))
    (λ (inside : length n ≤ length front).
    let here : n ≡ take (length n) (front ++ x ∷ r) = same ∙ take-append-le (length n) front (y ∷ s) inside
    ∙ sym (take-append-le (length n) front (x ∷ r) inside) in
    (bytes_decides n (take (length n) (front ++ x ∷ r))).1 here)
    (cases_lt (length front) (length n))

occurs_kept : (n front r s : List ℕ) (x y : ℕ) → avoids n ≡ true → is_free y ≡ true → OccursAt (front ++ y ∷ s) n 0 → OccursAt (front ++ x ∷ r) n 0
occurs_kept n front r s x y all free at =
    ⊎_elim
    (λ (less : length front < length n).
    let start : length front ≡ 0 + length front = omega arith in
    let byte : get_or n (length front) 0 ≡ y = sym (at.reads (length front) less) ∙ ap (λ (i : ℕ). get_or (front ++ y ∷ s) i 0) (sym start)
    ∙ get_or_at front y s 0 (length front) refl in
    absurd (no_free n (length front) all less (subst (λ (b : ℕ). is_free b ≡ true) (sym byte) free)))
    (λ (inside : length n ≤ length front).
    let taken = occurs_take (front ++ y ∷ s) n 0 (length front) at (omega (arith, inside)) (omega (arith, length-append front (y ∷ s))) in
    let same : take (length front) (front ++ y ∷ s) ≡ take (length front) (front ++ x ∷ r) = take_at front (y ∷ s) (length front) refl
    ∙ sym (take_at front (x ∷ r) (length front) refl) in
    occurs_untake (front ++ x ∷ r) n 0 (length front) (subst (λ t. OccursAt t n 0) same taken) (omega (arith, length-append front (x ∷ r))))
    (cases_lt (length front) (length n))

no_digit : (y : ℕ) → is_free y ≡ true → is_digit y 10 ≡ true → ⊥
no_digit y free digit =
    ⊎_elim
    (λ word. let four : 4 ≡ 5 = sym (word_family y word) ∙ digit_family y digit in omega (arith, four))
    (λ quote. ⊎_elim
    (λ double. let e : y ≡ 34 = eqb-true y 34 double in false≢true (subst (λ (b : ℕ). is_digit b 10 ≡ true) e digit))
    (λ other. ⊎_elim
    (λ back. let e : y ≡ 96 = eqb-true y 96 back in false≢true (subst (λ (b : ℕ). is_digit b 10 ≡ true) e digit))
    (λ blank. let e : y ≡ 32 = eqb-true y 32 blank in false≢true (subst (λ (b : ℕ). is_digit b 10 ≡ true) e digit))
    (or_cases (eqb y 96) (eqb y 32) other))
    (or_cases (eqb y 34) (eqb y 96 || eqb y 32) quote))
    (or_cases (starts_word y) (eqb y 34 || (eqb y 96 || eqb y 32)) free)

fraction_kept : (front r s : List ℕ) (x y : ℕ) → 1 ≤ length front → is_free y ≡ true → IsFraction (front ++ y ∷ s) → IsFraction (front ++ x ∷ r)
fraction_kept [] r s x y some free is = absurd (omega (arith, some))
fraction_kept (a ∷ []) r s x y some free is = absurd (no_digit y free is.2)
fraction_kept (a ∷ b ∷ front) r s x y some free is = (is.0, omega arith, is.2)

-- the mark of the byte order

mark_inside : (i y : ℕ) → 1 ≤ i → i < 3 → get_or byte_order_mark i 0 ≡ y → StartsChar y → ⊥
mark_inside zero y some lt byte starts = omega (arith, some)
mark_inside (suc zero) y some lt byte starts = omega (arith, byte, starts)
mark_inside (suc (suc zero)) y some lt byte starts = omega (arith, byte, starts)
mark_inside (suc (suc (suc i))) y some lt byte starts = omega (arith, lt)

mark_begins : (front r s : List ℕ) (x y : ℕ) → StartsChar y →
    (starts_with nat_eq (y ∷ s) byte_order_mark ≡ true → starts_with nat_eq (x ∷ r) byte_order_mark ≡ true) →
    starts_with nat_eq (front ++ y ∷ s) byte_order_mark ≡ true → starts_with nat_eq (front ++ x ∷ r) byte_order_mark ≡ true
mark_begins [] r s x y starts here begins = here begins
mark_begins (a ∷ rest) r s x y starts here begins =
    let front : List ℕ = a ∷ rest in
    let same : byte_order_mark ≡ take 3 (front ++ y ∷ s) = same_text byte_order_mark (take 3 (front ++ y ∷ s)) (sym begins) in
    ⊎_elim
    (λ (less : length front < 3).
    let byte : get_or byte_order_mark (length front) 0 ≡ y = ap (λ l. get_or l (length front) 0) same
    ∙ get_or-take 3 (front ++ y ∷ s) (length front) 0 less ∙ get_or_at front y s 0 (length front) refl in
    absurd (mark_inside (length front) y (omega arith) less byte starts))
    (λ (inside : 3 ≤ length front).
    let here : byte_order_mark ≡ take 3 (front ++ x ∷ r) = same ∙ take-append-le 3 front (y ∷ s) inside ∙ sym (take-append-le 3 front (x ∷ r) inside) in
    (bytes_decides byte_order_mark (take 3 (front ++ x ∷ r))).1 here)
    (cases_lt (length front) 3)

same_answer : (a b : Bool) → (a ≡ true → b ≡ true) → (b ≡ true → a ≡ true) → a ≡ b
same_answer true b f g = sym (f refl)
same_answer false true f g = g refl
same_answer false false f g = refl

-- what may follow a piece

operator_avoids : (o : Operator) → avoids (operator_spelling o) ≡ true
operator_avoids o = each_operator (λ o. avoids (operator_spelling o)) refl o

operator_some : (o : Operator) → 0 < length (operator_spelling o)
operator_some o = ltb-true 0 (length (operator_spelling o)) (each_operator (λ o. ltb 0 (length (operator_spelling o))) refl o)

operator_kept : (o : Operator) (mid r s : List ℕ) (x y : ℕ) → is_free y ≡ true → EndsOperator o (mid ++ x ∷ r) → EndsOperator o (mid ++ y ∷ s)
operator_kept o mid r s x y free was =
    let sign : List ℕ = operator_spelling o in
    let old : (sign ++ mid) ++ x ∷ r ≡ sign ++ (mid ++ x ∷ r) = append_assoc sign mid (x ∷ r) in
    let new : sign ++ (mid ++ y ∷ s) ≡ (sign ++ mid) ++ y ∷ s = sym (append_assoc sign mid (y ∷ s)) in
    let some : 1 ≤ length (sign ++ mid) = omega (arith, operator_some o, length-append sign mid) in
    record {
      longest = λ other begins. was.longest other (subst (λ t. starts_with nat_eq t (operator_spelling other) ≡ true) old
          (begins_kept (operator_spelling other) (sign ++ mid) r s x y (operator_avoids other) free (subst (λ t. starts_with nat_eq t
          (operator_spelling other) ≡ true) new begins)));
      no_line = λ at. was.no_line (subst (λ t. OccursAt t line_opening 0) old (occurs_kept line_opening (sign ++ mid) r s x y refl free (subst
          (λ t. OccursAt t line_opening 0) new at)));
      no_comment = λ at. was.no_comment (subst (λ t. OccursAt t comment_opening 0) old (occurs_kept comment_opening (sign ++ mid) r s x y refl free
          (subst (λ t. OccursAt t comment_opening 0) new at)));
      whole = λ is. was.whole (subst IsFraction old (fraction_kept (sign ++ mid) r s x y some free (subst IsFraction new is)));
    }

line_kept : (mid r s : List ℕ) (x y : ℕ) → (x ≡ 10 → ⊥) → (mid ++ x ∷ r ≡ []) ⊎ (slice_index (mid ++ x ∷ r) 0 ≡ 10) →
    (mid ++ y ∷ s ≡ []) ⊎ (slice_index (mid ++ y ∷ s) 0 ≡ 10)
line_kept [] r s x y other (inl e) = absurd (omega (arith, ap length e))
line_kept [] r s x y other (inr e) = absurd (other e)
line_kept (b ∷ mid) r s x y other (inl e) = absurd (omega (arith, ap length e))
line_kept (b ∷ mid) r s x y other (inr e) = inr e

pub follow_kept : (c : Class) (p mid r s : List ℕ) (x y : ℕ) → MayReplace x y r s → (mid ≡ [] → is_open c ≡ true → EndsAlike x y r s) →
    MayFollow c p (mid ++ x ∷ r) → MayFollow c p (mid ++ y ∷ s)
follow_kept class.ByteOrderMark p mid r s x y may ends was = was
follow_kept class.Blank p mid r s x y may ends was = tt
follow_kept class.Newline p mid r s x y may ends was = tt
follow_kept class.LineComment p mid r s x y may ends was = line_kept mid r s x y may.no_line was
follow_kept class.GeneralComment p mid r s x y may ends was = tt
follow_kept class.Name p mid r s x y may ends was =
    char_kept (λ o. IfSome o (λ c. continues_name c ≡ false)) tt mid r s x y may.starts (λ here. (ends here refl).name) was
follow_kept (class.Keyword k) p mid r s x y may ends was =
    char_kept (λ o. IfSome o (λ c. continues_name c ≡ false)) tt mid r s x y may.starts (λ here. (ends here refl).name) was
follow_kept class.Integer p mid r s x y may ends was =
    (char_kept (λ o. spoils_number o ≡ false) refl mid r s x y may.starts (λ here. (ends here refl).number) was.0, was.1)
follow_kept class.InterpretedString p mid r s x y may ends was = tt
follow_kept class.RawString p mid r s x y may ends was = tt
follow_kept (class.Operator o) p mid r s x y may ends was = operator_kept o mid r s x y may.free was

-- pieces

stands_kept : (c : Class) (front r s : List ℕ) (n x y : ℕ) → MayReplace x y r s → (n ≡ length front → is_open c ≡ true → EndsAlike x y r s) →
    n ≤ length front → Stands (front ++ x ∷ r) c n → Stands (front ++ y ∷ s) c n
stands_kept c front r s n x y may ends fits stands =
    let p : List ℕ = take n front in
    let mid : List ℕ = drop n front in
    let taken : take n (front ++ x ∷ r) ≡ p = take-append-le n front (x ∷ r) fits in
    let dropped : drop n (front ++ x ∷ r) ≡ mid ++ x ∷ r = drop-append-le n front (x ∷ r) fits in
    let follows : MayFollow c p (mid ++ x ∷ r) = subst (λ t. MayFollow c t (mid ++ x ∷ r)) taken (subst (λ t. MayFollow c (take n
    (front ++ x ∷ r)) t) dropped (may_follow c (front ++ x ∷ r) n stands)) in
    let piece : IsPiece c p = subst (IsPiece c) taken stands.piece in
    let here : mid ≡ [] → n ≡ length front = λ none. omega (arith, ap length none, length-drop n front, fits) in
    let new : Stands (p ++ (mid ++ y ∷ s)) c (length p) = stands_before c p (mid ++ y ∷ s) piece
    (follow_kept c p mid r s x y may (λ none. ends (here none)) follows) in
    let whole : p ++ (mid ++ y ∷ s) ≡ front ++ y ∷ s = sym (append_assoc p mid (y ∷ s)) ∙ ap (λ l. l ++ y ∷ s) (take-append-drop n front) in
    subst (λ (k : ℕ). Stands (front ++ y ∷ s) c k) (length-take-le n front fits) (subst (λ t. Stands t c (length p)) whole new)

cut_rises : (text : List ℕ) (from to : ℕ) (ps : List Piece) → CutsTo text from ps to → from ≤ to
cut_rises text from to [] cut = omega (arith, cut)
cut_rises text from to (p ∷ ps) cut = omega (arith, cut.1, cut_rises text p.span.end to ps cut.3)

-- a word or a number that ends at a place
abbrev pub EndAlikeAt : ℕ → (x y : ℕ) (r s : List ℕ) → List Piece → Type 0
EndAlikeAt place x y r s ps = AllByRecursion (λ p. p.span.end ≡ place → is_open p.class ≡ true → EndsAlike x y r s) ps

pub all_end_alike : (place x y : ℕ) (r s : List ℕ) (ps : List Piece) → EndsAlike x y r s → EndAlikeAt place x y r s ps
all_end_alike place x y r s [] alike = tt
all_end_alike place x y r s (p ∷ ps) alike = ((λ here is. alike), all_end_alike place x y r s ps alike)

cuts_kept : (front r s : List ℕ) (x y from to : ℕ) (ps : List Piece) → MayReplace x y r s → EndAlikeAt (length front) x y r s ps → to ≤ length front →
    CutsTo (front ++ x ∷ r) from ps to → CutsTo (front ++ y ∷ s) from ps to
cuts_kept front r s x y from to [] may ends inside cut = cut
cuts_kept front r s x y from to (p ∷ ps) may ends inside cut =
    let end = cut_rises (front ++ x ∷ r) p.span.end to ps cut.3 in
    let fits : from ≤ length front = omega (arith, cut.1, end, inside) in
    let long = length-drop from front in
    let old : Stands (drop from front ++ x ∷ r) p.class (p.span.end - from) = subst (λ t. Stands t p.class (p.span.end - from))
    (drop-append-le from front (x ∷ r) fits) cut.2 in
    let here : p.span.end - from ≡ length (drop from front) → p.span.end ≡ length front = λ same. omega (arith, same, long, fits, cut.1) in
    let new = stands_kept p.class (drop from front) r s (p.span.end - from) x y may (λ same. ends.0 (here same)) (omega (arith, long, end, inside)) old in (
      cut.0,
      cut.1,
      subst (λ t. Stands t p.class (p.span.end - from)) (sym (drop-append-le from front (y ∷ s) fits)) new,
      cuts_kept front r s x y p.span.end to ps may ends.1 inside cut.3,
    )

behind_mark : (P : Piece → Type 0) (first : Piece) (m : Bool) (ps : List Piece) → AllByRecursion P (cond m (first ∷ []) [] ++ ps) → AllByRecursion P ps
behind_mark P first true ps all = all.1
behind_mark P first false ps all = all

pub cut_kept : (front r s : List ℕ) (x y : ℕ) (ps : List Piece) → MayReplace x y r s → EndAlikeAt (length front) x y r s ps →
    CutsUpTo (front ++ x ∷ r) ps (length front) → CutsUpTo (front ++ y ∷ s) ps (length front)
cut_kept front r s x y ps may ends cut =
    let mark : starts_with nat_eq (front ++ x ∷ r) byte_order_mark ≡ starts_with nat_eq (front ++ y ∷ s) byte_order_mark =
    same_answer _ _ (mark_begins front s r y x may.old_starts (λ is. sym may.mark ∙ is)) (mark_begins front r s x y may.starts (λ is. may.mark ∙ is)) in
    let first : Piece = record { class = class.ByteOrderMark; span = record { start = 0; end = 3 } } in
    let marks : mark_of (front ++ x ∷ r) ≡ mark_of (front ++ y ∷ s) = ap (λ (b : Bool). cond b (first ∷ []) []) mark in
    let size : mark_len (front ++ x ∷ r) ≡ mark_len (front ++ y ∷ s) = ap (λ (b : Bool). cond b 3 0) mark in
    let rest : EndAlikeAt (length front) x y r s cut.0 =
    behind_mark (λ p. p.span.end ≡ length front → is_open p.class ≡ true → EndsAlike x y r s) first (starts_with nat_eq (front ++ x ∷ r) byte_order_mark) cut.0
    (subst (EndAlikeAt (length front) x y r s) cut.1 ends) in (
      cut.0,
      cut.1 ∙ ap (λ l. l ++ cut.0) marks,
      subst (λ (k : ℕ). CutsTo (front ++ y ∷ s) k cut.0 (length front)) size (cuts_kept front r s x y
          (mark_len (front ++ x ∷ r)) (length front) cut.0 may rest (omega arith) cut.2),
    )

-- the bytes before it

pub front_utf8 : (front r : List ℕ) (x : ℕ) → StartsChar x → IsUtf8 (front ++ x ∷ r) → IsUtf8 front
front_utf8 front r x starts utf8 =
    let byte : get_or (front ++ x ∷ r) (length front) 0 ≡ x = get_or_at front x r 0 (length front) refl in
    let fits : length front ≤ length (front ++ x ∷ r) = omega (arith, length-append front (x ∷ r)) in
    subst IsUtf8 (take_at front (x ∷ r) (length front) refl)
    (IsUtf8-take (front ++ x ∷ r) (length front) utf8 (fits, λ less. subst StartsChar (sym byte) starts))
