-- Where one string literal stands in the place of another: the pieces before it stay, and so does the rest of the cut.
use Rattle.std.proofs.Common.{ℕ, ◌≡◌, ◌⊎◌, ◌+◌, ◌<◌, true, false, Some, List, [], ◌∷◌, ◌++◌, length, get_or, drop, refl, sym, ap, ◌∙◌, subst, arith}
use Rattle.std.proofs.Common.{inl, inr, ⊎_elim, append_assoc, length-append}
use Rattle.std.specs.Prelude.{nat_eq, Option, IfSome, map}
use Rattle.std.specs.List.{starts_with, concat}
use Rattle.std.specs.Str.{IsUtf8}
use Rattle.std.proofs.lemmas.List.{drop_at, get_or_at}
use Rattle.std.proofs.lemmas.Str.{IsUtf8-drop, IsUtf8-append, IsCharBoundary-after_ascii}
use Rattle.bstr.specs.Utf8.{decoded}
use Rattle.ucd_category.proofs.Computing.{ucd_category}
use Rattle.go_scanner.specs.declared.piece.Class.{Class}
use Rattle.go_scanner.specs.declared.piece.Class.TheVariants as class
use Rattle.go_scanner.specs.declared.piece.Piece.{Piece}
use Rattle.go_scanner.specs.Characters.{is_letter, is_decimal_number, continues_name}
use Rattle.go_scanner.specs.Pieces.{IsPiece, Stands, spoils_number}
use Rattle.go_scanner.specs.Cuts.{IsCut, IsWellEncoded, CutsUpTo, byte_order_mark}
use Rattle.go_scanner.specs.StringValues.{IsStringPiece}
use Rattle.go_scanner.proofs.AsciiLemmas.{ascii_read}
use Rattle.go_scanner.proofs.ContextLemmas.{stands_before}
use Rattle.go_scanner.proofs.OneCutLemmas.{one_piece}
use Rattle.go_respelled.specs.Literals.{literal_at, shifted}
use Rattle.go_respelled.proofs.Joining.{no_zero, recut}
use Rattle.go_respelled.proofs.Seams.{EndsAlike, MayReplace, all_end_alike, cut_kept, front_utf8, is_free}

abbrev pub IsQuote : ℕ → Type 0
IsQuote b = (b ≡ 34) ⊎ (b ≡ 96)

pub quote_small : (b : ℕ) → IsQuote b → b < 128
quote_small b q = ⊎_elim (λ (e : b ≡ 34). omega (arith, e)) (λ (e : b ≡ 96). omega (arith, e)) q

by_quote : (P : ℕ → Type 0) → P 34 → P 96 → (b : ℕ) → IsQuote b → P b
by_quote P one two b q = ⊎_elim (λ (e : b ≡ 34). subst P (sym e) one) (λ (e : b ≡ 96). subst P (sym e) two) q

double_ends : continues_name 34 ≡ false
unfolding is_letter is_decimal_number ucd_category
double_ends = refl

back_ends : continues_name 96 ≡ false
unfolding is_letter is_decimal_number ucd_category
back_ends = refl

pub no_mark : (y : ℕ) (s : List ℕ) → IsQuote y → starts_with nat_eq (y ∷ s) byte_order_mark ≡ false
no_mark y s q = by_quote (λ (b : ℕ). starts_with nat_eq (b ∷ s) byte_order_mark ≡ false) refl refl y q

-- the first character is the quote
quote_read : (P : Option ℕ → Type 0) → P (Some 34) → P (Some 96) → (y : ℕ) (s : List ℕ) → IsQuote y → P (decoded (y ∷ s)).char
quote_read P one two y s q = subst P (sym (ascii_read y s (quote_small y q))) (by_quote (λ (b : ℕ). P (Some b)) one two y q)

quotes : (x y : ℕ) (r s : List ℕ) → IsQuote x → IsQuote y → MayReplace x y r s
quotes x y r s qx qy = record {
  old_starts = λ large. omega (arith, large, quote_small x qx);
  starts = λ large. omega (arith, large, quote_small y qy);
  free = by_quote (λ (b : ℕ). is_free b ≡ true) refl refl y qy;
  no_line = by_quote (λ (b : ℕ). b ≡ 10 → ⊥) (λ e. omega (arith, e)) (λ e. omega (arith, e)) x qx;
  mark = no_mark x r qx ∙ sym (no_mark y s qy);
}

quotes_end : (x y : ℕ) (r s : List ℕ) → IsQuote y → EndsAlike x y r s
quotes_end x y r s qy = record {
  name = λ was. quote_read (λ o. IfSome o (λ c. continues_name c ≡ false)) double_ends back_ends y s qy;
  number = λ was. quote_read (λ o. spoils_number o ≡ false) double_ends back_ends y s qy;
}

pub record Opens (bytes : List ℕ) : Type 0 where
  pub quote : ℕ
  pub more : List ℕ
  pub is_quote : IsQuote quote
  pub spelled : bytes ≡ quote ∷ more

pub opens : (bytes : List ℕ) → IsStringPiece bytes → Opens bytes
opens bytes (inl s) = record { quote = 34; more = _; is_quote = inl refl; spelled = s.spelled }
opens bytes (inr s) = record { quote = 96; more = _; is_quote = inr refl; spelled = s.spelled }

pub before_stays : (front old new rest : List ℕ) (before : List Piece) → IsStringPiece old → IsStringPiece new →
    CutsUpTo (front ++ (old ++ rest)) before (length front) → CutsUpTo (front ++ (new ++ rest)) before (length front)
before_stays front old new rest before is_old is_new cut =
    let a = opens old is_old in
    let b = opens new is_new in
    let was = subst (λ t. CutsUpTo (front ++ (t ++ rest)) before (length front)) a.spelled cut in
    subst (λ t. CutsUpTo (front ++ (t ++ rest)) before (length front)) (sym b.spelled)
    (cut_kept front (a.more ++ rest) (b.more ++ rest) a.quote b.quote before
    (quotes a.quote b.quote (a.more ++ rest) (b.more ++ rest) a.is_quote b.is_quote)
    (all_end_alike (length front) a.quote b.quote (a.more ++ rest) (b.more ++ rest) before
    (quotes_end a.quote b.quote (a.more ++ rest) (b.more ++ rest) b.is_quote)) was)

-- how long the literal is that was there

literal_size : (old rest : List ℕ) (c : Class) (n : ℕ) → IsStringPiece old → Stands (old ++ rest) c n → n ≡ length old
literal_size old rest c n (inl s) stands = (one_piece (old ++ rest) c class.InterpretedString n (length old) stands
    (stands_before class.InterpretedString old rest s tt)).0
literal_size old rest c n (inr s) stands = (one_piece (old ++ rest) c class.RawString n (length old) stands (stands_before class.RawString old rest s tt)).0

-- the encoding

pub record Closes (bytes : List ℕ) : Type 0 where
  pub inside : List ℕ
  pub quote : ℕ
  pub is_quote : IsQuote quote
  pub spelled : bytes ≡ inside ++ quote ∷ []

closes : (bytes : List ℕ) → IsStringPiece bytes → Closes bytes
closes bytes (inl s) = record { inside = 34 ∷ concat s.parts; quote = 34; is_quote = inl refl; spelled = s.spelled }
closes bytes (inr s) = record { inside = 96 ∷ s.body; quote = 96; is_quote = inr refl; spelled = s.spelled }

before_utf8 : (front old rest : List ℕ) → IsStringPiece old → IsUtf8 (front ++ (old ++ rest)) → IsUtf8 front
before_utf8 front old rest is utf8 =
    let o = opens old is in
    front_utf8 front (o.more ++ rest) o.quote (λ large. omega (arith, large, quote_small o.quote o.is_quote))
    (subst (λ l. IsUtf8 (front ++ (l ++ rest))) o.spelled utf8)

rest_utf8 : (front old rest : List ℕ) → IsStringPiece old → IsUtf8 (front ++ (old ++ rest)) → IsUtf8 rest
rest_utf8 front old rest is utf8 =
    let c = closes old is in
    let before : List ℕ = front ++ c.inside in
    let whole : front ++ (old ++ rest) ≡ before ++ c.quote ∷ rest =
    ap (λ l. front ++ (l ++ rest)) c.spelled ∙ ap (λ l. front ++ l) (append_assoc c.inside (c.quote ∷ []) rest)
    ∙ sym (append_assoc front c.inside (c.quote ∷ rest)) in
    let text : List ℕ = before ++ c.quote ∷ rest in
    let same : IsUtf8 text = subst IsUtf8 whole utf8 in
    let byte : get_or text (length before) 0 ≡ c.quote = get_or_at before c.quote rest 0 (length before) refl in
    let less : length before < length text = omega (arith, length-append before (c.quote ∷ rest)) in
    let again : text ≡ (before ++ c.quote ∷ []) ++ rest = sym (append_assoc before (c.quote ∷ []) rest) in
    let behind : drop (length before + 1) text ≡ rest = ap (drop (length before + 1)) again
    ∙ drop_at (before ++ c.quote ∷ []) rest (length before + 1) (length-append before (c.quote ∷ [])) in
    subst IsUtf8 behind (IsUtf8-drop text (length before + 1) same (IsCharBoundary-after_ascii text (length before) same less (omega
    (arith, byte, quote_small c.quote c.is_quote))))

pub replaced_literal : (front old new rest : List ℕ) (before after : List Piece) (p : Piece) → IsStringPiece old → IsPiece class.InterpretedString new →
    IsWellEncoded new → CutsUpTo (front ++ (old ++ rest)) before (length front) → IsCut (front ++ (old ++ rest)) (before ++ p ∷ after) →
    IsCut (front ++ (new ++ rest)) (before ++ literal_at (length front) new ∷ map (shifted (length front + length old) (length front + length new)) after)
replaced_literal front old new rest before after p is_old is_new encoded cut whole =
    recut front old new rest before after p class.InterpretedString (record {
      size = λ n stands. literal_size old rest p.class n is_old stands;
      stands = stands_before class.InterpretedString new rest is_new tt;
      encoded = (
        IsUtf8-append front (new ++ rest) (before_utf8 front old rest is_old whole.encoded.0) (IsUtf8-append new rest encoded.0
            (rest_utf8 front old rest is_old whole.encoded.0)),
        no_zero front old new rest whole.encoded encoded,
      );
      leads = cut;
      leads_still = before_stays front old new rest before is_old (inl is_new) cut;
    }) whole
