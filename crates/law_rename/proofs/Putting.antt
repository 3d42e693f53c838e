-- The cut of a text in which a name is put before a string literal.
use Rattle.std.proofs.Common.{ℕ, zero, suc, ◌≡◌, ◌+◌, ◌-◌, ◌<◌, ◌||◌, eqb, Option, false, true, List, [], ◌∷◌, ◌++◌, length, drop, refl, sym, ap, ◌∙◌}
use Rattle.std.proofs.Common.{subst, arith, inl, inr}
use Rattle.std.proofs.Common.{⊎_elim, append_assoc, append-nil, drop-drop, length-append}
use Rattle.std.specs.Prelude.{map, slice_index, IfSome}
use Rattle.std.specs.List.{AllByRecursion}
use Rattle.std.specs.Char.{encode_utf8}
use Rattle.std.specs.Str.{IsUtf8}
use Rattle.std.proofs.lemmas.Bool.{false≢true, or_left}
use Rattle.std.proofs.lemmas.List.{drop_at, take_at}
use Rattle.std.proofs.lemmas.List.Elements.{recursion_from_All}
use Rattle.std.proofs.lemmas.Str.{IsUtf8-append}
use Rattle.bstr.specs.Utf8.{decoded}
use Rattle.ucd_category.proofs.Computing.{ucd_category}
use Rattle.go_scanner.specs.declared.piece.Class.{Class}
use Rattle.go_scanner.specs.declared.piece.Class.TheVariants as class
use Rattle.go_scanner.specs.declared.piece.Piece.{Piece}
use Rattle.go_scanner.specs.Characters.{is_letter, is_decimal_number, continues_name}
use Rattle.go_scanner.specs.Contexts.{EndsName}
use Rattle.go_scanner.specs.Cuts.{IsCut, IsWellEncoded, CutsUpTo}
use Rattle.go_scanner.specs.Families.{starts_word}
use Rattle.go_scanner.specs.Pieces.{IsPiece, Stands, spoils_number}
use Rattle.go_scanner.specs.StringValues.{IsStringPiece}
use Rattle.go_scanner.specs.TokenValues.{IsStringClass}
use Rattle.go_scanner.proofs.AsciiLemmas.{ascii_read}
use Rattle.go_scanner.proofs.ContextLemmas.{stands_before}
use Rattle.go_scanner.proofs.CutLemmas.{CutsUpTo-push}
use Rattle.go_respelled.specs.Literals.{piece_at, shifted}
use Rattle.go_respelled.proofs.Joining.{no_zero, put_in}
use Rattle.go_respelled.proofs.Quotes.{Opens, no_mark, opens, quote_small}
use Rattle.go_respelled.proofs.Seams.{EndAlikeAt, EndsAlike, MayReplace, all_end_alike, cut_kept, front_utf8, is_open}
use Rattle.go_respelled.proofs.Leading.{stands_behind}
use Rattle.go_respelled.proofs.Names.{behind_utf8, first_byte, no_name_mark, word_encoded}
use Rattle.law_rename.specs.Put.{IsNoWord, NoWordEndsAt, name_and_blank}

-- a blank

blank_ends : continues_name 32 ≡ false
unfolding is_letter is_decimal_number ucd_category
blank_ends = refl

ends_before_blank : (rest : List ℕ) → EndsName (32 ∷ rest)
ends_before_blank rest = subst (λ (o : Option ℕ). IfSome o (λ c. continues_name c ≡ false)) (sym (ascii_read 32 rest (omega arith))) blank_ends

blank_spoils_none : (rest : List ℕ) → spoils_number (decoded (32 ∷ rest)).char ≡ false
blank_spoils_none rest = ap spoils_number (ascii_read 32 rest (omega arith)) ∙ blank_ends

blank_utf8 : IsUtf8 (32 ∷ [])
unfolding encode_utf8
blank_utf8 = (32 ∷ [], (refl, refl))

blank_encoded : IsWellEncoded (32 ∷ [])
blank_encoded = (blank_utf8, λ k lt none. some k lt none)
  where
    some : (k : ℕ) → k < 1 → slice_index (32 ∷ []) k ≡ 0 → ⊥
    some zero lt none = omega (arith, none)
    some (suc k) lt none = omega (arith, lt)

joined_encoded : (one other : List ℕ) → IsWellEncoded one → IsWellEncoded other → IsWellEncoded (one ++ other)
joined_encoded one other is also =
    let whole : IsWellEncoded (one ++ []) = subst IsWellEncoded (sym (append-nil one)) is in
    let same : one ++ (other ++ []) ≡ one ++ other = ap (λ l. one ++ l) (append-nil other) in
    (IsUtf8-append one other is.0 also.0, subst (λ l. (k : ℕ) → k < length l → slice_index l k ≡ 0 → ⊥) same (no_zero one [] other [] whole also))

-- how the literal stood

string_piece : (c : Class) (bytes : List ℕ) → IsStringClass c → IsPiece c bytes → IsStringPiece bytes
string_piece c bytes is piece =
    ⊎_elim (λ (e : c ≡ class.InterpretedString). inl (subst (λ (d : Class). IsPiece d bytes) e piece))
    (λ (e : c ≡ class.RawString). inr (subst (λ (d : Class). IsPiece d bytes) e piece)) is

no_mark_class : (c : Class) → IsStringClass c → c ≡ class.ByteOrderMark → ⊥
no_mark_class c is same =
    ⊎_elim (λ (e : c ≡ class.InterpretedString). let wrong : class.InterpretedString ≡ class.ByteOrderMark = sym e ∙ same in cc)
    (λ (e : c ≡ class.RawString). let wrong : class.RawString ≡ class.ByteOrderMark = sym e ∙ same in cc) is

record WasLiteral (front literal rest : List ℕ) (before : List Piece) : Type 0 where
  leads : CutsUpTo (front ++ (literal ++ rest)) before (length front)
  first : Opens literal

was_literal : (front literal rest : List ℕ) (before after : List Piece) (c : Class) → IsStringClass c →
    IsCut (front ++ (literal ++ rest)) (before ++ piece_at c (length front) literal ∷ after) → WasLiteral front literal rest before
was_literal front literal rest before after c is whole =
    let text : List ℕ = front ++ (literal ++ rest) in
    let found = stands_behind text before after (piece_at c (length front) literal) (no_mark_class c is) whole in
    let size : length front + length literal - length front ≡ length literal = omega arith in
    let here : drop (length front) text ≡ literal ++ rest = drop_at front (literal ++ rest) (length front) refl in
    let stands : Stands (literal ++ rest) c (length literal) = subst (λ (k : ℕ). Stands (literal ++ rest) c k) size
    (subst (λ l. Stands l c (length front + length literal - length front)) here found.stands) in
    let piece : IsPiece c literal = subst (IsPiece c) (take_at literal rest (length literal) refl) stands.piece in
    record { leads = found.leads; first = opens literal (string_piece c literal is piece) }

-- The pieces before the inserted bytes stay.

no_word_open : (c : Class) → IsNoWord c → is_open c ≡ true → ⊥
no_word_open class.Name none is = none.no_name refl
no_word_open (class.Keyword k) none is = none.no_keyword k refl
no_word_open class.Integer none is = none.no_number refl
no_word_open _ none is = false≢true is

none_open : (place x y : ℕ) (r s : List ℕ) (ps : List Piece) → AllByRecursion (λ p. p.span.end ≡ place → IsNoWord p.class) ps → EndAlikeAt place x y r s ps
none_open place x y r s [] all = tt
none_open place x y r s (p ∷ ps) all =
    ((λ here is. absurd (no_word_open p.class (all.0 here) is)), none_open place x y r s ps all.1)

module _ (front literal name rest : List ℕ) (before : List Piece) (word : IsPiece class.Name name) (was : WasLiteral front literal rest before) where
  abbrev tail : List ℕ
  tail = literal ++ rest

  abbrev quote : ℕ
  quote = was.first.quote

  abbrev more : List ℕ
  more = was.first.more ++ rest

  leads : CutsUpTo (front ++ quote ∷ more) before (length front)
  leads = subst (λ l. CutsUpTo (front ++ (l ++ rest)) before (length front)) was.first.spelled was.leads

  no_newline : quote ≡ 10 → ⊥
  no_newline same = ⊎_elim (λ (e : quote ≡ 34). omega (arith, e, same)) (λ (e : quote ≡ 96). omega (arith, e, same)) was.first.is_quote

  leads_to_name : NoWordEndsAt (length front) before → CutsUpTo (front ++ (name ++ 32 ∷ tail)) before (length front)
  leads_to_name none =
      let b = first_byte name word.0 in
      let behind : List ℕ = b.more ++ 32 ∷ tail in
      let may : MayReplace quote b.byte more behind = record {
        old_starts = λ large. omega (arith, large, quote_small quote was.first.is_quote);
        starts = b.starts;
        free = or_left (starts_word b.byte) (eqb b.byte 34 || (eqb b.byte 96 || eqb b.byte 32)) b.word;
        no_line = no_newline;
        mark = no_mark quote more was.first.is_quote ∙ sym (no_name_mark name (32 ∷ tail) word.0 b);
      } in
      let ends = none_open (length front) quote b.byte more behind before
      (recursion_from_All (λ (p : Piece). p.span.end ≡ length front → IsNoWord p.class) before none) in
      subst (λ l. CutsUpTo (front ++ (l ++ 32 ∷ tail)) before (length front)) (sym b.spelled) (cut_kept front more behind quote b.byte before may ends leads)

  leads_to_blank : (s : List ℕ) → CutsUpTo (front ++ 32 ∷ s) before (length front)
  leads_to_blank s =
      let may : MayReplace quote 32 more s = record {
        old_starts = λ large. omega (arith, large, quote_small quote was.first.is_quote);
        starts = λ large. absurd (omega (arith, large));
        free = refl;
        no_line = no_newline;
        mark = no_mark quote more was.first.is_quote;
      } in
      let alike : EndsAlike quote 32 more s = record { name = λ old. ends_before_blank s; number = λ old. blank_spoils_none s } in
      cut_kept front more s quote 32 before may (all_end_alike (length front) quote 32 more s before alike) leads

  -- a name and a blank go on
  go_on : (text : List ℕ) (ps : List Piece) (to : ℕ) → CutsUpTo text ps to → drop to text ≡ name ++ 32 ∷ tail →
      CutsUpTo text (ps ++ name_and_blank to name) (to + length name + 1)
  go_on text ps to cut here =
      let named = CutsUpTo-push text ps to class.Name (length name) (name ++ 32 ∷ tail) cut (sym here)
      (stands_before class.Name name (32 ∷ tail) word (ends_before_blank tail)) in
      let behind : drop (to + length name) text ≡ 32 ∷ tail = sym (drop-drop (length name) to text) ∙ ap (drop (length name)) here ∙
      drop_at name (32 ∷ tail) (length name) refl in
      let blank : Stands (32 ∷ tail) class.Blank 1 = stands_before class.Blank (32 ∷ []) tail (32, refl, refl) tt in
      let both = CutsUpTo-push text (ps ++ piece_at class.Name to name ∷ []) (to + length name) class.Blank 1 (32 ∷ tail) named (sym behind) blank in
      subst (λ l. CutsUpTo text l (to + length name + 1)) (append_assoc ps (piece_at class.Name to name ∷ [])
      (piece_at class.Blank (to + length name) (32 ∷ []) ∷ [])) both

  encoded : (put : List ℕ) → IsWellEncoded put → IsWellEncoded (front ++ tail) → IsWellEncoded (front ++ (put ++ tail))
  encoded put is whole =
      let front_is : IsUtf8 front = front_utf8 front more quote (λ large. omega (arith, large, quote_small quote was.first.is_quote))
      (subst (λ l. IsUtf8 (front ++ (l ++ rest))) was.first.spelled whole.0) in
      (IsUtf8-append front (put ++ tail) front_is (IsUtf8-append put tail is.0 (behind_utf8 front tail front_is whole.0)), no_zero front [] put tail whole is)

pub put_apart : (front literal name rest : List ℕ) (before after : List Piece) (c : Class) → IsPiece class.Name name → IsStringClass c →
    NoWordEndsAt (length front) before → IsCut (front ++ (literal ++ rest)) (before ++ piece_at c (length front) literal ∷ after) →
    (let put = name ++ 32 ∷ [] in
    let behind = map (shifted (length front) (length front + length put)) (piece_at c (length front) literal ∷ after) in
    IsCut (front ++ (put ++ (literal ++ rest))) ((before ++ name_and_blank (length front) name) ++ behind))
put_apart front literal name rest before after c word is none whole =
    let was = was_literal front literal rest before after c is whole in
    let tail : List ℕ = literal ++ rest in
    let put : List ℕ = name ++ 32 ∷ [] in
    let same : put ++ tail ≡ name ++ 32 ∷ tail = append_assoc name (32 ∷ []) tail in
    let size : length front + length name + 1 ≡ length front + length put = omega (arith, length-append name (32 ∷ [])) in
    let text : List ℕ = front ++ (name ++ 32 ∷ tail) in
    let to_name = leads_to_name front literal name rest before word was none in
    let on = go_on front literal name rest before word was text before (length front) to_name (drop_at front (name ++ 32 ∷ tail) (length front) refl) in
    let leads_on : CutsUpTo (front ++ (put ++ tail)) (before ++ name_and_blank (length front) name) (length front + length put) =
    subst (λ l. CutsUpTo (front ++ l) (before ++ name_and_blank (length front) name) (length front + length put)) (sym same)
    (subst (λ (k : ℕ). CutsUpTo text (before ++ name_and_blank (length front) name) k) size on) in
    put_in front put tail before (name_and_blank (length front) name) (piece_at c (length front) literal ∷ after)
    (encoded front literal name rest before word was put (joined_encoded name (32 ∷ []) (word_encoded name word.0) blank_encoded) whole.encoded)
    was.leads leads_on whole

pub put_joined : (front literal name rest : List ℕ) (before after : List Piece) (c : Class) → IsPiece class.Name name → IsStringClass c →
    IsCut (front ++ (literal ++ rest)) (before ++ piece_at c (length front) literal ∷ after) →
    (let put = 32 ∷ (name ++ 32 ∷ []) in
    let behind = map (shifted (length front) (length front + length put)) (piece_at c (length front) literal ∷ after) in
    IsCut (front ++ (put ++ (literal ++ rest)))
    ((before ++ piece_at class.Blank (length front) (32 ∷ []) ∷ name_and_blank (length front + 1) name) ++ behind))
put_joined front literal name rest before after c word is whole =
    let was = was_literal front literal rest before after c is whole in
    let tail : List ℕ = literal ++ rest in
    let put : List ℕ = 32 ∷ (name ++ 32 ∷ []) in
    let blank : Piece = piece_at class.Blank (length front) (32 ∷ []) in
    let behind : List ℕ = name ++ 32 ∷ tail in
    let same : put ++ tail ≡ 32 ∷ behind = ap (λ l. 32 ∷ l) (append_assoc name (32 ∷ []) tail) in
    let text : List ℕ = front ++ 32 ∷ behind in
    let start : ℕ = length front + 1 in
    let size : start + length name + 1 ≡ length front + length put = omega (arith, length-append name (32 ∷ [])) in
    let to_blank = leads_to_blank front literal name rest before word was behind in
    let blanked : CutsUpTo text (before ++ blank ∷ []) start = CutsUpTo-push text before (length front) class.Blank 1 (32 ∷ behind) to_blank
    (sym (drop_at front (32 ∷ behind) (length front) refl)) (stands_before class.Blank (32 ∷ []) behind (32, refl, refl) tt) in
    let here : drop start text ≡ behind = sym (drop-drop 1 (length front) text) ∙ ap (drop 1) (drop_at front (32 ∷ behind) (length front) refl) in
    let on = go_on front literal name rest before word was text (before ++ blank ∷ []) start blanked here in
    let news : List Piece = blank ∷ name_and_blank start name in
    let pieces : (before ++ blank ∷ []) ++ name_and_blank start name ≡ before ++ news = append_assoc before (blank ∷ []) (name_and_blank start name) in
    let leads_on : CutsUpTo (front ++ (put ++ tail)) (before ++ news) (length front + length put) =
    subst (λ l. CutsUpTo (front ++ l) (before ++ news) (length front + length put)) (sym same)
    (subst (λ (k : ℕ). CutsUpTo text (before ++ news) k) size (subst (λ l. CutsUpTo text l (start + length name + 1)) pieces on)) in
    let named : IsWellEncoded (name ++ 32 ∷ []) = joined_encoded name (32 ∷ []) (word_encoded name word.0) blank_encoded in
    put_in front put tail before news (piece_at c (length front) literal ∷ after)
    (encoded front literal name rest before word was put (joined_encoded (32 ∷ []) (name ++ 32 ∷ []) blank_encoded named) whole.encoded)
    was.leads leads_on whole
