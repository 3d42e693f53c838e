-- The bytes of names.
use Rattle.std.proofs.Common.{ℕ, zero, suc, ◌≡◌, ◌-◌, ◌<◌, ◌≤◌, true, false, ◌||◌, eqb, Option, Some, List, [], ◌∷◌, ◌++◌, length, get_or}
use Rattle.std.proofs.Common.{take, drop, refl, sym, ap, ◌∙◌, subst, arith, ⊎_elim, append_assoc, append-nil, length-append, take-append-drop}
use Rattle.std.specs.Prelude.{slice_index, nat_eq, IfSome}
use Rattle.std.specs.List.{list_all, starts_with}
use Rattle.std.specs.Char.{encode_utf8}
use Rattle.std.specs.Str.{encode_utf8_all, all_scalars, IsUtf8}
use Rattle.std.specs.Cmp.Lexicographic.{same_text}
use Rattle.std.proofs.lemmas.Bool.{and_parts, or_left, cases_lt, false≢true}
use Rattle.std.proofs.lemmas.List.{take_at, get_or_append_left, get_or-append_right}
use Rattle.std.proofs.lemmas.Str.{char_from_byte, IsUtf8-past_char, IsCharBoundary-start}
use lib.Utf8.{scalar}
use Rattle.bstr.specs.Utf8.{decoded}
use Rattle.bstr.proofs.lemmas.EncodeLemmas.{decoded-encode}
use Rattle.ucd_category.proofs.Computing.{ucd_category}
use Rattle.go_scanner.specs.Characters.{is_letter, is_decimal_number, continues_name}
use Rattle.go_scanner.specs.Contexts.{EndsName}
use Rattle.go_scanner.specs.Cuts.{IsWellEncoded, byte_order_mark}
use Rattle.go_scanner.specs.Families.{starts_word}
use Rattle.go_scanner.specs.Pieces.{spoils_number}
use Rattle.go_scanner.specs.Words.{IsWord}
use Rattle.go_scanner.proofs.FamilyLemmas.{word_first}
use Rattle.go_scanner.proofs.FrontLemmas.{Letter, name_parts, word_letter}
use Rattle.go_scanner.proofs.IntegerLemmas.{by_test}
use Rattle.go_respelled.proofs.Seams.{StartsChar, MayReplace, EndsAlike, cut_char}

-- encoding

pub word_utf8 : (bytes : List ℕ) → IsWord bytes → IsUtf8 bytes
word_utf8 bytes ([], is, spelled) = absurd (false≢true is)
word_utf8 bytes (c ∷ cs, is, spelled) = (c ∷ cs, ((name_parts c cs is).2, sym spelled))

zero_ends : continues_name 0 ≡ false
unfolding is_letter is_decimal_number ucd_category
zero_ends = refl

no_zero_in_char : (c k : ℕ) → scalar c ≡ true → continues_name c ≡ true → k < length (encode_utf8 c) → get_or (encode_utf8 c) k 0 ≡ 0 → ⊥
no_zero_in_char c zero is continues lt none =
    let same : c ≡ 0 = char_from_byte (encode_utf8 c) [] c (sym (append-nil (encode_utf8 c))) (omega (arith, none)) (omega (arith, lt)) ∙ none in
    false≢true (sym zero_ends ∙ subst (λ (b : ℕ). continues_name b ≡ true) same continues)
no_zero_in_char c (suc k) is continues lt none = cut_char c (suc k) is (omega arith) lt (λ large. absurd (omega (arith, large, none)))

no_zero_in_chars : (cs : List ℕ) (k : ℕ) → all_scalars cs ≡ true → list_all continues_name cs ≡ true → k < length (encode_utf8_all cs) →
    get_or (encode_utf8_all cs) k 0 ≡ 0 → ⊥
no_zero_in_chars [] k scalars all lt none = omega (arith, lt)
no_zero_in_chars (c ∷ cs) k scalars all lt none =
    let scalar_parts = and_parts (scalar c) (all_scalars cs) scalars in
    let all_parts = and_parts (continues_name c) (list_all continues_name cs) all in
    ⊎_elim
    (λ (here : k < length (encode_utf8 c)). no_zero_in_char c k scalar_parts.0 all_parts.0 here
    (sym (get_or_append_left (encode_utf8 c) (encode_utf8_all cs) 0 k here) ∙ none))
    (λ (behind : length (encode_utf8 c) ≤ k). no_zero_in_chars cs (k - length (encode_utf8 c)) scalar_parts.1 all_parts.1
    (omega (arith, lt, behind, length-append (encode_utf8 c) (encode_utf8_all cs)))
    (sym (get_or-append_right (encode_utf8 c) (encode_utf8_all cs) (length (encode_utf8 c)) k 0 refl behind) ∙ none))
    (cases_lt k (length (encode_utf8 c)))

no_zero_in_word : (bytes : List ℕ) → IsWord bytes → (k : ℕ) → k < length bytes → slice_index bytes k ≡ 0 → ⊥
no_zero_in_word bytes ([], is, spelled) k lt none = absurd (false≢true is)
no_zero_in_word bytes (c ∷ cs, is, spelled) k lt none =
    let parts = name_parts c cs is in
    let all : list_all continues_name (c ∷ cs) ≡ true = rw (or_left (is_letter c) (is_decimal_number c) parts.0, parts.1) refl in
    no_zero_in_chars (c ∷ cs) k parts.2 all (omega (arith, lt, ap length spelled)) (ap (λ l. get_or l k 0) (sym spelled) ∙ none)

pub word_encoded : (bytes : List ℕ) → IsWord bytes → IsWellEncoded bytes
word_encoded bytes word = (word_utf8 bytes word, no_zero_in_word bytes word)

pub behind_utf8 : (bytes rest : List ℕ) → IsUtf8 bytes → IsUtf8 (bytes ++ rest) → IsUtf8 rest
behind_utf8 bytes rest is whole = behind is.0 (subst (λ l. IsUtf8 (l ++ rest)) (sym is.1.1) whole)
  where
    behind : (cs : List ℕ) → IsUtf8 (encode_utf8_all cs ++ rest) → IsUtf8 rest
    behind [] utf8 = utf8
    behind (c ∷ cs) utf8 = behind cs (IsUtf8-past_char (encode_utf8_all (c ∷ cs) ++ rest) (encode_utf8_all cs ++ rest) c utf8
        (append_assoc (encode_utf8 c) (encode_utf8_all cs) rest))

-- the first character

first_letter : (bytes rest : List ℕ) → IsWord bytes → Letter (bytes ++ rest)
first_letter bytes rest word = word_letter (bytes ++ rest) (length bytes) (subst IsWord (sym (take_at bytes rest (length bytes) refl)) word)

letter_continues : (c : ℕ) → is_letter c ≡ true → continues_name c ≡ true
letter_continues c is = or_left (is_letter c) (is_decimal_number c) is

-- no name ends before a name, and no number
not_before_letter : (text : List ℕ) → Letter text → EndsName text → ⊥
not_before_letter text first ends =
    let P : Option ℕ → Type 0 = λ o. IfSome o (λ c. continues_name c ≡ false) in
    let no : continues_name first.char ≡ false = subst P first.read ends in
    false≢true (sym no ∙ letter_continues first.char first.letter)

letter_spoils : (text : List ℕ) → Letter text → spoils_number (decoded text).char ≡ false → ⊥
letter_spoils text first ends =
    let no : (eqb first.char 46 || continues_name first.char) ≡ false = subst (λ (o : Option ℕ). spoils_number o ≡ false) first.read ends in
    let is : continues_name first.char ≡ true = letter_continues first.char first.letter in
    by_test (eqb first.char 46) (λ point. false≢true (sym no ∙ rw point refl)) (λ other. false≢true (sym no ∙ rw (other, is) refl))

mark_spelled : encode_utf8 65279 ≡ byte_order_mark
unfolding encode_utf8
mark_spelled = refl

mark_no_letter : is_letter 65279 ≡ false
unfolding is_letter ucd_category
mark_no_letter = refl

-- no name begins with the mark of the byte order
no_mark : (text : List ℕ) → Letter text → starts_with nat_eq text byte_order_mark ≡ false
no_mark text first =
    by_test (starts_with nat_eq text byte_order_mark)
    (λ begins.
    let front : byte_order_mark ≡ take 3 text = same_text byte_order_mark (take 3 text) (sym begins) in
    let whole : text ≡ encode_utf8 65279 ++ drop 3 text = sym (take-append-drop 3 text) ∙ ap (λ l. l ++ drop 3 text) (sym front ∙ sym mark_spelled) in
    let read : (decoded text).char ≡ Some 65279 = ap (λ l. (decoded l).char) whole ∙ ap (λ d. d.char) (decoded-encode 65279 (drop 3 text) refl) in
    let same : Some first.char ≡ Some 65279 = sym first.read ∙ read in
    let char : first.char ≡ 65279 = cc in
    absurd (false≢true (sym mark_no_letter ∙ subst (λ (c : ℕ). is_letter c ≡ true) char first.letter)))
    (λ other. other)

-- the first byte

pub record FirstByte (bytes : List ℕ) : Type 0 where
  pub byte : ℕ
  pub more : List ℕ
  pub spelled : bytes ≡ byte ∷ more
  pub starts : StartsChar byte
  pub word : starts_word byte ≡ true

pub first_byte : (bytes : List ℕ) → IsWord bytes → FirstByte bytes
first_byte [] word = absurd (omega (arith, (word_first [] word).0))
first_byte (b ∷ more) word = record {
  byte = b;
  more = more;
  spelled = refl;
  starts = (IsCharBoundary-start (b ∷ more) (word_utf8 (b ∷ more) word)).1 (omega arith);
  word = (word_first (b ∷ more) word).1;
}

letter_first : (bytes rest : List ℕ) → IsWord bytes → (a : FirstByte bytes) → Letter (a.byte ∷ (a.more ++ rest))
letter_first bytes rest is a = subst (λ l. Letter (l ++ rest)) a.spelled (first_letter bytes rest is)

pub no_name_mark : (bytes rest : List ℕ) → IsWord bytes → (a : FirstByte bytes) → starts_with nat_eq (a.byte ∷ (a.more ++ rest)) byte_order_mark ≡ false
no_name_mark bytes rest is a = no_mark (a.byte ∷ (a.more ++ rest)) (letter_first bytes rest is a)

no_newline : (b : ℕ) → starts_word b ≡ true → b ≡ 10 → ⊥
no_newline b word same = false≢true (subst (λ (x : ℕ). starts_word x ≡ true) same word)

-- a name may stand where another one does

pub names : (old new rest : List ℕ) → IsWord old → IsWord new → (a : FirstByte old) (b : FirstByte new) →
    MayReplace a.byte b.byte (a.more ++ rest) (b.more ++ rest)
names old new rest is_old is_new a b = record {
  old_starts = a.starts;
  starts = b.starts;
  free = or_left (starts_word b.byte) (eqb b.byte 34 || (eqb b.byte 96 || eqb b.byte 32)) b.word;
  no_line = no_newline a.byte a.word;
  mark = no_name_mark old rest is_old a ∙ sym (no_name_mark new rest is_new b);
}

pub names_end : (old new rest : List ℕ) → IsWord old → (a : FirstByte old) (b : FirstByte new) → EndsAlike a.byte b.byte (a.more ++ rest) (b.more ++ rest)
names_end old new rest is_old a b =
    let first = letter_first old rest is_old a in
    record {
      name = λ ends. absurd (not_before_letter (a.byte ∷ (a.more ++ rest)) first ends);
      number = λ ends. absurd (letter_spoils (a.byte ∷ (a.more ++ rest)) first ends);
    }
