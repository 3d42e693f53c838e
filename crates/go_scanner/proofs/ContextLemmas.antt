-- The piece at the start of a text depends on its own bytes and at most a few bytes after it.
use Rattle.std.proofs.Common.{◌≡◌, ◌⊎◌, ℕ, zero, suc, ◌+◌, ◌^◌, ◌<◌, ◌≤◌, List, [], ◌∷◌, ◌++◌, Bool, true, false, ◌&&◌, ◌||◌, eqb, Option, Some, None, refl}
use Rattle.std.proofs.Common.{sym, ap, ◌∙◌, subst, drop, take, length, get_or, arith, inl, inr, ⊎_elim, length-append, length-take, length-take-le}
use Rattle.std.proofs.Common.{get_or-take, get_or-drop, append_assoc, take-append-drop, ltb-true, lt-ltb, eq-eqb}
use borrow.Author.Tests.{eqb-true}
use Rattle.std.specs.Prelude.{slice_index, nat_eq, find}
use Rattle.std.specs.List.{list_all, starts_with, concat}
use Rattle.std.specs.Str.{encode_utf8_all}
use Rattle.std.specs.Char.{is_digit, digit_value}
use Rattle.std.proofs.lemmas.Bool.{and_parts, or_cases, or_left, cases_lt, false≢true}
use Rattle.std.proofs.lemmas.List.{take_at, drop_at, drop_more, drop_all, get_or_append_left}
use Rattle.bstr.specs.Find.{IsFirstByte, is_byte}
use Rattle.bstr.specs.Utf8.{decoded}
use Rattle.base_files.specs.declared.fault_kind.FaultKind.TheVariants as kinds
use Rattle.go_scanner.specs.declared.operators.Operator.{Operator}
use Rattle.go_scanner.specs.declared.piece.Class.{Class}
use Rattle.go_scanner.specs.declared.piece.Class.TheVariants as class
use Rattle.go_scanner.specs.Characters.{is_ascii_word, is_letter, is_decimal_number, continues_name}
use Rattle.go_scanner.specs.Words.{IsWord, IsNameRun}
use Rattle.go_scanner.specs.Integers.{digits, some_digits, prefix_base, after_zero, is_integer, integer_value}
use Rattle.go_scanner.specs.Lengths.{integer_len}
use Rattle.go_scanner.specs.Operators.{operator_spelling, all_operators}
use Rattle.go_scanner.specs.Strings.{IsString, IsStringRun, IsRawString}
use Rattle.go_scanner.specs.Trivia.{line_opening, comment_opening, comment_closing, IsLineComment, IsGeneralComment}
use Rattle.go_scanner.specs.Pieces.{IsPiece, Stands, spoils_number}
use Rattle.go_scanner.specs.Families.{starts_word, MayBeOperator}
use Rattle.go_scanner.specs.Contexts.{EndsName, EndsOperator, MayFollow}
use Rattle.go_scanner.proofs.IntegerLemmas.{by_test, integer_take, integer_most, integer_len_le, IsPrefix-from, no_digits}
use Rattle.go_scanner.proofs.FamilyLemmas.{family, word_first, has_family, front_family, ascii_word_small, ascii_word_continues}
use Rattle.go_scanner.proofs.WordLemmas.{run_empty}
use Rattle.go_scanner.proofs.AsciiLemmas.{ascii_read}
use Rattle.go_scanner.proofs.CommentLemmas.{occurs_take, occurs_untake}
use Rattle.go_scanner.proofs.StringLemmas.{quote_stops}
use Rattle.go_scanner.proofs.TableLemmas.{operator_listed, operator_same}
use Rattle.go_scanner.proofs.FrontLemmas.{blank_stands, newline_stands, only_words, word_stands, name_parts, word_letter, letter_begins, integer_stands}
use Rattle.go_scanner.proofs.FrontLemmas.{integer_breaks, line_comment_stands, general_comment_stands, string_stands, raw_stands, operator_stands}
use Rattle.go_scanner.proofs.FrontLemmas.{operator_family, fraction_breaks, begins_spelled, spelled_begins, find_passes, find_none, longest_operator}
use Rattle.go_scanner.proofs.OneCutLemmas.{one_piece}
use Rattle.go_scanner.proofs.ExistsLemmas.{run_from, run_is_word, line_comment_there, comment_there}

-- a piece and the bytes after it
front_is : (p rest : List ℕ) → take (length p) (p ++ rest) ≡ p
front_is p rest = take_at p rest (length p) refl

behind_is : (p rest : List ℕ) → drop (length p) (p ++ rest) ≡ rest
behind_is p rest = drop_at p rest (length p) refl

front_fits : (p rest : List ℕ) → length p ≤ length (p ++ rest)
front_fits p rest = omega (arith, length-append p rest)

-- words
run_before : (p rest : List ℕ) → IsWord p → EndsName rest → IsNameRun (p ++ rest) (length p)
run_before p rest ([], is, spelled) ends = absurd (false≢true is)
run_before p rest (c ∷ cs, is, spelled) ends =
    let parts = name_parts c cs is in
    let behind = behind_is p rest in
    record {
      fits = front_fits p rest;
      chars = c ∷ cs;
      scalar = parts.2;
      all = rw (or_left (is_letter c) (is_decimal_number c) parts.0, parts.1) refl;
      spelled = ap (λ l. l ++ rest) spelled ∙ ap (λ l. encode_utf8_all (c ∷ cs) ++ l) (sym behind);
      long = ap length (sym spelled);
      stops = rw behind ends;
    }

word_before : (c : Class) (p rest : List ℕ) → 4 ≡ family c → IsPiece c p → EndsName rest → Stands (p ++ rest) c (length p)
word_before c p rest of is ends =
    let word = only_words c p of is in
    let at = word_first p word in
    let first_byte : slice_index (p ++ rest) 0 ≡ slice_index p 0 = get_or_append_left p rest 0 0 at.0 in
    let front = front_is p rest in
    word_stands (p ++ rest) (length p) c (omega (arith, at.0, length-append p rest)) (ap starts_word first_byte ∙ at.1)
    (letter_begins (p ++ rest) (word_letter (p ++ rest) (length p) (subst IsWord (sym front) word))) (run_before p rest word ends)
    (subst (IsPiece c) (sym front) is)

word_run : (text : List ℕ) (c : Class) (n : ℕ) → 4 ≡ family c → Stands text c n → IsNameRun text n
word_run text c n of stands =
    let word = only_words c (take n text) of stands.piece in
    let starts = ap starts_word (sym (get_or-take n text 0 0 stands.some)) ∙ (word_first (take n text) word).1 in
    let some : 0 < length text = omega (arith, stands.some, stands.fits) in
    let run = run_from text (length text) 0 (omega arith) (run_empty text) in
    let named = run_is_word text run.0 some starts (letter_begins text (word_letter text n word)) run.1 in
    subst (λ (k : ℕ). IsNameRun text k) (sym (one_piece text c named.class n run.0 stands named.stands).0) run.1

-- integers: their bytes may all stand in a name
digit_36 : (b base : ℕ) → base ≤ 36 → is_digit b base ≡ true → is_ascii_word b ≡ true
digit_36 b base low digit = or_left (is_digit b 36) (eqb b 95) (lt-ltb (digit_value b) 36 (omega (arith, low, ltb-true (digit_value b) base digit)))

under_is : (b : ℕ) → eqb b 95 ≡ true → is_ascii_word b ≡ true
under_is b is = rw (eqb-true b 95 is) refl

digits_bytes : (base : ℕ) (xs : List ℕ) → base ≤ 36 → digits base xs ≡ true → list_all is_ascii_word xs ≡ true
digits_bytes base [] low all = refl
digits_bytes base (b ∷ []) low all = rw (digit_36 b base low all) refl
digits_bytes base (b ∷ c ∷ rest) low all =
    ⊎_elim
    (λ h. let both = and_parts (is_digit b base) (digits base (c ∷ rest)) h in rw (digit_36 b base low both.0, digits_bytes base (c ∷ rest) low both.1) refl)
    (λ h.
    let both = and_parts (eqb b 95) (is_digit c base && digits base rest) h in
    let more = and_parts (is_digit c base) (digits base rest) both.1 in
    rw (under_is b both.0, digit_36 c base low more.0, digits_bytes base rest low more.1) refl)
    (or_cases (is_digit b base && digits base (c ∷ rest)) (eqb b 95 && (is_digit c base && digits base rest)) all)

some_digits_bytes : (base : ℕ) (xs : List ℕ) → base ≤ 36 → some_digits base xs ≡ true → list_all is_ascii_word xs ≡ true
some_digits_bytes base [] low all = refl
some_digits_bytes base (b ∷ rest) low all = digits_bytes base (b ∷ rest) low all

after_zero_bytes : (xs : List ℕ) → after_zero xs ≡ true → list_all is_ascii_word xs ≡ true
after_zero_bytes [] all = refl
after_zero_bytes (b ∷ rest) all =
    ⊎_elim (digits_bytes 8 (b ∷ rest) (omega arith))
    (λ some. ⊎_elim
    (λ (letter : 0 < prefix_base b). let at = IsPrefix-from b letter in let low = at.base in
    rw (or_left (is_digit b 36) (eqb b 95) at.letter, some_digits_bytes (prefix_base b) rest (omega (arith, low)) some) refl)
    (λ (none : prefix_base b ≤ 0). let base_is : prefix_base b ≡ 0 = omega (arith, none) in
    absurd (no_digits rest (subst (λ (base : ℕ). some_digits base rest ≡ true) base_is some)))
    (cases_lt 0 (prefix_base b)))
    (or_cases (digits 8 (b ∷ rest)) (some_digits (prefix_base b) rest) all)

integer_bytes : (xs : List ℕ) → is_integer xs ≡ true → list_all is_ascii_word xs ≡ true
integer_bytes [] all = absurd (false≢true all)
integer_bytes (b ∷ rest) all =
    by_test (eqb b 48)
    (λ is. let more = after_zero_bytes rest (rw is at all) in let here : is_ascii_word b ≡ true = rw (eqb-true b 48 is) refl in rw (here, more) refl)
    (λ not. let both = and_parts (is_digit b 10) (digits 10 rest) (rw not at all) in
    rw (digit_36 b 10 (omega arith) both.0, digits_bytes 10 rest (omega arith) both.1) refl)

all_in : (p : ℕ → Bool) (xs : List ℕ) (i : ℕ) → list_all p xs ≡ true → i < length xs → p (get_or xs i 0) ≡ true
all_in p [] i all fits = absurd (omega (arith, fits))
all_in p (x ∷ xs) zero all fits = (and_parts (p x) (list_all p xs) all).0
all_in p (x ∷ xs) (suc i) all fits = all_in p xs i (and_parts (p x) (list_all p xs) all).1 (omega (arith, fits))

number_byte_spoils : (text : List ℕ) (n : ℕ) → n < length text → is_ascii_word (get_or text n 0) ≡ true → spoils_number (decoded (drop n text)).char ≡ true
number_byte_spoils text n fits is =
    let b = get_or text n 0 in
    let read : (decoded (drop n text)).char ≡ Some b = ap (λ l. (decoded l).char) (drop_more text n 0 fits) ∙
    ascii_read b (drop (n + 1) text) (ascii_word_small b is) in
    let more : (eqb b 46 || continues_name b) ≡ true = rw (ascii_word_continues b is) (by_test (eqb b 46) (λ point. rw point refl) (λ other. rw other refl)) in
    ap spoils_number read ∙ more

first_digit : (xs : List ℕ) → is_integer xs ≡ true → is_digit (slice_index xs 0) 10 ≡ true
first_digit [] all = absurd (false≢true all)
first_digit (b ∷ more) all = by_test (eqb b 48) (λ is. rw (eqb-true b 48 is) refl) (λ not. (and_parts (is_digit b 10) (digits 10 more) (rw not at all)).0)

integer_before : (p rest : List ℕ) → is_integer p ≡ true → spoils_number (decoded rest).char ≡ false → integer_value p < 2 ^ 63 →
    Stands (p ++ rest) class.Integer (length p)
integer_before p rest is ends small =
    let text = p ++ rest in
    let n = length p in
    let fits = front_fits p rest in
    let front = front_is p rest in
    let taken : is_integer (take n text) ≡ true = ap is_integer front ∙ is in
    let has = has_family class.Integer p is in
    let whole : spoils_number (decoded (drop n text)).char ≡ false = ap (λ l. spoils_number (decoded l).char) (behind_is p rest) ∙ ends in
    let most = integer_most text n fits taken in
    let size : n ≡ integer_len text = ⊎_elim
    (λ (longer : n < integer_len text).
    let long = length-take-le (integer_len text) text (integer_len_le text) in
    let bytes = integer_bytes (take (integer_len text) text) (integer_take text (omega (arith, longer))) in
    let next : is_ascii_word (get_or text n 0) ≡ true = ap is_ascii_word (sym (get_or-take (integer_len text) text n 0 longer)) ∙
    all_in is_ascii_word (take (integer_len text) text) n bytes (omega (arith, longer, long)) in
    absurd (false≢true (sym whole ∙ number_byte_spoils text n (omega (arith, longer, integer_len_le text)) next)))
    (λ (end : integer_len text ≤ n). omega (arith, end, most)) (cases_lt n (integer_len text)) in
    let digit : is_digit (slice_index text 0) 10 ≡ true = ap (λ b. is_digit b 10) (sym (get_or-take n text 0 0 has.some)) ∙ first_digit (take n text) taken in
    integer_stands text n (omega (arith, has.some, fits)) digit size fits whole (rw front small)

integer_ends : (text : List ℕ) (n : ℕ) → Stands text class.Integer n → (spoils_number (decoded (drop n text)).char ≡ false) ×
    (integer_value (take n text) < 2 ^ 63)
integer_ends text n stands =
    let some : 0 < length text = omega (arith, stands.some, stands.fits) in
    let digit : is_digit (slice_index text 0) 10 ≡ true = ap (λ b. is_digit b 10) (sym (get_or-take n text 0 0 stands.some)) ∙
    first_digit (take n text) stands.piece in
    let most = integer_most text n stands.fits stands.piece in
    let size : n ≡ integer_len text = ⊎_elim
    (λ (longer : n < integer_len text). absurd (stands.longest class.Integer (integer_len text) longer (integer_len_le text)
    (integer_take text (omega (arith, longer)))))
    (λ (end : integer_len text ≤ n). omega (arith, end, most)) (cases_lt n (integer_len text)) in (
      by_test (spoils_number (decoded (drop n text)).char)
          (λ bad. absurd (stands.sound kinds.Number 0 (integer_breaks text n some digit size stands.fits (inl bad)))) (λ not. not),
      ⊎_elim (λ (small : integer_value (take n text) < 2 ^ 63). small)
          (λ (large : 2 ^ 63 ≤ integer_value (take n text)).
          absurd (stands.sound kinds.Number 0 (integer_breaks text n some digit size stands.fits (inr large))))
          (cases_lt (integer_value (take n text)) (2 ^ 63)),
    )

-- strings
string_before : (p rest : List ℕ) → IsString p → Stands (p ++ rest) class.InterpretedString (length p)
string_before p rest s =
    let text = p ++ rest in
    let k = 1 + length (concat s.parts) in
    let size : length p ≡ k + 1 = omega (arith, ap length s.spelled, length-append (concat s.parts) (34 ∷ [])) in
    let whole : text ≡ 34 ∷ (concat s.parts ++ (34 ∷ rest)) = ap (λ l. l ++ rest) s.spelled ∙ ap (λ l. 34 ∷ l) (append_assoc (concat s.parts) (34 ∷ []) rest) in
    let behind : drop k text ≡ 34 ∷ rest = ap (drop k) whole ∙ drop_at (34 ∷ concat s.parts) (34 ∷ rest) k (omega arith) in
    let fits : k + 1 ≤ length text = omega (arith, size, length-append p rest) in
    let run : IsStringRun text k = record {
      fits = omega (arith, fits);
      parts = s.parts;
      each = s.each;
      spelled = whole ∙ ap (λ l. 34 ∷ (concat s.parts ++ l)) (sym behind);
      long = refl;
      stops = rw behind (quote_stops rest);
    } in
    let zero_on : k + 0 ≡ k = omega arith in
    let quote : get_or text k 0 ≡ 34 = ap (λ i. get_or text i 0) (sym zero_on) ∙ sym (get_or-drop k text 0 0) ∙ ap (λ l. get_or l 0 0) behind in
    let stands = string_stands text k (omega (arith, fits)) (ap (λ l. slice_index l 0) whole) run (omega (arith, fits)) quote in
    subst (λ (n : ℕ). Stands text class.InterpretedString n) (sym size) stands

raw_before : (p rest : List ℕ) → IsRawString p → Stands (p ++ rest) class.RawString (length p)
raw_before p rest s =
    let text = p ++ rest in
    let k = length s.body in
    let size : length p ≡ k + 2 = omega (arith, ap length s.spelled, length-append s.body (96 ∷ [])) in
    let whole : text ≡ 96 ∷ (s.body ++ (96 ∷ rest)) = ap (λ l. l ++ rest) s.spelled ∙ ap (λ l. 96 ∷ l) (append_assoc s.body (96 ∷ []) rest) in
    let behind : drop 1 text ≡ s.body ++ (96 ∷ rest) = ap (drop 1) whole in
    let zero_on : k + 0 ≡ k = omega arith in
    let quote : get_or (s.body ++ (96 ∷ rest)) k 0 ≡ 96 = ap (λ i. get_or (s.body ++ (96 ∷ rest)) i 0) (sym zero_on) ∙
    sym (get_or-drop k (s.body ++ (96 ∷ rest)) 0 0) ∙ ap (λ l. get_or l 0 0) (drop_at s.body (96 ∷ rest) k refl) in
    let found : IsFirstByte (is_byte 96) (s.body ++ (96 ∷ rest)) (Some k) = (
      record {
        low = omega arith;
        high = omega (arith, length-append s.body (96 ∷ rest));
        before = λ i low high is. s.plain i high (sym (get_or_append_left s.body (96 ∷ rest) 0 i high) ∙ eqb-true (get_or (s.body ++ (96 ∷ rest)) i 0) 96 is);
      },
      eq-eqb (get_or (s.body ++ (96 ∷ rest)) k 0) 96 quote,
    ) in
    let stands = raw_stands text (s.body ++ (96 ∷ rest)) k (omega (arith, size, length-append p rest)) (ap (λ l. slice_index l 0) whole) (sym behind) found in
    subst (λ (n : ℕ). Stands text class.RawString n) (sym size) stands

-- comments
line_before : (p rest : List ℕ) → IsLineComment p → (rest ≡ []) ⊎ (slice_index rest 0 ≡ 10) → Stands (p ++ rest) class.LineComment (length p)
line_before p rest line ends =
    let text = p ++ rest in
    let n = length p in
    let front = front_is p rest in
    let fits = front_fits p rest in
    let here : IsLineComment (take n text) = subst IsLineComment (sym front) line in
    line_comment_stands text n (occurs_untake text line_opening 0 n here.opens fits) (record {
      fits = fits;
      some = omega (arith, line.opens.fits);
      piece = here;
      longest = λ m more m_fits other.
          ⊎_elim
          (λ (none : rest ≡ []). omega (arith, more, m_fits, ap length none, length-append p rest))
          (λ (newline : slice_index rest 0 ≡ 10).
          let zero_on : n + 0 ≡ n = omega arith in
          let at : get_or text n 0 ≡ 10 = ap (λ i. get_or text i 0) (sym zero_on) ∙ sym (get_or-drop n text 0 0) ∙
          ap (λ l. get_or l 0 0) (behind_is p rest) ∙ newline in
          other.one_line n (omega (arith, more, length-take-le m text m_fits)) (get_or-take m text n 0 more ∙ at))
          ends;
    })

line_ends : (text : List ℕ) (n : ℕ) → Stands text class.LineComment n → (drop n text ≡ []) ⊎ (slice_index (drop n text) 0 ≡ 10)
line_ends text n stands =
    ⊎_elim
    (λ (less : n < length text). by_test (eqb (get_or text n 0) 10)
    (λ newline.
    let zero_on : n + 0 ≡ n = omega arith in
    inr (get_or-drop n text 0 0 ∙ ap (λ i. get_or text i 0) zero_on ∙ eqb-true (get_or text n 0) 10 newline))
    (λ other.
    let fits : n + 1 ≤ length text = omega (arith, less) in
    let long = length-take-le (n + 1) text fits in
    let short = length-take-le n text stands.fits in
    absurd (stands.longest class.LineComment (n + 1) (omega arith) fits (record {
      opens = occurs_take text line_opening 0 (n + 1) (occurs_untake text line_opening 0 n stands.piece.opens stands.fits)
          (omega (arith, stands.piece.opens.fits, short)) fits;
      one_line = λ k k_fits is.
          let at : get_or text k 0 ≡ 10 = sym (get_or-take (n + 1) text k 0 (omega (arith, k_fits, long))) ∙ is in
          ⊎_elim
          (λ (before : k < n). stands.piece.one_line k (omega (arith, before, short)) (get_or-take n text k 0 before ∙ at))
          (λ (here : n ≤ k). let same : k ≡ n = omega (arith, here, k_fits, long) in
          false≢true (sym other ∙ eq-eqb (get_or text n 0) 10 (ap (λ i. get_or text i 0) (sym same) ∙ at)))
          (cases_lt k n);
    }))))
    (λ (end : length text ≤ n). inl (drop_all n text end))
    (cases_lt n (length text))

comment_before : (p rest : List ℕ) → IsGeneralComment p → Stands (p ++ rest) class.GeneralComment (length p)
comment_before p rest comment =
    let text = p ++ rest in
    let n = length p in
    let front = front_is p rest in
    let fits = front_fits p rest in
    let here : IsGeneralComment (take n text) = subst IsGeneralComment (sym front) comment in
    let size = length-take-le n text fits in
    let closes = occurs_untake text comment_closing here.body n here.closes.1 fits in
    general_comment_stands text n (occurs_untake text comment_opening 0 n here.opens fits) (record {
      fits = fits;
      some = omega (arith, comment.opens.fits);
      piece = here;
      longest = λ m more m_fits other.
          other.closes.0.before here.body here.closes.0.low (omega (arith, other.ends, here.ends, size, more, length-take-le m text m_fits))
          (occurs_take text comment_closing here.body m closes (omega (arith, here.ends, size, more)) m_fits);
    })

-- operators
begins_before : (o : Operator) (rest : List ℕ) → starts_with nat_eq (operator_spelling o ++ rest) (operator_spelling o) ≡ true
begins_before o rest = (spelled_begins (operator_spelling o ++ rest) (length (operator_spelling o)) o (front_fits (operator_spelling o) rest)
    (front_is (operator_spelling o) rest)).0

operator_found : (o : Operator) (rest : List ℕ) (r : Option Operator) → EndsOperator o rest →
    find (λ q. starts_with nat_eq (operator_spelling o ++ rest) (operator_spelling q)) all_operators ≡ r → r ≡ Some o
operator_found o rest None ends found =
    let at = operator_listed o in
    absurd (false≢true (sym (find_none (λ q. starts_with nat_eq (operator_spelling o ++ rest) (operator_spelling q)) all_operators at.place o found at.fits
    at.is) ∙ begins_before o rest))
operator_found o rest (Some q) ends found =
    let text = operator_spelling o ++ rest in
    let begins = find_passes (λ q. starts_with nat_eq text (operator_spelling q)) all_operators q found in
    let less = ends.longest q begins in
    let more = longest_operator text q o found (begins_before o rest) in
    let size : length (operator_spelling q) ≡ length (operator_spelling o) = omega (arith, less, more) in
    let same : operator_spelling q ≡ operator_spelling o = sym (begins_spelled text q begins) ∙ ap (λ k. take k text) size ∙
    front_is (operator_spelling o) rest in
    ap Some (operator_same q o same)

operator_before : (o : Operator) (rest : List ℕ) → EndsOperator o rest → Stands (operator_spelling o ++ rest) (class.Operator o) (length (operator_spelling o))
operator_before o rest ends =
    let text = operator_spelling o ++ rest in
    let front = front_is (operator_spelling o) rest in
    let has = has_family (class.Operator o) (operator_spelling o) refl in
    let may : MayBeOperator text = record {
      some = omega (arith, has.some, length-append (operator_spelling o) rest);
      family = operator_family o _ (front_family (class.Operator o) text (length (operator_spelling o)) front);
      no_line = ends.no_line;
      no_comment = ends.no_comment;
    } in
    operator_stands text o may ends.whole (operator_found o rest (find (λ q. starts_with nat_eq text (operator_spelling q)) all_operators) ends refl)

operator_ends : (o : Operator) (rest : List ℕ) → Stands (operator_spelling o ++ rest) (class.Operator o) (length (operator_spelling o)) → EndsOperator o rest
operator_ends o rest stands =
    let text = operator_spelling o ++ rest in
    let n = length (operator_spelling o) in
    record {
      longest = λ other begins.
          let spelled = begins_spelled text other begins in
          let size : length (operator_spelling other) ≤ length text = omega (arith, ap length spelled, length-take (length (operator_spelling other)) text) in
          ⊎_elim
          (λ (longer : n < length (operator_spelling other)).
          absurd (stands.longest (class.Operator other) (length (operator_spelling other)) longer size spelled))
          (λ (most : length (operator_spelling other) ≤ n). most)
          (cases_lt n (length (operator_spelling other)));
      no_line = λ opens. let line = line_comment_there text opens in not_line ((one_piece text (class.Operator o) class.LineComment n line.0 stands line.1).1);
      no_comment = λ opens.
          ⊎_elim
          (λ (comment : (m : ℕ) × Stands text class.GeneralComment m).
          not_comment ((one_piece text (class.Operator o) class.GeneralComment n comment.0 stands comment.1).1))
          (stands.sound kinds.Comment 0)
          (comment_there text opens);
      whole = λ fraction. stands.sound kinds.Number 0 (fraction_breaks text fraction);
    }
  where
    not_line : class.Operator o ≡ class.LineComment → ⊥
    not_line same = cc

    not_comment : class.Operator o ≡ class.GeneralComment → ⊥
    not_comment same = cc

-- each class
pub stands_before : (c : Class) (p rest : List ℕ) → IsPiece c p → MayFollow c p rest → Stands (p ++ rest) c (length p)
stands_before class.ByteOrderMark p rest is follows = absurd is
stands_before class.Blank p rest is follows = subst (λ q. Stands (q ++ rest) class.Blank (length q)) (sym is.2) (blank_stands (is.0 ∷ rest) (omega arith) is.1)
stands_before class.Newline p rest is follows = subst (λ q. Stands (q ++ rest) class.Newline (length q)) (sym is)
    (newline_stands (10 ∷ rest) (omega arith) refl)
stands_before class.LineComment p rest is follows = line_before p rest is follows
stands_before class.GeneralComment p rest is follows = comment_before p rest is
stands_before class.Name p rest is follows = word_before class.Name p rest refl is follows
stands_before (class.Keyword k) p rest is follows = word_before (class.Keyword k) p rest refl is follows
stands_before class.Integer p rest is follows = integer_before p rest is follows.0 follows.1
stands_before class.InterpretedString p rest is follows = string_before p rest is
stands_before class.RawString p rest is follows = raw_before p rest is
stands_before (class.Operator o) p rest is follows = subst (λ q. Stands (q ++ rest) (class.Operator o) (length q)) (sym is) (operator_before o rest follows)

operator_context : (o : Operator) (text p : List ℕ) (n : ℕ) → take n text ≡ p → p ≡ operator_spelling o → n ≤ length text →
    Stands text (class.Operator o) n → EndsOperator o (drop n text)
operator_context o text p n front spelled fits stands =
    let whole : text ≡ operator_spelling o ++ drop n text = sym (take-append-drop n text) ∙ ap (λ l. l ++ drop n text) (front ∙ spelled) in
    let size : n ≡ length (operator_spelling o) = sym (length-take-le n text fits) ∙ ap length (front ∙ spelled) in
    let here : Stands (operator_spelling o ++ drop n text) (class.Operator o) n = subst (λ l. Stands l (class.Operator o) n) whole stands in
    operator_ends o (drop n text) (subst (λ (k : ℕ). Stands (operator_spelling o ++ drop n text) (class.Operator o) k) size here)

pub may_follow : (c : Class) (text : List ℕ) (n : ℕ) → Stands text c n → MayFollow c (take n text) (drop n text)
may_follow class.ByteOrderMark text n stands = stands.piece
may_follow class.Blank text n stands = tt
may_follow class.Newline text n stands = tt
may_follow class.LineComment text n stands = line_ends text n stands
may_follow class.GeneralComment text n stands = tt
may_follow class.Name text n stands = (word_run text class.Name n refl stands).stops
may_follow (class.Keyword k) text n stands = (word_run text (class.Keyword k) n refl stands).stops
may_follow class.Integer text n stands = integer_ends text n stands
may_follow class.InterpretedString text n stands = tt
may_follow class.RawString text n stands = tt
may_follow (class.Operator o) text n stands = operator_context o text (take n text) n refl stands.piece stands.fits stands
