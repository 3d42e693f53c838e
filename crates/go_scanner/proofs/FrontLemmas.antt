-- The piece at the start of a text, by its first byte.
use Rattle.std.proofs.Common.{◌≡◌, ◌≢◌, ◌⊎◌, ℕ, zero, suc, ◌+◌, ◌^◌, ◌<◌, ◌≤◌, List, [], ◌∷◌, ◌++◌, Bool, true, false, cond, ◌&&◌, Option, Some, None, eqb}
use Rattle.std.proofs.Common.{ltb, refl, sym, ap, ◌∙◌, subst, drop, take, length, get_or, arith, inl, inr, ⊎_elim, get_or-take, encode_utf8_all}
use Rattle.std.proofs.Common.{length-take-le, length-append, length-take, length-drop, get_or-drop, add-one, append_assoc, eq-eqb, leb-true, ltb-true}
use Rattle.std.specs.Prelude.{slice_index, nat_le, nat_eq, find, IfSome}
use Rattle.std.specs.List.{list_all, starts_with}
use Rattle.std.specs.Str.{all_scalars, bytes_eq}
use Rattle.std.specs.Char.{is_digit, encode_utf8}
use Rattle.std.proofs.lemmas.Bool.{and_parts, or_left, cases_lt, false≢true}
use Rattle.std.proofs.lemmas.List.{take_at, take_more, take-append-drop, get_or_append_left}
use Rattle.std.proofs.lemmas.Str.{length-encode, len_utf8_bounds}
use Rattle.std.specs.Cmp.Lexicographic.{same_text, bytes_decides}
use lib.Utf8
use borrow.Author.Tests.{eqb-true}
use Rattle.ucd_category.proofs.Computing.{ucd_category}
use Rattle.bstr.specs.Find.{OccursAt, IsFirstByte, is_byte}
use Rattle.go_scanner.proofs.StringLemmas.{string_is, no_longer_string, no_bad_string_here}
use Rattle.bstr.specs.Utf8.{decoded}
use Rattle.bstr.proofs.lemmas.EncodeLemmas.{decoded-encode}
use Rattle.go_scanner.specs.declared.keywords.Keyword.{Keyword}
use Rattle.go_scanner.specs.declared.operators.Operator.{Operator}
use Rattle.go_scanner.specs.declared.piece.Class.{Class}
use Rattle.go_scanner.specs.declared.piece.Class.TheVariants as class
use Rattle.base_files.specs.declared.fault_kind.FaultKind.{FaultKind}
use Rattle.base_files.specs.declared.fault_kind.FaultKind.TheVariants as kind
use Rattle.go_scanner.specs.Characters.{is_letter, is_decimal_number, continues_name}
use Rattle.go_scanner.specs.Words.{IsWord, IsNameRun, is_name}
use Rattle.go_scanner.specs.Keywords.{keyword_spelling, all_keywords}
use Rattle.go_scanner.specs.Operators.{operator_spelling, all_operators}
use Rattle.go_scanner.specs.Integers.{is_integer, integer_value}
use Rattle.go_scanner.specs.Lengths.{integer_len}
use Rattle.go_scanner.specs.Strings.{IsString, IsStringRun, IsRawString, IsBadString, IsOpenRawString}
use Rattle.go_scanner.specs.Trivia.{is_blank, line_opening, comment_opening, comment_closing, IsLineComment, IsGeneralComment, IsOpenComment}
use Rattle.go_scanner.specs.Pieces.{IsPiece, IsLongest, Stands, Breaks, IsBadInteger, IsFraction, spoils_number}
use Rattle.go_scanner.specs.Families.{starts_word, family_of, letter_at, begins_with_letter, MayBeOperator}
use Rattle.go_scanner.proofs.IntegerLemmas.{by_test, integer_take, integer_most}
use Rattle.go_scanner.proofs.TableLemmas.{each_operator, each_keyword, operator_listed, all_listed, descends}
use Rattle.go_scanner.proofs.FamilyLemmas.{family, front_family, word_family, digit_family}
use Rattle.go_scanner.proofs.WordLemmas.{run_longest}
use Rattle.go_scanner.proofs.CommentLemmas.{occurs_untake}

-- a byte of one family is no byte of another
pub apart : (b x f g : ℕ) → family_of b ≡ f → family_of x ≡ g → f ≢ g → b ≢ x
apart b x f g of_b of_x differ same = differ (sym of_b ∙ ap family_of same ∙ of_x)

-- The rules that can be broken at a first byte of a family: each family has its own.
pub no_bad_integer : (text : List ℕ) → family_of (slice_index text 0) ≢ 5 → IsBadInteger text → ⊥
no_bad_integer text other bad = other (front_family class.Integer text bad.size bad.integer)

pub no_fraction : (text : List ℕ) → slice_index text 0 ≢ 46 → IsFraction text → ⊥
no_fraction text other fraction = other fraction.0

pub no_bad_string : (text : List ℕ) (place : ℕ) → slice_index text 0 ≢ 34 → IsBadString text place → ⊥
no_bad_string text place other bad = other (ap (λ t. slice_index t 0) bad.spelled)

pub no_open_raw_string : (text : List ℕ) → slice_index text 0 ≢ 96 → IsOpenRawString text → ⊥
no_open_raw_string text other bad = other (ap (λ t. slice_index t 0) bad.spelled)

pub no_open_comment : (text : List ℕ) → slice_index text 0 ≢ 47 → IsOpenComment text → ⊥
no_open_comment text other bad = other (bad.opens.reads 0 (omega arith))

-- where a text begins with a piece and no rule of its family is broken, no rule is
pub no_break : (text : List ℕ) (c : Class) (n : ℕ) → n ≤ length text → IsPiece c (take n text)
    → (IsBadInteger text → ⊥) → (IsFraction text → ⊥) → (IsOpenComment text → ⊥) → ((place : ℕ) → IsBadString text place → ⊥) → (IsOpenRawString text → ⊥)
    → (k : FaultKind) (place : ℕ) → Breaks k place text → ⊥
no_break text c n fits piece a b d e f kind.Encoding place breaks = breaks
no_break text c n fits piece a b d e f kind.Number place breaks = ⊎_elim a b breaks.1
no_break text c n fits piece a b d e f kind.String place breaks = ⊎_elim (e place) (λ h. f h.1) breaks
no_break text c n fits piece a b d e f kind.Comment place breaks = d breaks.1
no_break text c n fits piece a b d e f kind.Character place breaks = breaks.4 c n fits piece
no_break text c n fits piece a b d e f _ place breaks = absurd breaks

-- a piece of a family whose own rules can't be broken: blanks, newlines and words
pub stands_plain : (text : List ℕ) (c : Class) (n f : ℕ) → family_of (slice_index text 0) ≡ f → f < 5 → f ≢ 3 → n ≤ length text → 0 < n →
    IsPiece c (take n text)
    → ((other : Class) (m : ℕ) → n < m → m ≤ length text → IsPiece other (take m text) → ⊥) → Stands text c n
stands_plain text c n f of_first low not_slash fits some piece longest = record {
  fits = fits;
  some = some;
  piece = piece;
  longest = longest;
  sound =
      let b = slice_index text 0 in
      no_break text c n fits piece
      (no_bad_integer text (λ e. omega (arith, of_first, e)))
      (no_fraction text (apart b 46 f 8 of_first refl (λ e. omega (arith, e))))
      (no_open_comment text (apart b 47 f 3 of_first refl not_slash))
      (λ place. no_bad_string text place (apart b 34 f 6 of_first refl (λ e. omega (arith, e))))
      (no_open_raw_string text (apart b 96 f 7 of_first refl (λ e. omega (arith, e))));
}

-- a blank is one byte
only_blank : (c : Class) (m : ℕ) (text : List ℕ) → 1 ≡ family c → 1 < m → m ≤ length text → IsPiece c (take m text) → ⊥
only_blank class.Blank m text same more fits p = absurd (omega (arith, ap length p.2, length-take-le m text fits))
only_blank (class.Operator o) m text same more fits p =
    by_test (eqb (slice_index (operator_spelling o) 0) 47) (λ is. absurd (omega (arith, rw is at same))) (λ not. absurd (omega (arith, rw not at same)))
only_blank class.ByteOrderMark m text same more fits p = p
only_blank class.Newline m text same more fits p = absurd (omega (arith, same))
only_blank class.LineComment m text same more fits p = absurd (omega (arith, same))
only_blank class.GeneralComment m text same more fits p = absurd (omega (arith, same))
only_blank class.Name m text same more fits p = absurd (omega (arith, same))
only_blank (class.Keyword k) m text same more fits p = absurd (omega (arith, same))
only_blank class.Integer m text same more fits p = absurd (omega (arith, same))
only_blank class.InterpretedString m text same more fits p = absurd (omega (arith, same))
only_blank class.RawString m text same more fits p = absurd (omega (arith, same))

take_one : (text : List ℕ) → 0 < length text → take 1 text ≡ slice_index text 0 ∷ []
take_one [] some = absurd (omega arith)
take_one (b ∷ rest) some = refl

pub blank_stands : (text : List ℕ) → 0 < length text → is_blank (slice_index text 0) ≡ true → Stands text class.Blank 1
blank_stands text some is =
    let of_first : family_of (slice_index text 0) ≡ 1 = rw is refl in
    stands_plain text class.Blank 1 1 of_first (omega arith) (λ e. omega (arith, e)) (omega arith) (omega arith) (slice_index text 0, is, take_one text some)
    (λ other m more fits p. only_blank other m text (sym of_first ∙ front_family other text m p) more fits p)

-- an operator is of one of two families
pub operator_family : (o : Operator) (f : ℕ) → f ≡ family (class.Operator o) → (f ≡ 3) ⊎ (f ≡ 8)
operator_family o f same = by_test (eqb (slice_index (operator_spelling o) 0) 47) (λ is. inl (same ∙ rw is refl)) (λ not. inr (same ∙ rw not refl))

pub not_operator : (o : Operator) (f : ℕ) → f ≡ family (class.Operator o) → f ≢ 3 → f ≢ 8 → ⊥
not_operator o f same a b = ⊎_elim a b (operator_family o f same)

-- a newline is one byte
only_newline : (c : Class) (m : ℕ) (text : List ℕ) → 2 ≡ family c → 1 < m → m ≤ length text → IsPiece c (take m text) → ⊥
only_newline class.Newline m text same more fits p = omega (arith, ap length p, length-take-le m text fits)
only_newline (class.Operator o) m text same more fits p = not_operator o 2 same (λ e. omega (arith, e)) (λ e. omega (arith, e))
only_newline _ m text same more fits p = absurd (omega (arith, same))

pub newline_stands : (text : List ℕ) → 0 < length text → slice_index text 0 ≡ 10 → Stands text class.Newline 1
newline_stands text some is =
    let of_first : family_of (slice_index text 0) ≡ 2 = rw is refl in
    stands_plain text class.Newline 1 2 of_first (omega arith) (λ e. omega (arith, e)) (omega arith) (omega arith) (take_one text some ∙ ap (λ b. b ∷ []) is)
    (λ other m more fits p. only_newline other m text (sym of_first ∙ front_family other text m p) more fits p)

-- Words. The first character of a word at the start of a text is the text's first, and a letter.
pub record Letter (text : List ℕ) : Type 0 where
  pub char : ℕ
  pub read : (decoded text).char ≡ Some char
  pub letter : is_letter char ≡ true

pub name_parts : (c : ℕ) (cs : List ℕ) → is_name (c ∷ cs) ≡ true → (is_letter c ≡ true) × (list_all continues_name cs ≡ true) × (all_scalars (c ∷ cs) ≡ true)
name_parts c cs is =
    let outer = and_parts (is_letter c && list_all continues_name cs) (all_scalars (c ∷ cs)) is in
    let inner = and_parts (is_letter c) (list_all continues_name cs) outer.0 in
    (inner.0, inner.1, outer.1)

pub word_letter : (text : List ℕ) (m : ℕ) → IsWord (take m text) → Letter text
word_letter text m ([], is, spelled) = absurd (false≢true is)
word_letter text m (c ∷ cs, is, spelled) =
    let parts = name_parts c cs is in
    let scalars = and_parts (lib.Utf8.scalar c) (all_scalars cs) parts.2 in
    let whole : text ≡ encode_utf8 c ++ (encode_utf8_all cs ++ drop m text) = sym (take-append-drop m text) ∙ ap (λ l. l ++ drop m text) spelled ∙
    append_assoc (encode_utf8 c) (encode_utf8_all cs) (drop m text) in
    record { char = c; read = ap (λ d. d.char) (ap decoded whole ∙ decoded-encode c (encode_utf8_all cs ++ drop m text) scalars.0); letter = parts.0 }

pub letter_begins : (text : List ℕ) → Letter text → begins_with_letter text ≡ true
letter_begins text first = ap letter_at first.read ∙ first.letter

-- the run at the front is a word
record IsLongWord (text : List ℕ) (n : ℕ) : Type 0 where
  pub some : 0 < n
  pub word : IsWord (take n text)

letter_at_some : (o : Option ℕ) → letter_at o ≡ true → (c : ℕ) × (o ≡ Some c) × (is_letter c ≡ true)
letter_at_some None h = absurd (false≢true h)
letter_at_some (Some c) h = (c, refl, h)

long_word_from : (text : List ℕ) (n : ℕ) (run : IsNameRun text n) (chars : List ℕ) → run.chars ≡ chars → begins_with_letter text ≡ true → IsLongWord text n
long_word_from text n run [] same begins =
    let first = letter_at_some (decoded text).char begins in
    let none : n ≡ 0 = omega (arith, run.long, ap (λ l. length (encode_utf8_all l)) same) in
    let stops : IfSome (decoded text).char (λ c. continues_name c ≡ false) =
    subst (λ (k : ℕ). IfSome (decoded (drop k text)).char (λ c. continues_name c ≡ false)) none run.stops in
    let P : Option ℕ → Type 0 = λ o. IfSome o (λ c. continues_name c ≡ false) in
    let no : continues_name first.0 ≡ false = subst P first.1 stops in
    absurd (false≢true (sym no ∙ or_left (is_letter first.0) (is_decimal_number first.0) first.2))
long_word_from text n run (d ∷ ds) same begins =
    let first = letter_at_some (decoded text).char begins in
    let scalars : all_scalars (d ∷ ds) ≡ true = ap all_scalars (sym same) ∙ run.scalar in
    let all : list_all continues_name (d ∷ ds) ≡ true = ap (list_all continues_name) (sym same) ∙ run.all in
    let scalar = and_parts (lib.Utf8.scalar d) (all_scalars ds) scalars in
    let front : take n text ≡ encode_utf8_all (d ∷ ds) = ap (take n) run.spelled ∙ take_at (encode_utf8_all run.chars) (drop n text) n run.long ∙
    ap encode_utf8_all same in
    let whole : text ≡ encode_utf8 d ++ (encode_utf8_all ds ++ drop n text) = run.spelled ∙ ap (λ l. encode_utf8_all l ++ drop n text) same ∙
    append_assoc (encode_utf8 d) (encode_utf8_all ds) (drop n text) in
    let read : (decoded text).char ≡ Some d = ap (λ x. x.char) (ap decoded whole ∙ decoded-encode d (encode_utf8_all ds ++ drop n text) scalar.0) in
    let same_first : Some first.0 ≡ Some d = sym first.1 ∙ read in
    let d_is : first.0 ≡ d = cc in
    let letter : is_letter d ≡ true = ap is_letter (sym d_is) ∙ first.2 in
    let name : is_name (d ∷ ds) ≡ true = rw (letter, (and_parts (continues_name d) (list_all continues_name ds) all).1, scalar.0, scalar.1) refl in
    record {
      some = omega (
        arith,
        run.long,
        ap (λ l. length (encode_utf8_all l)) same,
        length-append (encode_utf8 d) (encode_utf8_all ds),
        length-encode d,
        len_utf8_bounds d,
      );
      word = (d ∷ ds, name, front);
    }

no_longer_word : (text : List ℕ) (n m : ℕ) → IsNameRun text n → n < m → m ≤ length text → IsWord (take m text) → ⊥
no_longer_word text n m run more fits ([], is, spelled) = false≢true is
no_longer_word text n m run more fits (c ∷ cs, is, spelled) =
    let parts = name_parts c cs is in
    run_longest text n m (c ∷ cs) run more fits parts.2 (rw (or_left (is_letter c) (is_decimal_number c) parts.0, parts.1) refl) spelled

-- each keyword is a word
keywords_are_words : list_all (λ k. is_name (keyword_spelling k) && bytes_eq (keyword_spelling k) (encode_utf8_all (keyword_spelling k))) all_keywords ≡ true
unfolding is_letter ucd_category encode_utf8
keywords_are_words = refl

keyword_word : (k : Keyword) → IsWord (keyword_spelling k)
keyword_word k =
    let both = and_parts (is_name (keyword_spelling k)) (bytes_eq (keyword_spelling k) (encode_utf8_all (keyword_spelling k)))
    (each_keyword (λ k. is_name (keyword_spelling k) && bytes_eq (keyword_spelling k) (encode_utf8_all (keyword_spelling k))) keywords_are_words k) in
    (keyword_spelling k, both.0, same_text _ _ (sym both.1))

pub only_words : (c : Class) (bs : List ℕ) → 4 ≡ family c → IsPiece c bs → IsWord bs
only_words class.Name bs same p = p.0
only_words (class.Keyword k) bs same p = subst IsWord (sym p) (keyword_word k)
only_words (class.Operator o) bs same p = absurd (not_operator o 4 same (λ e. omega (arith, e)) (λ e. omega (arith, e)))
only_words _ bs same p = absurd (omega (arith, same))

pub word_stands : (text : List ℕ) (n : ℕ) (c : Class) → 0 < length text → starts_word (slice_index text 0) ≡ true → begins_with_letter text ≡ true →
    IsNameRun text n → IsPiece c (take n text) → Stands text c n
word_stands text n c some starts begins run piece =
    let of_first = word_family (slice_index text 0) starts in
    let word = long_word_from text n run run.chars refl begins in
    stands_plain text c n 4 of_first (omega arith) (λ e. omega (arith, e)) run.fits word.some piece
    (λ other m more fits p. no_longer_word text n m run more fits (only_words other (take m text) (sym of_first ∙ front_family other text m p) p))

-- the first keyword of the table that some bytes spell
found_keyword : (ks : List Keyword) (bs : List ℕ) (k : Keyword) → find (λ k. bytes_eq (keyword_spelling k) bs) ks ≡ Some k →
    bytes_eq (keyword_spelling k) bs ≡ true
found_keyword [] bs k found = absurd cc
found_keyword (x ∷ ks) bs k found = by_test (bytes_eq (keyword_spelling x) bs)
    (λ is. let same : Some x ≡ Some k = rw is at found in let x_is : x ≡ k = cc in subst (λ y. bytes_eq (keyword_spelling y) bs ≡ true) x_is is)
    (λ not. found_keyword ks bs k (rw not at found))

none_found : (ks : List Keyword) (bs : List ℕ) → find (λ k. bytes_eq (keyword_spelling k) bs) ks ≡ None →
    list_all (λ k. cond (bytes_eq (keyword_spelling k) bs) false true) ks ≡ true
none_found [] bs none = refl
none_found (x ∷ ks) bs none = by_test (bytes_eq (keyword_spelling x) bs)
    (λ is. let wrong : Some x ≡ None = rw is at none in absurd cc)
    (λ not. rw not (none_found ks bs (rw not at none)))

pub keyword_stands : (text bs : List ℕ) (n : ℕ) (k : Keyword) → 0 < length text → starts_word (slice_index text 0) ≡ true → begins_with_letter text ≡ true →
    IsNameRun text n → bs ≡ take n text → find (λ k. bytes_eq (keyword_spelling k) bs) all_keywords ≡ Some k → Stands text (class.Keyword k) n
keyword_stands text bs n k some starts begins run bs_is found =
    word_stands text n (class.Keyword k) some starts begins run (sym (same_text _ _ (sym (found_keyword all_keywords bs k found)) ∙ bs_is))

pub name_stands : (text bs : List ℕ) (n : ℕ) → 0 < length text → starts_word (slice_index text 0) ≡ true → begins_with_letter text ≡ true →
    IsNameRun text n → bs ≡ take n text → find (λ k. bytes_eq (keyword_spelling k) bs) all_keywords ≡ None → Stands text class.Name n
name_stands text bs n some starts begins run bs_is none =
    word_stands text n class.Name some starts begins run (
      (long_word_from text n run run.chars refl begins).word,
      λ k same. let test = each_keyword (λ k. cond (bytes_eq (keyword_spelling k) bs) false true) (none_found all_keywords bs none) k in
          let yes : bytes_eq (keyword_spelling k) bs ≡ true = (bytes_decides (keyword_spelling k) bs).1 (sym (bs_is ∙ same)) in
          false≢true (rw yes at test),
    )

-- the text begins with no word
pub no_word : (text : List ℕ) → 0 < length text → starts_word (slice_index text 0) ≡ true → begins_with_letter text ≡ false → Breaks kind.Character 0 text
no_word text some starts none =
    let of_first = word_family (slice_index text 0) starts in (
      refl,
      some,
      apart (slice_index text 0) 34 4 6 of_first refl (λ e. omega (arith, e)),
      apart (slice_index text 0) 96 4 7 of_first refl (λ e. omega (arith, e)),
      λ c m fits p. false≢true (sym none ∙ letter_begins text (word_letter text m (only_words c (take m text) (sym of_first ∙ front_family c text m p) p))),
    )

-- Numbers.
pub only_integers : (c : Class) (bs : List ℕ) → 5 ≡ family c → IsPiece c bs → is_integer bs ≡ true
only_integers class.Integer bs same p = p
only_integers (class.Operator o) bs same p = absurd (not_operator o 5 same (λ e. omega (arith, e)) (λ e. omega (arith, e)))
only_integers _ bs same p = absurd (omega (arith, same))

pub some_integer : (text : List ℕ) → 0 < length text → is_digit (slice_index text 0) 10 ≡ true → 0 < integer_len text
unfolding integer_len
some_integer [] some digit = absurd (omega arith)
some_integer (b ∷ rest) some digit = by_test (eqb b 48) (λ is. rw is (omega arith)) (λ not. rw (not, digit) (omega arith))

-- the longest integer literal is the one of the definition
same_size : (text : List ℕ) (n : ℕ) → n ≡ integer_len text → 0 < n → n ≤ length text → (bad : IsBadInteger text) → bad.size ≡ n
same_size text n n_is some fits bad =
    let most = integer_most text bad.size bad.fits bad.integer in
    let taken : is_integer (take n text) ≡ true = rw n_is (integer_take text (omega arith)) in
    ⊎_elim (λ (less : bad.size < n). absurd (false≢true (sym (bad.longest n less fits) ∙ taken))) (λ (most_so : n ≤ bad.size). omega arith)
    (cases_lt bad.size n)

pub integer_stands : (text : List ℕ) (n : ℕ) → 0 < length text → is_digit (slice_index text 0) 10 ≡ true → n ≡ integer_len text → n ≤ length text
    → spoils_number (decoded (drop n text)).char ≡ false → integer_value (take n text) < 2 ^ 63 → Stands text class.Integer n
integer_stands text n some digit n_is fits spoiled small =
    let of_first = digit_family (slice_index text 0) digit in
    let b = slice_index text 0 in
    let some_n : 0 < n = omega (arith, n_is, some_integer text some digit) in
    let taken : is_integer (take n text) ≡ true = rw n_is (integer_take text (some_integer text some digit)) in
    record {
      fits = fits;
      some = some_n;
      piece = taken;
      longest = λ other m more m_fits p. omega (
        arith,
        n_is,
        integer_most text m m_fits (only_integers other (take m text) (sym of_first ∙ front_family other text m p) p),
      );
      sound = no_break text class.Integer n fits taken
          (λ bad. let size = same_size text n n_is some_n fits bad in
          ⊎_elim (λ spoils. false≢true (sym spoiled ∙ subst (λ (k : ℕ). spoils_number (decoded (drop k text)).char ≡ true) size spoils))
          (λ large. let at_n : 2 ^ 63 ≤ integer_value (take n text) = subst (λ (k : ℕ). 2 ^ 63 ≤ integer_value (take k text)) size large in
          omega (arith, at_n, small)) bad.bad)
          (no_fraction text (apart b 46 5 8 of_first refl (λ e. omega (arith, e))))
          (no_open_comment text (apart b 47 5 3 of_first refl (λ e. omega (arith, e))))
          (λ place. no_bad_string text place (apart b 34 5 6 of_first refl (λ e. omega (arith, e))))
          (no_open_raw_string text (apart b 96 5 7 of_first refl (λ e. omega (arith, e))));
    }

pub integer_breaks : (text : List ℕ) (n : ℕ) → 0 < length text → is_digit (slice_index text 0) 10 ≡ true → n ≡ integer_len text → n ≤ length text
    → (spoils_number (decoded (drop n text)).char ≡ true) ⊎ (2 ^ 63 ≤ integer_value (take n text)) → Breaks kind.Number 0 text
integer_breaks text n some digit n_is fits bad = (
  refl,
  inl (record {
    size = n;
    fits = fits;
    integer = rw n_is (integer_take text (some_integer text some digit));
    longest = λ m more m_fits. by_test (is_integer (take m text)) (λ is. absurd (omega (arith, n_is, integer_most text m m_fits is))) (λ not. not);
    bad = bad;
  }),
)

-- Comments.
only_slash : (c : Class) (bs : List ℕ) → 3 ≡ family c → IsPiece c bs → (IsLineComment bs) ⊎
    ((IsGeneralComment bs) ⊎ ((o : Operator) × (bs ≡ operator_spelling o)))
only_slash class.LineComment bs same p = inl p
only_slash class.GeneralComment bs same p = inr (inl p)
only_slash (class.Operator o) bs same p = inr (inr (o, p))
only_slash _ bs same p = absurd (omega (arith, same))

pub two_openings : (text : List ℕ) → OccursAt text line_opening 0 → OccursAt text comment_opening 0 → ⊥
two_openings text line comment = omega (arith, line.reads 1 (omega arith), comment.reads 1 (omega arith))

-- operators that begin with a slash are short
short_slash : (o : Operator) → slice_index (operator_spelling o) 0 ≡ 47 → length (operator_spelling o) ≤ 2
short_slash o slash =
    let test = each_operator (λ o. cond (eqb (slice_index (operator_spelling o) 0) 47) (nat_le (length (operator_spelling o)) 2) true) refl o in
    let is : eqb (slice_index (operator_spelling o) 0) 47 ≡ true = eq-eqb _ _ slash in
    leb-true (length (operator_spelling o)) 2 (rw is at test)

slash_family : (text : List ℕ) → slice_index text 0 ≡ 47 → family_of (slice_index text 0) ≡ 3
slash_family text is = rw is refl

no_longer_slash : (text : List ℕ) (n m : ℕ) (o : Operator) → 2 ≤ n → n < m → m ≤ length text → slice_index text 0 ≡ 47 → take m text ≡ operator_spelling o → ⊥
no_longer_slash text n m o two more fits slash spelled =
    let first : slice_index (operator_spelling o) 0 ≡ 47 = ap (λ l. slice_index l 0) (sym spelled) ∙ get_or-take m text 0 0 (omega arith) ∙ slash in
    omega (arith, short_slash o first, ap length spelled, length-take-le m text fits)

pub line_comment_stands : (text : List ℕ) (n : ℕ) → OccursAt text line_opening 0 → IsLongest IsLineComment text n → Stands text class.LineComment n
line_comment_stands text n opens long =
    let slash : slice_index text 0 ≡ 47 = opens.reads 0 (omega arith) in
    let of_first = slash_family text slash in
    let two : 2 ≤ n = omega (arith, long.piece.opens.fits, length-take-le n text long.fits) in
    record {
      fits = long.fits;
      some = long.some;
      piece = long.piece;
      longest = λ other m more fits p. ⊎_elim (long.longest m more fits)
          (λ rest. ⊎_elim (λ comment. two_openings text opens (occurs_untake text comment_opening 0 m comment.opens fits))
          (λ found. no_longer_slash text n m found.0 two more fits slash found.1) rest)
          (only_slash other (take m text) (sym of_first ∙ front_family other text m p) p);
      sound = no_break text class.LineComment n long.fits long.piece
          (no_bad_integer text (λ e. omega (arith, e, of_first)))
          (no_fraction text (λ e. omega (arith, e, slash)))
          (λ comment. two_openings text opens comment.opens)
          (λ place. no_bad_string text place (λ e. omega (arith, e, slash)))
          (no_open_raw_string text (λ e. omega (arith, e, slash)));
    }

pub general_comment_stands : (text : List ℕ) (n : ℕ) → OccursAt text comment_opening 0 → IsLongest IsGeneralComment text n → Stands text class.GeneralComment n
general_comment_stands text n opens long =
    let slash : slice_index text 0 ≡ 47 = opens.reads 0 (omega arith) in
    let of_first = slash_family text slash in
    let two : 2 ≤ n = omega (arith, long.piece.opens.fits, length-take-le n text long.fits) in
    record {
      fits = long.fits;
      some = long.some;
      piece = long.piece;
      longest = λ other m more fits p. ⊎_elim (λ line. two_openings text (occurs_untake text line_opening 0 m line.opens fits) opens)
          (λ rest. ⊎_elim (long.longest m more fits) (λ found. no_longer_slash text n m found.0 two more fits slash found.1) rest)
          (only_slash other (take m text) (sym of_first ∙ front_family other text m p) p);
      sound = no_break text class.GeneralComment n long.fits long.piece
          (no_bad_integer text (λ e. omega (arith, e, of_first)))
          (no_fraction text (λ e. omega (arith, e, slash)))
          (λ comment. comment.unclosed long.piece.body long.piece.closes.0.low (omega (arith, long.piece.ends, length-take-le n text long.fits, long.fits))
          (occurs_untake text comment_closing long.piece.body n long.piece.closes.1 long.fits))
          (λ place. no_bad_string text place (λ e. omega (arith, e, slash)))
          (no_open_raw_string text (λ e. omega (arith, e, slash)));
    }

-- Operators.
pub begins_spelled : (text : List ℕ) (o : Operator) → starts_with nat_eq text (operator_spelling o) ≡ true →
    take (length (operator_spelling o)) text ≡ operator_spelling o
begins_spelled text o h = sym (same_text _ _ (sym h))

pub spelled_begins : (text : List ℕ) (m : ℕ) (o : Operator) → m ≤ length text → take m text ≡ operator_spelling o →
    (starts_with nat_eq text (operator_spelling o) ≡ true) × (length (operator_spelling o) ≡ m)
spelled_begins text m o fits spelled =
    let len : length (operator_spelling o) ≡ m = sym (ap length spelled) ∙ length-take-le m text fits in
    ((bytes_decides (operator_spelling o) (take (length (operator_spelling o)) text)).1 (sym spelled ∙ ap (λ k. take k text) (sym len)), len)

pub find_passes : {X : Type 0} (p : X → Bool) (xs : List X) (r : X) → find p xs ≡ Some r → p r ≡ true
find_passes p [] r found = absurd cc
find_passes {X} p (x ∷ xs) r found = by_test (p x)
    (λ is. let same : Some x ≡ Some r = rw is at found in let r_is : x ≡ r = cc in subst (λ (y : X). p y ≡ true) r_is is)
    (λ not. find_passes p xs r (rw not at found))

pub find_none : {X : Type 0} (p : X → Bool) (xs : List X) (i : ℕ) (x : X) → find p xs ≡ None → i < length xs → get_or xs i x ≡ x → p x ≡ false
find_none p [] i x none fits is = absurd (omega arith)
find_none p (y ∷ ys) zero x none fits is = by_test (p y) (λ yes. let wrong : Some y ≡ None = rw yes at none in absurd cc) (λ not. ap p (sym is) ∙ not)
find_none p (y ∷ ys) (suc i) x none fits is = by_test (p y) (λ yes. let wrong : Some y ≡ None = rw yes at none in absurd cc)
    (λ not. find_none p ys i x (rw not at none) (omega arith) is)

-- where the keys don't rise, the first element that passes a test has the greatest key of those that pass
find_greatest : {X : Type 0} (key : X → ℕ) (p : X → Bool) (xs : List X) (r : X) (i : ℕ) (x : X) → descends key xs ≡ true → find p xs ≡ Some r →
    i < length xs → get_or xs i x ≡ x → p x ≡ true → key x ≤ key r
find_greatest key p [] r i x down found fits is passes = absurd (omega arith)
find_greatest key p (y ∷ ys) r zero x down found fits is passes =
    let y_passes : p y ≡ true = ap p is ∙ passes in
    let same : Some y ≡ Some r = rw y_passes at found in
    let r_is : y ≡ r = cc in
    omega (arith, ap key is, ap key r_is)
find_greatest key p (y ∷ ys) r (suc i) x down found fits is passes =
    let parts = and_parts (list_all (λ z. nat_le (key z) (key y)) ys) (descends key ys) down in
    by_test (p y)
    (λ yes. let same : Some y ≡ Some r = rw yes at found in let r_is : y ≡ r = cc in
    omega (arith, ap key r_is, leb-true (key x) (key y) (all_listed (λ z. nat_le (key z) (key y)) ys i x parts.0 (omega arith) is)))
    (λ not. find_greatest key p ys r i x parts.1 (rw not at found) (omega arith) is passes)

only_eight : (c : Class) (bs : List ℕ) → 8 ≡ family c → IsPiece c bs → (o : Operator) × (bs ≡ operator_spelling o)
only_eight (class.Operator o) bs same p = (o, p)
only_eight _ bs same p = absurd (omega (arith, same))

only_operators : (c : Class) (text : List ℕ) (m : ℕ) → MayBeOperator text → m ≤ length text → IsPiece c (take m text) → (o : Operator) ×
    (take m text ≡ operator_spelling o)
only_operators c text m may fits p =
    let fam = front_family c text m p in
    ⊎_elim
    (λ three. ⊎_elim (λ line. absurd (may.no_line (occurs_untake text line_opening 0 m line.opens fits)))
    (λ rest. ⊎_elim (λ comment. absurd (may.no_comment (occurs_untake text comment_opening 0 m comment.opens fits))) (λ found. found) rest)
    (only_slash c (take m text) (sym three ∙ fam) p))
    (λ eight. only_eight c (take m text) (sym eight ∙ fam) p)
    may.family

pub longest_operator : (text : List ℕ) (o q : Operator) → find (λ o. starts_with nat_eq text (operator_spelling o)) all_operators ≡ Some o →
    starts_with nat_eq text (operator_spelling q) ≡ true → length (operator_spelling q) ≤ length (operator_spelling o)
longest_operator text o q found begins = let at = operator_listed q in
    find_greatest (λ o. length (operator_spelling o)) (λ o. starts_with nat_eq text (operator_spelling o)) all_operators o at.place q refl found at.fits
    at.is begins

not_first : (text : List ℕ) (x g : ℕ) → MayBeOperator text → family_of x ≡ g → g ≢ 3 → g ≢ 8 → slice_index text 0 ≢ x
not_first text x g may of_x a b same = ⊎_elim (λ three. a (sym of_x ∙ ap family_of (sym same) ∙ three))
    (λ eight. b (sym of_x ∙ ap family_of (sym same) ∙ eight)) may.family

pub operator_stands : (text : List ℕ) (o : Operator) → MayBeOperator text → (IsFraction text → ⊥) →
    find (λ o. starts_with nat_eq text (operator_spelling o)) all_operators ≡ Some o → Stands text (class.Operator o) (length (operator_spelling o))
operator_stands text o may whole found =
    let spelled = begins_spelled text o (find_passes (λ o. starts_with nat_eq text (operator_spelling o)) all_operators o found) in
    let fits : length (operator_spelling o) ≤ length text = omega (arith, ap length spelled, length-take (length (operator_spelling o)) text) in
    record {
      fits = fits;
      some = ltb-true 0 (length (operator_spelling o)) (each_operator (λ o. ltb 0 (length (operator_spelling o))) refl o);
      piece = spelled;
      longest = λ other m more m_fits p.
          let q = only_operators other text m may m_fits p in
          let begins = spelled_begins text m q.0 m_fits q.1 in
          omega (arith, longest_operator text o q.0 found begins.0, begins.1);
      sound = no_break text (class.Operator o) (length (operator_spelling o)) fits spelled
          (no_bad_integer text (λ e. ⊎_elim (λ three. omega (arith, e, three)) (λ eight. omega (arith, e, eight)) may.family))
          whole
          (λ comment. may.no_comment comment.opens)
          (λ place. no_bad_string text place (not_first text 34 6 may refl (λ e. omega (arith, e)) (λ e. omega (arith, e))))
          (no_open_raw_string text (not_first text 96 7 may refl (λ e. omega (arith, e)) (λ e. omega (arith, e))));
    }

pub no_operator : (text : List ℕ) → MayBeOperator text → find (λ o. starts_with nat_eq text (operator_spelling o)) all_operators ≡ None →
    Breaks kind.Character 0 text
no_operator text may none = (
  refl,
  may.some,
  not_first text 34 6 may refl (λ e. omega (arith, e)) (λ e. omega (arith, e)),
  not_first text 96 7 may refl (λ e. omega (arith, e)) (λ e. omega (arith, e)),
  λ c m fits p.
      let q = only_operators c text m may fits p in
      let at = operator_listed q.0 in
      false≢true (sym (find_none (λ o. starts_with nat_eq text (operator_spelling o)) all_operators at.place q.0 none at.fits at.is) ∙
      (spelled_begins text m q.0 fits q.1).0),
)

pub fraction_breaks : (text : List ℕ) → IsFraction text → Breaks kind.Number 0 text
fraction_breaks text bad = (refl, inr bad)

-- Strings.
only_strings : (c : Class) (bs : List ℕ) → 6 ≡ family c → IsPiece c bs → IsString bs
only_strings class.InterpretedString bs same p = p
only_strings (class.Operator o) bs same p = absurd (not_operator o 6 same (λ e. omega (arith, e)) (λ e. omega (arith, e)))
only_strings _ bs same p = absurd (omega (arith, same))

pub string_stands : (text : List ℕ) (n : ℕ) → 0 < length text → slice_index text 0 ≡ 34 → IsStringRun text n → n < length text → get_or text n 0 ≡ 34 →
    Stands text class.InterpretedString (n + 1)
string_stands text n some first run more quote =
    let of_first : family_of (slice_index text 0) ≡ 6 = rw first refl in
    let piece = string_is text n run more quote in
    record {
      fits = omega arith;
      some = omega arith;
      piece = piece;
      longest = λ other m longer fits p. no_longer_string text n m run longer fits
          (only_strings other (take m text) (sym of_first ∙ front_family other text m p) p);
      sound = no_break text class.InterpretedString (n + 1) (omega arith) piece
          (no_bad_integer text (λ e. omega (arith, e, of_first)))
          (no_fraction text (λ e. omega (arith, e, first)))
          (no_open_comment text (λ e. omega (arith, e, first)))
          (λ place. no_bad_string_here text n place run more quote)
          (no_open_raw_string text (λ e. omega (arith, e, first)));
    }

only_raw : (c : Class) (bs : List ℕ) → 7 ≡ family c → IsPiece c bs → IsRawString bs
only_raw class.RawString bs same p = p
only_raw (class.Operator o) bs same p = absurd (not_operator o 7 same (λ e. omega (arith, e)) (λ e. omega (arith, e)))
only_raw _ bs same p = absurd (omega (arith, same))

raw_is : (text : List ℕ) (n : ℕ) → slice_index text 0 ≡ 96 → n + 1 < length text → IsFirstByte (is_byte 96) (drop 1 text) (Some n) →
    IsRawString (take (suc (suc n)) text)
raw_is [] n first fits found = absurd (omega arith)
raw_is (b ∷ rest) n first fits found = record {
  body = take n rest;
  plain = λ k lt same. found.0.before k (omega arith) (omega (arith, lt, length-take-le n rest (omega arith)))
      (eq-eqb (get_or rest k 0) 96 (sym (get_or-take n rest k 0 (omega (arith, lt, length-take-le n rest (omega arith)))) ∙ same));
  spelled = ap (λ x. x ∷ take (suc n) rest) first ∙ ap (λ l. 96 ∷ l)
      (ap (λ k. take k rest) (sym (add-one n)) ∙ take_more rest n 0 (omega arith) ∙ ap (λ x. take n rest ++ x ∷ []) (eqb-true (get_or rest n 0) 96 found.1));
}

no_longer_raw : (text : List ℕ) (n m : ℕ) → IsFirstByte (is_byte 96) (drop 1 text) (Some n) → n + 2 < m → m ≤ length text → IsRawString (take m text) → ⊥
no_longer_raw text n m found more fits raw =
    let here : get_or text (1 + n) 0 ≡ 96 = sym (get_or-drop 1 text n 0) ∙ eqb-true (get_or (drop 1 text) n 0) 96 found.1 in
    let len : m ≡ length raw.body + 2 = omega (arith, ap length raw.spelled, length-append raw.body (96 ∷ []), length-take-le m text fits) in
    let in_body : get_or raw.body n 0 ≡ 96 = sym (get_or_append_left raw.body (96 ∷ []) 0 n (omega arith)) ∙
    ap (λ l. get_or (drop 1 l) n 0) (sym raw.spelled) ∙ get_or-drop 1 (take m text) n 0 ∙ get_or-take m text (1 + n) 0 (omega arith) ∙ here in
    raw.plain n (omega arith) in_body

pub raw_stands : (text hay : List ℕ) (n : ℕ) → 0 < length text → slice_index text 0 ≡ 96 → hay ≡ drop 1 text → IsFirstByte (is_byte 96) hay (Some n) →
    Stands text class.RawString (n + 2)
raw_stands text hay n some first hay_is found_in =
    let found = subst (λ h. IsFirstByte (is_byte 96) h (Some n)) hay_is found_in in
    let of_first : family_of (slice_index text 0) ≡ 7 = rw first refl in
    let fits : n + 2 ≤ length text = omega (arith, found.0.high, length-drop 1 text) in
    let two : n + 2 ≡ suc (suc n) = omega arith in
    let piece : IsRawString (take (n + 2) text) = rw two (raw_is text n first (omega arith) found) in
    record {
      fits = fits;
      some = omega arith;
      piece = piece;
      longest = λ other m longer m_fits p. no_longer_raw text n m found longer m_fits
          (only_raw other (take m text) (sym of_first ∙ front_family other text m p) p);
      sound = no_break text class.RawString (n + 2) fits piece
          (no_bad_integer text (λ e. omega (arith, e, of_first)))
          (no_fraction text (λ e. omega (arith, e, first)))
          (no_open_comment text (λ e. omega (arith, e, first)))
          (λ place. no_bad_string text place (λ e. omega (arith, e, first)))
          (λ bad. bad.unclosed n (omega (arith, ap length bad.spelled, fits))
          (ap (λ l. get_or (drop 1 l) n 0) (sym bad.spelled) ∙ eqb-true (get_or (drop 1 text) n 0) 96 found.1));
    }

pub raw_breaks : (text hay : List ℕ) → 0 < length text → slice_index text 0 ≡ 96 → hay ≡ drop 1 text → IsFirstByte (is_byte 96) hay None → IsOpenRawString text
raw_breaks [] hay some first hay_is none = absurd (omega arith)
raw_breaks (b ∷ rest) hay some first hay_is none =
    record {
      rest = rest;
      spelled = ap (λ x. x ∷ rest) first;
      unclosed = λ k lt same.
          (subst (λ h. IsFirstByte (is_byte 96) h None) hay_is none) k (omega arith) lt (eq-eqb (get_or rest k 0) 96 same);
    }
