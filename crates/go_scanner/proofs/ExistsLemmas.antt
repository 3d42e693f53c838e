-- Each text has a cut or a first fault.
use Rattle.std.proofs.Common.{◌≡◌, ◌⊎◌, ℕ, zero, suc, ◌+◌, ◌^◌, ◌<◌, ◌≤◌, List, [], ◌∷◌, ◌++◌, Bool, true, eqb, ltb, Option, Some, None, refl, sym, ap, ◌∙◌}
use Rattle.std.proofs.Common.{subst, drop, take, length, arith, inl, inr, ⊎_elim, length-drop, length-take, length-take-le, get_or-take, append-nil}
use Rattle.std.proofs.Common.{eqb-true, ltb-true, eq-eqb, lt-ltb}
use Rattle.std.specs.Prelude.{slice_index, nat_eq, find}
use Rattle.std.specs.List.{starts_with}
use Rattle.std.specs.Str.{IsUtf8, is_utf8, bytes_eq}
use Rattle.std.specs.Char.{is_digit}
use Rattle.std.proofs.lemmas.Bool.{cases_lt, false≢true}
use Rattle.std.proofs.lemmas.Str.{IsUtf8-from_is_utf8, is_utf8-from_IsUtf8, IsUtf8-nil}
use Rattle.std.proofs.lemmas.List.{take_all}
use Rattle.std.specs.Cmp.Lexicographic.{same_text}
use Rattle.bstr.specs.Find.{OccursAt, FindsNeedle, IsFirst, Nowhere, IsFirstByte, is_byte}
use Rattle.bstr.specs.Utf8.{decoded}
use Rattle.base_files.specs.declared.fault_kind.FaultKind.{FaultKind}
use Rattle.base_files.specs.declared.fault_kind.FaultKind.TheVariants as kinds
use Rattle.go_scanner.specs.declared.keywords.Keyword.{Keyword}
use Rattle.go_scanner.specs.declared.operators.Operator.{Operator}
use Rattle.go_scanner.specs.declared.piece.Class.{Class}
use Rattle.go_scanner.specs.declared.piece.Class.TheVariants as class
use Rattle.go_scanner.specs.declared.piece.Piece.{Piece}
use Rattle.go_scanner.specs.declared.refusal.TextFault.{TextFault}
use Rattle.go_scanner.specs.Characters.{continues_name}
use Rattle.go_scanner.specs.Words.{IsNameRun}
use Rattle.go_scanner.specs.Integers.{integer_value}
use Rattle.go_scanner.specs.Lengths.{integer_len, part_len}
use Rattle.go_scanner.specs.Keywords.{keyword_spelling, all_keywords}
use Rattle.go_scanner.specs.Operators.{operator_spelling, all_operators}
use Rattle.go_scanner.specs.Strings.{IsStringRun}
use Rattle.go_scanner.specs.Trivia.{is_blank, line_opening, comment_opening, comment_closing, IsLineComment}
use Rattle.go_scanner.specs.Pieces.{Stands, Breaks, IsFraction, IsLongest, spoils_number}
use Rattle.go_scanner.specs.Families.{starts_word, family_of, begins_with_letter, MayBeOperator}
use Rattle.go_scanner.specs.Cuts.{CutsUpTo, IsWellEncoded, IsCut, IsFirstFault, mark_of, mark_len, byte_order_mark}
use Rattle.go_scanner.proofs.IntegerLemmas.{by_test, integer_len_le}
use Rattle.go_scanner.specs.Words.{NameRunSoFar}
use Rattle.go_scanner.proofs.WordLemmas.{run_empty, run_grows, run_stops, char_some}
use Rattle.go_scanner.proofs.CommentLemmas.{comment_unclosed, comment_closed, occurs_take}
use Rattle.go_scanner.proofs.StringLemmas.{StringSoFar, string_opens, string_grows, string_ends, part_len_le, bad_at_end, bad_escape, bad_other}
use Rattle.go_scanner.proofs.FrontLemmas.{blank_stands, newline_stands, keyword_stands, name_stands, no_word, integer_stands, integer_breaks}
use Rattle.go_scanner.proofs.FrontLemmas.{line_comment_stands, general_comment_stands, operator_stands, no_operator, fraction_breaks, string_stands}
use Rattle.go_scanner.proofs.FrontLemmas.{raw_stands, raw_breaks}
use Rattle.go_scanner.proofs.CutLemmas.{CutsUpTo-push}

-- a test that is decided
abbrev pub Decided : Type 0 → Type 0
Decided P = P ⊎ (P → ⊥)

-- the first number at which a decidable relation is true
none_here : (P : ℕ → Type 0) (i to : ℕ) → (P i → ⊥) → Nowhere P (i + 1) to → Nowhere P i to
none_here P i to never none k low high p =
    ⊎_elim
    (λ (less : k < i + 1). let same : k ≡ i = omega (arith, low, less) in never (subst P same p))
    (λ (more : i + 1 ≤ k). none k more high p)
    (cases_lt k (i + 1))

first_later : (P : ℕ → Type 0) (i j : ℕ) → (P i → ⊥) → ((r : Option ℕ) × IsFirst P (i + 1) j r) → (r : Option ℕ) × IsFirst P i j r
first_later P i j never (None, none) = (None, none_here P i j never none)
first_later P i j never (Some k, found) = (
  Some k,
  (record { low = omega (arith, found.0.low); high = found.0.high; before = none_here P i k never found.0.before }, found.1),
)

pub first : (P : ℕ → Type 0) → ((k : ℕ) → Decided (P k)) → (n i j : ℕ) → i + n ≡ j → (r : Option ℕ) × IsFirst P i j r
first P decide zero i j size = (None, λ k low high p. omega (arith, low, high, size))
first P decide (suc n) i j size =
    ⊎_elim
    (λ (yes : P i). (Some i, (record { low = omega arith; high = omega (arith, size); before = λ k low high p. omega (arith, low, high) }, yes)))
    (λ (never : P i → ⊥). first_later P i j never (first P decide n (i + 1) j (omega (arith, size))))
    (decide i)

decide_true : (b : Bool) → Decided (b ≡ true)
decide_true b = by_test b (λ is. inl is) (λ not. inr (λ is. false≢true (sym not ∙ is)))

pub first_byte : (x : ℕ) (bytes : List ℕ) → (r : Option ℕ) × IsFirstByte (is_byte x) bytes r
first_byte x bytes = first (λ k. is_byte x (slice_index bytes k) ≡ true) (λ k. decide_true (is_byte x (slice_index bytes k))) (length bytes) 0
    (length bytes) (omega arith)

two_reads : (bytes : List ℕ) (x y k : ℕ) → slice_index bytes (k + 0) ≡ x → slice_index bytes (k + 1) ≡ y → (j : ℕ) → j < 2 →
    slice_index bytes (k + j) ≡ slice_index (x ∷ y ∷ []) j
two_reads bytes x y k a b zero less = a
two_reads bytes x y k a b (suc zero) less = b
two_reads bytes x y k a b (suc (suc j)) less = absurd (omega (arith, less))

pub two_at : (bytes : List ℕ) (x y k : ℕ) → Decided (OccursAt bytes (x ∷ y ∷ []) k)
two_at bytes x y k =
    by_test (ltb (k + 1) (length bytes))
    (λ fits. by_test (eqb (slice_index bytes (k + 0)) x)
    (λ a. by_test (eqb (slice_index bytes (k + 1)) y)
    (λ b. inl (record {
      fits = omega (arith, ltb-true (k + 1) (length bytes) fits);
      reads =
          two_reads bytes x y k (eqb-true (slice_index bytes (k + 0)) x a) (eqb-true (slice_index bytes (k + 1)) y b);
    }))
    (λ b. inr (λ at. false≢true (sym b ∙ eq-eqb (slice_index bytes (k + 1)) y (at.reads 1 (omega arith))))))
    (λ a. inr (λ at. false≢true (sym a ∙ eq-eqb (slice_index bytes (k + 0)) x (at.reads 0 (omega arith))))))
    (λ fits. inr (λ at. false≢true (sym fits ∙ lt-ltb (k + 1) (length bytes) (omega (arith, at.fits)))))

-- the piece at the start of a text, as a value with its class and length
record IsPieceAt (text : List ℕ) : Type 0 where
  pub class : Class
  pub size : ℕ
  pub stands : Stands text class size

record IsBreakAt (text : List ℕ) : Type 0 where
  pub kind : FaultKind
  pub place : ℕ
  pub breaks : Breaks kind place text

abbrev Front : List ℕ → Type 0
Front text = IsPieceAt text ⊎ IsBreakAt text

piece : (text : List ℕ) (c : Class) (n : ℕ) → Stands text c n → Front text
piece text c n stands = inl (record { class = c; size = n; stands = stands })

break : (text : List ℕ) (k : FaultKind) (n : ℕ) → Breaks k n text → Front text
break text k n breaks = inr (record { kind = k; place = n; breaks = breaks })

-- words
run_or_stop : (text : List ℕ) (n : ℕ) → NameRunSoFar text n → (o : Option ℕ) → (decoded (drop n text)).char ≡ o →
    ((c : ℕ) → (decoded (drop n text)).char ≡ Some c → continues_name c ≡ true → (m : ℕ) × IsNameRun text m) → (m : ℕ) × IsNameRun text m
run_or_stop text n before None read more = (n, run_stops text n before (rw read tt))
run_or_stop text n before (Some c) read more = by_test (continues_name c) (more c read) (λ no. (n, run_stops text n before (rw read no)))

pub run_from : (text : List ℕ) (fuel n : ℕ) → length text ≤ n + fuel → NameRunSoFar text n → (m : ℕ) × IsNameRun text m
run_from text zero n enough before =
    run_or_stop text n before (decoded (drop n text)).char refl
    (λ c read yes. absurd (omega (arith, (run_grows text n c before read yes).fits, char_some (drop n text) c read, enough)))
run_from text (suc fuel) n enough before =
    run_or_stop text n before (decoded (drop n text)).char refl
    (λ c read yes. run_from text fuel (n + (decoded (drop n text)).size) (omega (arith, char_some (drop n text) c read, enough))
    (run_grows text n c before read yes))

-- the word of a run is a keyword or a name
pub record IsNamed (text : List ℕ) (n : ℕ) : Type 0 where
  pub class : Class
  pub stands : Stands text class n

pub keyword_or_name : (text : List ℕ) (n : ℕ) (o : Option Keyword) → find (λ k. bytes_eq (keyword_spelling k) (take n text)) all_keywords ≡ o →
    0 < length text → starts_word (slice_index text 0) ≡ true → begins_with_letter text ≡ true → IsNameRun text n → IsNamed text n
keyword_or_name text n None found some starts begins run =
    record { class = class.Name; stands = name_stands text (take n text) n some starts begins run refl found }
keyword_or_name text n (Some k) found some starts begins run =
    record { class = class.Keyword k; stands = keyword_stands text (take n text) n k some starts begins run refl found }

pub run_is_word : (text : List ℕ) (n : ℕ) → 0 < length text → starts_word (slice_index text 0) ≡ true → begins_with_letter text ≡ true → IsNameRun text n →
    IsNamed text n
run_is_word text n = keyword_or_name text n (find (λ k. bytes_eq (keyword_spelling k) (take n text)) all_keywords) refl

word : (text : List ℕ) → 0 < length text → starts_word (slice_index text 0) ≡ true → Front text
word text some starts =
    by_test (begins_with_letter text)
    (λ begins. let run = run_from text (length text) 0 (omega arith) (run_empty text) in let named = run_is_word text run.0 some starts begins run.1 in
    piece text named.class run.0 named.stands)
    (λ none. break text kinds.Character 0 (no_word text some starts none))

-- numbers
number : (text : List ℕ) → 0 < length text → is_digit (slice_index text 0) 10 ≡ true → Front text
number text some digit =
    let n = integer_len text in
    let fits = integer_len_le text in
    by_test (spoils_number (decoded (drop n text)).char)
    (λ spoiled. break text kinds.Number 0 (integer_breaks text n some digit refl fits (inl spoiled)))
    (λ whole. ⊎_elim
    (λ (small : integer_value (take n text) < 2 ^ 63). piece text class.Integer n (integer_stands text n some digit refl fits whole small))
    (λ (large : 2 ^ 63 ≤ integer_value (take n text)). break text kinds.Number 0 (integer_breaks text n some digit refl fits (inr large)))
    (cases_lt (integer_value (take n text)) (2 ^ 63)))

-- comments
line_two : (text : List ℕ) (n : ℕ) → OccursAt text line_opening 0 → slice_index text n ≡ 10 → 2 ≤ n
line_two text zero opens newline = absurd (omega (arith, newline, opens.reads 0 (omega arith)))
line_two text (suc zero) opens newline = absurd (omega (arith, newline, opens.reads 1 (omega arith)))
line_two text (suc (suc n)) opens newline = omega arith

pub line_until : (text : List ℕ) (r : Option ℕ) → OccursAt text line_opening 0 → IsFirstByte (is_byte 10) text r → (n : ℕ) × IsLongest IsLineComment text n
line_until text None opens none = (
  length text,
  record {
    fits = omega arith;
    some = omega (arith, opens.fits);
    piece = subst IsLineComment (sym (take_all (length text) text (omega arith)))
        (record { opens = opens; one_line = λ k fits same. none k (omega arith) fits (eq-eqb (slice_index text k) 10 same) });
    longest = λ m more fits p. omega (arith, more, fits);
  },
)
line_until text (Some n) opens found =
    let newline : slice_index text n ≡ 10 = eqb-true (slice_index text n) 10 found.1 in
    let two : 2 ≤ n = line_two text n opens newline in
    let fits : n ≤ length text = omega (arith, found.0.high) in
    let long = length-take-le n text fits in (
      n,
      record {
        fits = fits;
        some = omega (arith, two);
        piece = record {
          opens = occurs_take text line_opening 0 n opens two fits;
          one_line = λ k less same. found.0.before k (omega arith) (omega (arith, less, long))
              (eq-eqb (slice_index text k) 10 (sym (get_or-take n text k 0 (omega (arith, less, long))) ∙ same));
        };
        longest = λ m more m_fits p. p.one_line n (omega (arith, more, length-take-le m text m_fits)) (get_or-take m text n 0 more ∙ newline);
      },
    )

pub line_comment_there : (text : List ℕ) → OccursAt text line_opening 0 → (n : ℕ) × Stands text class.LineComment n
line_comment_there text opens =
    let newline = first_byte 10 text in
    let long = line_until text newline.0 opens newline.1 in
    (long.0, line_comment_stands text long.0 opens long.1)

line_comment : (text : List ℕ) → OccursAt text line_opening 0 → Front text
line_comment text opens = let there = line_comment_there text opens in piece text class.LineComment there.0 there.1

comment_until : (text : List ℕ) (r : Option ℕ) → OccursAt text comment_opening 0 → FindsNeedle (drop 2 text) comment_closing 0 r →
    ((n : ℕ) × Stands text class.GeneralComment n) ⊎ Breaks kinds.Comment 0 text
comment_until text None opens none = inr (refl, comment_unclosed text (drop 2 text) refl opens none)
comment_until text (Some n) opens found = inl (n + 4, general_comment_stands text (n + 4) opens (comment_closed text (drop 2 text) n refl opens found))

pub comment_there : (text : List ℕ) → OccursAt text comment_opening 0 → ((n : ℕ) × Stands text class.GeneralComment n) ⊎ Breaks kinds.Comment 0 text
comment_there text opens =
    let closing = first (OccursAt (drop 2 text) comment_closing) (two_at (drop 2 text) 42 47) (length (drop 2 text) + 1) 0 (length (drop 2 text) + 1)
    (omega arith) in
    comment_until text closing.0 opens closing.1

general_comment : (text : List ℕ) → OccursAt text comment_opening 0 → Front text
general_comment text opens = ⊎_elim (λ (there : (n : ℕ) × Stands text class.GeneralComment n). piece text class.GeneralComment there.0 there.1)
    (break text kinds.Comment 0) (comment_there text opens)

-- strings
parts_or_stop : (text : List ℕ) (n : ℕ) → StringSoFar text n → (0 < part_len (drop n text) → (m : ℕ) × IsStringRun text m) → (m : ℕ) × IsStringRun text m
parts_or_stop text n before more =
    ⊎_elim more (λ (none : part_len (drop n text) ≤ 0). let zero_is : 0 ≡ part_len (drop n text) = omega (arith, none) in
    (n, string_ends text (drop n text) n before refl zero_is)) (cases_lt 0 (part_len (drop n text)))

pub parts_from : (text : List ℕ) (fuel n : ℕ) → length text ≤ n + fuel → StringSoFar text n → (m : ℕ) × IsStringRun text m
parts_from text zero n enough before =
    parts_or_stop text n before (λ some. absurd (omega (arith, some, part_len_le (drop n text), length-drop n text, enough)))
parts_from text (suc fuel) n enough before =
    parts_or_stop text n before
    (λ some. parts_from text fuel (n + part_len (drop n text)) (omega (arith, some, enough))
    (string_grows text (drop n text) n (part_len (drop n text)) before refl refl some (part_len_le (drop n text))))

string : (text : List ℕ) → 0 < length text → slice_index text 0 ≡ 34 → Front text
string text some first_is =
    let run = parts_from text (length text) 1 (omega arith) (string_opens text some first_is) in
    let n = run.0 in
    ⊎_elim
    (λ (more : n < length text). by_test (eqb (slice_index text n) 34)
    (λ quote. piece text class.InterpretedString (n + 1) (string_stands text n some first_is run.1 more (eqb-true (slice_index text n) 34 quote)))
    (λ other. by_test (eqb (slice_index text n) 92)
    (λ backslash. break text kinds.String n (inl (bad_escape text n run.1 (eqb-true (slice_index text n) 92 backslash))))
    (λ neither. break text kinds.String 0 (inl (bad_other text n run.1 (λ e. false≢true (sym other ∙ eq-eqb (slice_index text n) 34 e))
    (λ e. false≢true (sym neither ∙ eq-eqb (slice_index text n) 92 e)))))))
    (λ (end : length text ≤ n). break text kinds.String 0 (inl (bad_at_end text n run.1 (omega (arith, end, run.1.fits)))))
    (cases_lt n (length text))

raw_until : (text : List ℕ) (r : Option ℕ) → 0 < length text → slice_index text 0 ≡ 96 → IsFirstByte (is_byte 96) (drop 1 text) r → Front text
raw_until text None some first_is none = break text kinds.String 0 (inr (refl, raw_breaks text (drop 1 text) some first_is refl none))
raw_until text (Some n) some first_is found = piece text class.RawString (n + 2) (raw_stands text (drop 1 text) n some first_is refl found)

raw_string : (text : List ℕ) → 0 < length text → slice_index text 0 ≡ 96 → Front text
raw_string text some first_is = let quote = first_byte 96 (drop 1 text) in raw_until text quote.0 some first_is quote.1

-- operators
decide_fraction : (text : List ℕ) → Decided (IsFraction text)
decide_fraction text =
    by_test (eqb (slice_index text 0) 46)
    (λ point. by_test (ltb 1 (length text))
    (λ more. by_test (is_digit (slice_index text 1) 10)
    (λ digit. inl (eqb-true (slice_index text 0) 46 point, ltb-true 1 (length text) more, digit))
    (λ other. inr (λ is. false≢true (sym other ∙ is.2))))
    (λ short. inr (λ is. false≢true (sym short ∙ lt-ltb 1 (length text) is.1))))
    (λ other. inr (λ is. false≢true (sym other ∙ eq-eqb (slice_index text 0) 46 is.0)))

operator_or_none : (text : List ℕ) (o : Option Operator) → find (λ o. starts_with nat_eq text (operator_spelling o)) all_operators ≡ o →
    MayBeOperator text → (IsFraction text → ⊥) → Front text
operator_or_none text None found may whole = break text kinds.Character 0 (no_operator text may found)
operator_or_none text (Some o) found may whole = piece text (class.Operator o) (length (operator_spelling o)) (operator_stands text o may whole found)

operator : (text : List ℕ) → MayBeOperator text → Front text
operator text may =
    ⊎_elim (λ bad. break text kinds.Number 0 (fraction_breaks text bad))
    (operator_or_none text (find (λ o. starts_with nat_eq text (operator_spelling o)) all_operators) refl may) (decide_fraction text)

slash : (text : List ℕ) → 0 < length text → slice_index text 0 ≡ 47 → Front text
slash text some first_is =
    let family : family_of (slice_index text 0) ≡ 3 = rw first_is refl in
    ⊎_elim (line_comment text)
    (λ no_line. ⊎_elim (general_comment text) (λ no_comment.
    operator text (record { some = some; family = inl family; no_line = no_line; no_comment = no_comment })) (two_at text 47 42 0))
    (two_at text 47 47 0)

front : (text : List ℕ) → 0 < length text → Front text
front text some =
    let b = slice_index text 0 in
    by_test (is_blank b) (λ blank. piece text class.Blank 1 (blank_stands text some blank))
    (λ not_blank. by_test (eqb b 10) (λ newline. piece text class.Newline 1 (newline_stands text some (eqb-true b 10 newline)))
    (λ not_newline. by_test (eqb b 47) (λ is. slash text some (eqb-true b 47 is))
    (λ not_slash. by_test (starts_word b) (word text some)
    (λ not_word. by_test (is_digit b 10) (number text some)
    (λ not_digit. by_test (eqb b 34) (λ quote. string text some (eqb-true b 34 quote))
    (λ not_quote. by_test (eqb b 96) (λ quote. raw_string text some (eqb-true b 96 quote))
    (λ not_back_quote. operator text (record {
      some = some;
      family = inr (rw (not_blank, not_newline, not_slash, not_word, not_digit, not_quote, not_back_quote) refl);
      no_line = λ at. false≢true (sym not_slash ∙ eq-eqb b 47 (at.reads 0 (omega arith)));
      no_comment = λ at. false≢true (sym not_slash ∙ eq-eqb b 47 (at.reads 0 (omega arith)));
    }))))))))

-- cuts
record HasCut (text : List ℕ) : Type 0 where
  pub pieces : List Piece
  pub cut : IsCut text pieces

record HasFault (text : List ℕ) : Type 0 where
  pub fault : TextFault
  pub is_first : IsFirstFault text fault

grow : (text : List ℕ) (ps : List Piece) (n : ℕ) → IsWellEncoded text → n ≤ length text → CutsUpTo text ps n
    → ((more : List Piece) (size : ℕ) → 0 < size → n + size ≤ length text → CutsUpTo text more (n + size) → HasCut text ⊎ HasFault text) → HasCut text ⊎
    HasFault text
grow text ps n encoded fits cut more =
    ⊎_elim
    (λ (less : n < length text). ⊎_elim
    (λ (at : IsPieceAt (drop n text)). more (ps ++ (record { class = at.class; span = record { start = n; end = n + at.size } }) ∷ []) at.size
    at.stands.some (omega (arith, at.stands.fits, length-drop n text)) (CutsUpTo-push text ps n at.class at.size (drop n text) cut refl at.stands))
    (λ (at : IsBreakAt (drop n text)). inr (record {
      fault = record { offset = n + at.place; kind = at.kind };
      is_first = inr (record { encoded = encoded; pieces = ps; to = n; place = at.place; cut = cut; breaks = at.breaks; offset_is = refl });
    }))
    (front (drop n text) (omega (arith, less, length-drop n text))))
    (λ (end : length text ≤ n). let whole : n ≡ length text = omega (arith, end, fits) in
    inl (record { pieces = ps; cut = record { encoded = encoded; cut = subst (CutsUpTo text ps) whole cut } }))
    (cases_lt n (length text))

cut_from : (text : List ℕ) (fuel n : ℕ) (ps : List Piece) → IsWellEncoded text → n ≤ length text → length text ≤ n + fuel → CutsUpTo text ps n →
    HasCut text ⊎ HasFault text
cut_from text zero n ps encoded fits enough cut = grow text ps n encoded fits cut (λ more size some m_fits _. absurd (omega (arith, some, m_fits, enough)))
cut_from text (suc fuel) n ps encoded fits enough cut =
    grow text ps n encoded fits cut (λ more size some m_fits next. cut_from text fuel (n + size) more encoded m_fits (omega (arith, some, enough)) next)

mark_fits : (text : List ℕ) → mark_len text ≤ length text
mark_fits text =
    by_test (starts_with nat_eq text byte_order_mark)
    (λ is. let begins : byte_order_mark ≡ take 3 text = same_text _ _ (sym is) in rw is (omega (arith, ap length begins, length-take 3 text)))
    (λ not. rw not (omega arith))

well_cut : (text : List ℕ) → IsWellEncoded text → HasCut text ⊎ HasFault text
well_cut text encoded = cut_from text (length text) (mark_len text) (mark_of text) encoded (mark_fits text) (omega arith)
    ([], sym (append-nil (mark_of text)), refl)

-- encoding
well_if_no_zero : (bytes : List ℕ) → IsUtf8 bytes → ((r : Option ℕ) × IsFirstByte (is_byte 0) bytes r) → Decided (IsWellEncoded bytes)
well_if_no_zero bytes utf8 (None, none) = inl (utf8, λ k less same. none k (omega arith) less (eq-eqb (slice_index bytes k) 0 same))
well_if_no_zero bytes utf8 (Some k, found) = inr (λ well. well.1 k found.0.high (eqb-true (slice_index bytes k) 0 found.1))

decide_well : (bytes : List ℕ) → Decided (IsWellEncoded bytes)
decide_well bytes =
    by_test (is_utf8 bytes)
    (λ utf8. well_if_no_zero bytes (IsUtf8-from_is_utf8 bytes utf8) (first_byte 0 bytes))
    (λ not. inr (λ well. false≢true (sym not ∙ is_utf8-from_IsUtf8 bytes well.0)))

nothing_well : IsWellEncoded []
nothing_well = (IsUtf8-nil, λ k less same. omega (arith, less))

-- no prefix longer than the first n bytes is well encoded
NoneBeyond : List ℕ → ℕ → Type 0
NoneBeyond text n = (m : ℕ) → n < m → m ≤ length text → IsWellEncoded (take m text) → ⊥

ill_at : (text : List ℕ) (n : ℕ) → n < length text → IsWellEncoded (take n text) → NoneBeyond text n → HasFault text
unfolding NoneBeyond
ill_at text n short front none = record {
  fault = record { offset = n; kind = kinds.Encoding };
  is_first = inl (refl, record { short = short; front = front; longest = none });
}

none_from : (text : List ℕ) (n : ℕ) → NoneBeyond text (suc n) → (IsWellEncoded (take (suc n) text) → ⊥) → NoneBeyond text n
unfolding NoneBeyond
none_from text n none never m more fits well =
    ⊎_elim
    (λ (beyond : suc n < m). none m beyond fits well)
    (λ (here : m ≤ suc n). let same : m ≡ suc n = omega (arith, here, more) in never (subst (λ (k : ℕ). IsWellEncoded (take k text)) same well))
    (cases_lt (suc n) m)

ill_from : (text : List ℕ) (n : ℕ) → n < length text → NoneBeyond text n → HasFault text
ill_from text zero short none = ill_at text zero short nothing_well none
ill_from text (suc n) short none =
    ⊎_elim
    (λ (well : IsWellEncoded (take (suc n) text)). ill_at text (suc n) short well none)
    (λ (no : IsWellEncoded (take (suc n) text) → ⊥). ill_from text n (omega (arith, short)) (none_from text n none no))
    (decide_well (take (suc n) text))

-- the longest well-encoded prefix, searched from the whole text down
ill_text : (text : List ℕ) → (IsWellEncoded text → ⊥) → HasFault text
unfolding NoneBeyond
ill_text [] never = absurd (never nothing_well)
ill_text (b ∷ rest) never =
    ill_from (b ∷ rest) (length rest) (omega arith)
    (λ m more fits well. never (subst IsWellEncoded (take_all m (b ∷ rest) (omega (arith, more))) well))

cut_or_has_fault : (text : List ℕ) → HasCut text ⊎ HasFault text
cut_or_has_fault text = ⊎_elim (well_cut text) (λ (no : IsWellEncoded text → ⊥). inr (ill_text text no)) (decide_well text)

pub has_cut_or_fault : (text : List ℕ) → ((ps : List Piece) × IsCut text ps) ⊎ ((fault : TextFault) × IsFirstFault text fault)
has_cut_or_fault text = ⊎_elim (λ (is : HasCut text). inl (is.pieces, is.cut)) (λ (is : HasFault text). inr (is.fault, is.is_first)) (cut_or_has_fault text)
