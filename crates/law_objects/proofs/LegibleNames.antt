-- The identifiers of files are legible, and so are the names of declarations.
use Rattle.std.proofs.Common.{◌≡◌, ◌∙◌, ◌==◌, ◌&&◌, ◌||◌, ◌<◌, ◌≤◌, ◌+◌, ◌/◌, ◌%◌, inl, inr, ℕ, zero, suc, Bool, true, false, not, cond, List, [], ◌∷◌, ◌++◌}
use Rattle.std.proofs.Common.{Option, Some, None, refl, sym, ap, subst, arith, encode_utf8_all}
use Rattle.std.specs.Char.{encode_utf8}
use Rattle.std.specs.Prelude.{Contains, nat_lt, slice_get}
use Rattle.std.specs.List.{AllByRecursion, list_all}
use Rattle.std.proofs.lemmas.Bool.{and_from, and_parts, cases_lt}
use Rattle.std.proofs.lemmas.Bool.Decides.{eqb_tells}
use Rattle.std.proofs.lemmas.List.Folds.{list_all-append}
use Rattle.std.proofs.lemmas.Option.{none-some, same_Some}
use Rattle.ucd_category.proofs.Computing.{ucd_category}
use Rattle.base_files.specs.Workspace.{Workspace}
use Rattle.go_scanner.specs.declared.keywords.Keyword.{Keyword}
use Rattle.go_scanner.specs.declared.keywords.Keyword.TheVariants as word
use Rattle.go_scanner.specs.declared.operators.Operator.{Operator}
use Rattle.go_scanner.specs.declared.operators.Operator.TheVariants as signs
use Rattle.go_scanner.specs.declared.piece.Class.{Class}
use Rattle.go_scanner.specs.declared.piece.Class.TheVariants as class
use Rattle.go_scanner.specs.declared.piece.Piece.{Piece}
use Rattle.go_scanner.specs.Characters.{continues_name, is_decimal_number, is_letter}
use Rattle.go_scanner.specs.Cuts.{bytes_of}
use Rattle.go_scanner.specs.CutText.{CutText, tokens_in}
use Rattle.go_scanner.specs.Pieces.{IsPiece}
use Rattle.go_scanner.specs.Spans.{IsTokenText}
use Rattle.go_scanner.specs.Words.{IsWord, is_name}
use Rattle.go_scanner.proofs.AsciiLemmas.{ascii_spelled}
use Rattle.go_scanner.proofs.FrontLemmas.{name_parts}
use Rattle.go_scanner.proofs.SpanLemmas.{cut_tokens}
use Rattle.go_ast.specs.declared.syntax.Kind.{Kind}
use Rattle.go_ast.specs.declared.syntax.Kind.TheVariants as kind
use Rattle.go_ast.specs.declared.syntax.Token.{Token}
use Rattle.go_ast.specs.Kinds.{kind_of_keyword, kind_of_operator, kind_of, kinds_from}
use Rattle.go_ast.specs.SourceFile.{SourceFile, IsSourceFile, spelling_at, spelling_of}
use Rattle.refs_binding.specs.Identifiers.{IsNameToken}
use Rattle.law_tokens.specs.Roles.{IsOfKind}
use Rattle.law_tokens.proofs.Elements.{all_got}
use Rattle.build_names.specs.Words.{is_break}
use Rattle.law_objects.specs.Legible.{IsLegible, is_name_byte}
use Rattle.law_objects.proofs.Symbols.{below, at_below}

-- the byte may be in a name, and is no point
abbrev pub is_good : ℕ → Bool
is_good b = is_name_byte b && not (b == 46)

abbrev pub IsGood : List ℕ → Type 0
IsGood t = list_all is_good t ≡ true

pub good_legible : (t : List ℕ) → IsGood t → IsLegible t
good_legible [] is = refl
good_legible (b ∷ bs) is =
    let parts = and_parts (is_good b) (list_all is_good bs) is in
    and_from (is_name_byte b) (list_all is_name_byte bs) (and_parts (is_name_byte b) (not (b == 46)) parts.0).0 (good_legible bs parts.1)

pub good_no_point : (t : List ℕ) → IsGood t → list_all (λ b. not (b == 46)) t ≡ true
good_no_point [] is = refl
good_no_point (b ∷ bs) is =
    let parts = and_parts (is_good b) (list_all is_good bs) is in
    and_from (not (b == 46)) (list_all (λ x. not (x == 46)) bs) (and_parts (is_name_byte b) (not (b == 46)) parts.0).1 (good_no_point bs parts.1)

-- characters

ascii : below (λ b. cond (continues_name b) (is_good b) true) 128 ≡ true
unfolding below is_letter is_decimal_number ucd_category
ascii = refl

if_true : (a b : Bool) → cond a b true ≡ true → a ≡ true → b ≡ true
if_true a b h is = rw is at h

apart : (b x : ℕ) → x < b → (b == x) ≡ false
apart b x less = elim (eqb_tells b x) [
  | inl alike ↦ absurd (omega (arith, less, alike.1))
  | inr other ↦ other.0
]

large : (b : ℕ) → 128 ≤ b → is_good b ≡ true
large b more =
    let blank = apart b 32 (omega (arith, more)) in
    let line = apart b 10 (omega (arith, more)) in
    let open_round = apart b 40 (omega (arith, more)) in
    let close_round = apart b 41 (omega (arith, more)) in
    let comma = apart b 44 (omega (arith, more)) in
    let semicolon = apart b 59 (omega (arith, more)) in
    let open_curly = apart b 123 (omega (arith, more)) in
    let close_curly = apart b 125 (omega (arith, more)) in
    let star = apart b 42 (omega (arith, more)) in
    let open_square = apart b 91 (omega (arith, more)) in
    let close_square = apart b 93 (omega (arith, more)) in
    let no_break : is_break b ≡ false = (
    λ i. blank i || line i || open_round i || close_round i || comma i || semicolon i || open_curly i || close_curly i || star i || open_square i
    || close_square i
    ) in
    let hash = apart b 35 (omega (arith, more)) in
    let point = apart b 46 (omega (arith, more)) in
    (λ i. not (no_break i) && not (hash i) && not (point i))

one : (b : ℕ) (t : List ℕ) → 128 ≤ b → IsGood t → IsGood (b ∷ t)
one b t more is = and_from (is_good b) (list_all is_good t) (large b more) is

chosen : (b : Bool) (x y : List ℕ) → IsGood x → IsGood y → IsGood (cond b x y)
chosen true x y p q = p
chosen false x y p q = q

-- a byte of a character that has several
high_part : (k e : ℕ) (t : List ℕ) → 128 ≤ k → IsGood t → IsGood ((k + e) ∷ t)
high_part k e t more is = one (k + e) t (omega (arith, more)) is

next_part : (e : ℕ) (t : List ℕ) → IsGood t → IsGood ((128 + e % 64) ∷ t)
next_part e t is = high_part 128 (e % 64) t (omega arith) is

abbrev last_two : ℕ → List ℕ
last_two c = (128 + (c / 64) % 64) ∷ (128 + c % 64) ∷ []

both_parts : (c : ℕ) → IsGood (last_two c)
both_parts c = next_part (c / 64) ((128 + c % 64) ∷ []) (next_part c [] refl)

beyond_ascii : (c : ℕ) → 128 ≤ c → IsGood (encode_utf8 c)
unfolding encode_utf8
beyond_ascii c more =
    let of_two : List ℕ = (192 + c / 64) ∷ (128 + c % 64) ∷ [] in
    let of_three : List ℕ = (224 + c / 4096) ∷ last_two c in
    let of_four : List ℕ = (240 + c / 262144) ∷ (128 + (c / 4096) % 64) ∷ last_two c in
    chosen (nat_lt c 128) (c ∷ []) (cond (nat_lt c 2048) of_two (cond (nat_lt c 65536) of_three of_four)) (one c [] more refl)
    (chosen (nat_lt c 2048) of_two (cond (nat_lt c 65536) of_three of_four) (high_part 192 (c / 64) ((128 + c % 64) ∷ []) (omega arith) (next_part c [] refl))
    (chosen (nat_lt c 65536) of_three of_four (high_part 224 (c / 4096) (last_two c) (omega arith) (both_parts c))
    (high_part 240 (c / 262144) ((128 + (c / 4096) % 64) ∷ last_two c) (omega arith) (next_part (c / 4096) (last_two c) (both_parts c)))))

character : (c : ℕ) → continues_name c ≡ true → IsGood (encode_utf8 c)
character c is = elim (cases_lt c 128) [
  | inl small ↦
      let good : is_good c ≡ true =
      if_true (continues_name c) (is_good c) (at_below (λ b. cond (continues_name b) (is_good b) true) 128 c ascii small) is in
      subst IsGood (sym (ascii_spelled c small)) (and_from (is_good c) true good refl)
  | inr more ↦ beyond_ascii c more
]

characters : (cs : List ℕ) → list_all continues_name cs ≡ true → IsGood (encode_utf8_all cs)
characters [] is = refl
characters (c ∷ cs) is =
    let parts = and_parts (continues_name c) (list_all continues_name cs) is in
    list_all-append is_good (encode_utf8 c) (encode_utf8_all cs)
    ∙ and_from (list_all is_good (encode_utf8 c)) (list_all is_good (encode_utf8_all cs)) (character c parts.0) (characters cs parts.1)

letter_continues : (c : ℕ) → is_letter c ≡ true → continues_name c ≡ true
letter_continues c is = ap (λ b. b || is_decimal_number c) is

named : (cs : List ℕ) → is_name cs ≡ true → list_all continues_name cs ≡ true
named [] is = refl
named (c ∷ cs) is =
    let parts = name_parts c cs is in and_from (continues_name c) (list_all continues_name cs) (letter_continues c parts.0) parts.1

pub word_good : (bytes : List ℕ) → IsWord bytes → IsGood bytes
word_good bytes is = subst IsGood (sym is.2) (characters is.0 (named is.0 is.1))

-- tokens

word_other : (k : Keyword) → kind_of_keyword k ≡ kind.Name → ⊥
word_other word.Break e = cc
word_other _ e = cc

sign_other : (o : Operator) → kind_of_operator o ≡ kind.Name → ⊥
sign_other signs.LeftParen e = cc
sign_other _ e = cc

name_class : (c : Class) (bytes : List ℕ) → kind_of c bytes ≡ kind.Name → c ≡ class.Name
name_class class.Name bytes e = refl
name_class (class.Keyword k) bytes e = absurd (word_other k e)
name_class class.Integer bytes e = let z : ⊥ = cc in absurd z
name_class class.InterpretedString bytes e = let z : ⊥ = cc in absurd z
name_class class.RawString bytes e = let z : ⊥ = cc in absurd z
name_class (class.Operator o) bytes e = absurd (sign_other o e)
name_class _ bytes e = let z : ⊥ = cc in absurd z

piece_named : (n : ℕ) (text : List ℕ) (ps : List Piece) (i : ℕ) (t : Token) → slice_get (kinds_from n text ps) i ≡ Some t → t.kind ≡ kind.Name →
    (x : Piece) × ((slice_get ps i ≡ Some x) × (x.class ≡ class.Name))
unfolding kinds_from
piece_named n text [] i t e is = absurd (none-some t e)
piece_named n text (x ∷ ps) zero t e is = (
  x,
  (
    refl,
    name_class x.class (bytes_of text x)
        (ap (λ (z : Token). z.kind) (same_Some (record { kind = kind_of x.class (bytes_of text x); place = n }) t e) ∙ is),
  ),
)
piece_named n text (x ∷ ps) (suc i) t e is = piece_named (n + 1) text ps i t e is

piece_good : (s : SourceFile) → IsSourceFile s → (i : ℕ) (x : Piece) → slice_get (tokens_in s.cut) i ≡ Some x → x.class ≡ class.Name → IsGood (spelling_of s i)
piece_good s is i x at name =
    let text : IsTokenText x.class (bytes_of s.cut.text x) =
    all_got (λ (t : Piece). IsTokenText t.class (bytes_of s.cut.text t)) (tokens_in s.cut) i x (cut_tokens s.cut.text s.cut.pieces is.is_cut) at in
    subst IsGood (sym (ap (spelling_at s.cut.text) at)) (elim text [
      | inl piece ↦ word_good (bytes_of s.cut.text x) (subst (λ c. IsPiece c (bytes_of s.cut.text x)) name piece).0
      | inr sign ↦ (let z : ⊥ = no_sign x.class name sign.0 in absurd z)
    ])
  where
    no_sign : (c : Class) → c ≡ class.Name → c ≡ class.Operator signs.Semicolon → ⊥
    no_sign c e f = let z : class.Name ≡ class.Operator signs.Semicolon = sym e ∙ f in cc

-- an identifier of a file
pub kind_good : (s : SourceFile) → IsSourceFile s → (i : ℕ) → IsOfKind s.cut i kind.Name → IsGood (spelling_of s i)
kind_good s is i h =
    let x = piece_named 0 s.cut.text (tokens_in s.cut) i h.0 h.1.0 h.1.1 in
    piece_good s is i x.0 x.1.0 x.1.1

pub token_good : (s : SourceFile) → IsSourceFile s → (i : ℕ) → IsNameToken (slice_get (tokens_in s.cut) i) → IsGood (spelling_of s i)
token_good s is i h = by_token (slice_get (tokens_in s.cut) i) refl h
  where
    by_token : (o : Option Piece) → slice_get (tokens_in s.cut) i ≡ o → IsNameToken o → IsGood (spelling_of s i)
    by_token None at name = absurd name
    by_token (Some x) at name = piece_good s is i x at name
