-- The values of literals are known, since a text with others is not cut.
use Rattle.std.proofs.Common.{ℕ, zero, suc, ◌≡◌, ◌+◌, ◌-◌, ◌≤◌, ◌^◌, ◌⊎◌, inl, inr, Bool, true, false, ◌&&◌, if◌then◌else◌, cond, List, [], ◌∷◌, ◌++◌}
use Rattle.std.proofs.Common.{length, take, drop, Option, Some, None, ap, refl, sym, ◌∙◌, subst, arith, nat_lt, nat_eq}
use Rattle.std.specs.Prelude.{slice_get, flat_map}
use Rattle.std.specs.List.{starts_with}
use Rattle.std.proofs.lemmas.Bool.{ltb-false, false_from_ne_true}
use Rattle.std.proofs.lemmas.Option.{get_or_from_slice_get}
use Rattle.base_files.specs.declared.fault_kind.FaultKind.TheVariants as fault
use Rattle.go_scanner.specs.declared.keywords.Keyword.{Keyword}
use Rattle.go_scanner.specs.declared.keywords.Keyword.TheVariants as word
use Rattle.go_scanner.specs.declared.operators.Operator.{Operator}
use Rattle.go_scanner.specs.declared.operators.Operator.TheVariants as signs
use Rattle.go_scanner.specs.declared.piece.Class.{Class}
use Rattle.go_scanner.specs.declared.piece.Class.TheVariants as class
use Rattle.go_scanner.specs.declared.piece.Piece.{Piece}
use Rattle.go_scanner.specs.Cuts.{IsCut, CutsTo, bytes_of, byte_order_mark, mark_of}
use Rattle.go_scanner.specs.CutText.{tokens_in, token_at}
use Rattle.go_scanner.specs.Integers.{is_integer, integer_value}
use Rattle.go_scanner.specs.Pieces.{IsPiece, IsBadInteger, Stands}
use Rattle.go_scanner.specs.StringValues.{part_value, raw_value, HasStringValue}
use Rattle.go_scanner.specs.Strings.{IsString, IsRawString}
use Rattle.go_scanner.specs.TokenValues.{IsStringClass}
use Rattle.go_scanner.specs.Tokens.{is_trivia, ends_statement, line_ends, semicolon, tokens_of}
use Rattle.go_ast.specs.declared.syntax.Kind.{Kind}
use Rattle.go_ast.specs.declared.syntax.Kind.TheVariants as kind
use Rattle.go_ast.specs.Flatten.{flatten}
use Rattle.go_ast.specs.Kinds.{kind_of_keyword, kind_of_operator, kind_of, kinds_from, kinds_of}
use Rattle.go_ast.specs.SourceFile.{SourceFile, IsSourceFile, spelling_at, spelling_of}
use Rattle.types_declared.specs.Files.{HasLiteral}
use Rattle.types_expr.specs.World.{World, Locals}
use Rattle.go_ast.specs.Tree.{FuncTree}
use Rattle.build_object.specs.Literals.{literal_number}
use Rattle.build_object.specs.Sources.{IsTextAt}
use Rattle.law_faultless.specs.Questions.{OfInteger, OfText}
use Rattle.law_faultless.specs.QuestionAnswers.{IsKnown}
use Rattle.law_faultless.specs.StatementAsking.{FunctionAsks}
use Rattle.law_faultless.specs.TypedFunctions.{IsFunctionIn}
use Rattle.law_faultless.proofs.Written.{Holds, file_written}

-- the piece that a token is

record IsToken (k : Kind) (p n : ℕ) (text : List ℕ) (ps : List Piece) : Type 0 where
  index : ℕ
  piece : Piece
  there : slice_get ps index ≡ Some piece
  number : p ≡ index + n
  kind_is : kind_of piece.class (bytes_of text piece) ≡ k

token_later : (k : Kind) (p n : ℕ) (text : List ℕ) (x : Piece) (ps : List Piece) → IsToken k p (n + 1) text ps → IsToken k p n text (x ∷ ps)
token_later k p n text x ps t = record {
  index = suc t.index;
  piece = t.piece;
  there = t.there;
  number = let e : p ≡ t.index + (n + 1) =
      t.number in omega arith;
  kind_is = t.kind_is;
}

held_token : (k : Kind) (p n : ℕ) (text : List ℕ) (ps : List Piece) → Holds k p (kinds_from n text ps) → IsToken k p n text ps
unfolding kinds_from
held_token k p n text [] h = absurd h
held_token k p n text (x ∷ ps) h = elim h [
  | inl here ↦ record { index = 0; piece = x; there = refl; number = let e : n ≡ p = here.1 in omega arith; kind_is = here.0 }
  | inr more ↦ token_later k p n text x ps (held_token k p (n + 1) text ps more)
]

-- which pieces are numbers and strings

word_no : {A : Type 0} (k : Keyword) (x : Kind) → (x ≡ kind.Number) ⊎ (x ≡ kind.Text) → kind_of_keyword k ≡ x → A
word_no word.Break x o e = elim o [ inl n ↦ cc | inr t ↦ cc ]
word_no _ x o e = elim o [ inl n ↦ cc | inr t ↦ cc ]

sign_no : {A : Type 0} (k : Operator) (x : Kind) → (x ≡ kind.Number) ⊎ (x ≡ kind.Text) → kind_of_operator k ≡ x → A
sign_no signs.LeftParen x o e = elim o [ inl n ↦ cc | inr t ↦ cc ]
sign_no _ x o e = elim o [ inl n ↦ cc | inr t ↦ cc ]

name_no : {A : Type 0} (b : Bool) (x : Kind) → (x ≡ kind.Number) ⊎ (x ≡ kind.Text) → cond b kind.Blank kind.Name ≡ x → A
name_no true x o e = elim o [ inl n ↦ cc | inr t ↦ cc ]
name_no false x o e = elim o [ inl n ↦ cc | inr t ↦ cc ]

number_class : (c : Class) (bytes : List ℕ) → kind_of c bytes ≡ kind.Number → c ≡ class.Integer
number_class class.Name bytes e = name_no _ kind.Number (inl refl) e
number_class (class.Keyword k) bytes e = word_no k kind.Number (inl refl) e
number_class class.Integer bytes e = refl
number_class class.InterpretedString bytes e = cc
number_class class.RawString bytes e = cc
number_class (class.Operator o) bytes e = sign_no o kind.Number (inl refl) e
number_class _ bytes e = cc

text_class : (c : Class) (bytes : List ℕ) → kind_of c bytes ≡ kind.Text → IsStringClass c
text_class class.Name bytes e = name_no _ kind.Text (inr refl) e
text_class (class.Keyword k) bytes e = word_no k kind.Text (inr refl) e
text_class class.Integer bytes e = cc
text_class class.InterpretedString bytes e = inl refl
text_class class.RawString bytes e = inr refl
text_class (class.Operator o) bytes e = sign_no o kind.Text (inr refl) e
text_class _ bytes e = cc

-- pieces of a cut

abbrev IsOneOf : Piece → List Piece → Type 0
IsOneOf p [] = ⊥
IsOneOf p (x ∷ xs) = (x ≡ p) ⊎ IsOneOf p xs

one_at : (p : Piece) (xs : List Piece) (i : ℕ) → slice_get xs i ≡ Some p → IsOneOf p xs
one_at p [] i e = cc
one_at p (x ∷ xs) zero e = let same : x ≡ p = cc in inl same
one_at p (x ∷ xs) (suc i) e = inr (one_at p xs i e)

either_list : (p : Piece) (b : Bool) (xs ys : List Piece) → IsOneOf p (if b then xs else ys) → IsOneOf p xs ⊎ IsOneOf p ys
either_list p true xs ys h = inl h
either_list p false xs ys h = inr h

-- a piece that is no semicolon was cut
token_cut : (p : Piece) (text : List ℕ) (ps : List Piece) → ((n : ℕ) → semicolon n ≡ p → ⊥) → IsOneOf p (tokens_of text ps) → IsOneOf p ps
unfolding tokens_of
token_cut p text [] other h = h
token_cut p text (x ∷ ps) other h =
    let rest : List Piece = if ends_statement x.class && line_ends text ps then semicolon x.span.end ∷ tokens_of text ps else tokens_of text ps in
    elim (either_list p (is_trivia x.class) (tokens_of text ps) (x ∷ rest) h) [
      | inl more ↦ inr (token_cut p text ps other more)
      | inr here ↦ elim here [
        | inl same ↦ inl same
        | inr behind ↦ elim (either_list p (ends_statement x.class && line_ends text ps) (semicolon x.span.end ∷ tokens_of text ps) (tokens_of text ps)
            behind) [
              | inl due ↦ elim due [ inl e ↦ absurd (other x.span.end e) | inr more ↦ inr (token_cut p text ps other more) ]
              | inr more ↦ inr (token_cut p text ps other more)
            ]
      ]
    ]

piece_stands : (text : List ℕ) (from : ℕ) (ps : List Piece) (to : ℕ) (p : Piece) → CutsTo text from ps to → IsOneOf p ps →
    Stands (drop p.span.start text) p.class (p.span.end - p.span.start)
piece_stands text from [] to p c h = absurd h
piece_stands text from (x ∷ ps) to p c h = elim h [
  | inl same ↦ subst (λ (z : Piece). Stands (drop z.span.start text) z.class (z.span.end - z.span.start)) same
      (subst (λ n. Stands (drop n text) x.class (x.span.end - n)) (sym c.0) c.2)
  | inr more ↦ piece_stands text x.span.end ps to p c.3 more
]

behind_list : (p : Piece) (xs ys : List Piece) → (IsOneOf p xs → ⊥) → IsOneOf p (xs ++ ys) → IsOneOf p ys
behind_list p [] ys no_one h = h
behind_list p (x ∷ xs) ys no_one h = elim h [ inl e ↦ absurd (no_one (inl e)) | inr more ↦ behind_list p xs ys (λ q. no_one (inr q)) more ]

mark_other : (p : Piece) (b : Bool) → (p.class ≡ class.ByteOrderMark → ⊥) →
    IsOneOf p (if b then record { class = class.ByteOrderMark; span = record { start = 0; end = 3 } } ∷ [] else []) → ⊥
mark_other p true other h = elim h [ inl e ↦ other (ap (λ (z : Piece). z.class) (sym e)) | inr more ↦ more ]
mark_other p false other h = h

cut_stands : (text : List ℕ) (ps : List Piece) (p : Piece) → IsCut text ps → IsOneOf p ps → (p.class ≡ class.ByteOrderMark → ⊥) →
    Stands (drop p.span.start text) p.class (p.span.end - p.span.start)
cut_stands text ps p c h other =
    piece_stands text _ c.cut.0 (length text) p c.cut.2
    (behind_list p (mark_of text) c.cut.0 (mark_other p (starts_with nat_eq text byte_order_mark) other) (subst (λ z. IsOneOf p z) c.cut.1 h))

-- integers are small

chosen : (b : Bool) (n : ℕ) → (b ≡ false → ⊥) → IsKnown (if b then Some n else None)
chosen true n h = (n, refl)
chosen false n h = absurd (h refl)

bad_integer : (text : List ℕ) (n : ℕ) → Stands text class.Integer n → 2 ^ 63 ≤ integer_value (take n text) → IsBadInteger text
bad_integer text n s le = record {
  size = n;
  fits = s.fits;
  integer = s.piece;
  longest = λ m more within. false_from_ne_true (is_integer (take m text)) (λ e. s.longest class.Integer m more within e);
  bad = inr le;
}

integer_known : (text : List ℕ) (n : ℕ) → Stands text class.Integer n → IsKnown (literal_number (take n text))
integer_known text n s =
    chosen (nat_lt (integer_value (take n text)) (2 ^ 63)) (integer_value (take n text))
    (λ e. s.sound fault.Number 0 (refl, inl (bad_integer text n s (ltb-false (integer_value (take n text)) (2 ^ 63) e))))

-- strings have values

string_value : (c : Class) (bytes : List ℕ) → IsStringClass c → IsPiece c bytes → (value : List ℕ) × HasStringValue bytes value
string_value c bytes k p = elim k [
  | inl e ↦ (let s : IsString bytes = subst (λ z. IsPiece z bytes) e p in (flat_map part_value s.parts, inl (s, refl)))
  | inr e ↦ (let s : IsRawString bytes = subst (λ z. IsPiece z bytes) e p in (raw_value s.body, inr (s, refl)))
]

-- the piece of a token of a file, and that it stands in the text

record IsPieceOf (f : SourceFile) (p : ℕ) (k : Kind) : Type 0 where
  piece : Piece
  at : slice_get (tokens_in f.cut) p ≡ Some piece
  kind_is : kind_of piece.class (bytes_of f.cut.text piece) ≡ k

piece_of : (f : SourceFile) (p : ℕ) (k : Kind) → Holds k p (kinds_of f.cut) → IsPieceOf f p k
piece_of f p k h =
    let t = held_token k p 0 f.cut.text (tokens_in f.cut) h in
    let index : p ≡ t.index = let e : p ≡ t.index + 0 = t.number in omega arith in
    record { piece = t.piece; at = ap (λ z. slice_get (tokens_in f.cut) z) index ∙ t.there; kind_is = t.kind_is }

no_semicolon : (p : Piece) → (p.class ≡ class.Operator signs.Semicolon → ⊥) → (n : ℕ) → semicolon n ≡ p → ⊥
no_semicolon p other n e = other (ap (λ (z : Piece). z.class) (sym e))

stands_in : (f : SourceFile) (p : ℕ) (k : Kind) → IsSourceFile f → (x : IsPieceOf f p k) → (x.piece.class ≡ class.Operator signs.Semicolon → ⊥) →
    (x.piece.class ≡ class.ByteOrderMark → ⊥) →
    Stands (drop x.piece.span.start f.cut.text) x.piece.class (x.piece.span.end - x.piece.span.start)
stands_in f p k is x sign mark =
    cut_stands f.cut.text f.cut.pieces x.piece is.is_cut (token_cut x.piece f.cut.text f.cut.pieces (no_semicolon x.piece sign)
    (one_at x.piece (tokens_in f.cut) p x.at)) mark

differ : class.Integer ≡ class.Operator signs.Semicolon → ⊥
differ e = cc

differ_mark : class.Integer ≡ class.ByteOrderMark → ⊥
differ_mark e = cc

string_sign : (c : Class) → IsStringClass c → c ≡ class.Operator signs.Semicolon → ⊥
string_sign c h e = elim h [ inl s ↦ cc | inr s ↦ cc ]

string_mark : (c : Class) → IsStringClass c → c ≡ class.ByteOrderMark → ⊥
string_mark c h e = elim h [ inl s ↦ cc | inr s ↦ cc ]

number_spelled : (f : SourceFile) (p : ℕ) → IsSourceFile f → Holds kind.Number p (kinds_of f.cut) → IsKnown (literal_number (spelling_of f p))
number_spelled f p is h =
    let x = piece_of f p kind.Number h in
    let integer : x.piece.class ≡ class.Integer = number_class x.piece.class (bytes_of f.cut.text x.piece) x.kind_is in
    let stands = stands_in f p kind.Number is x (λ e. differ (sym integer ∙ e)) (λ e. differ_mark (sym integer ∙ e)) in
    subst (λ z. IsKnown (literal_number (spelling_at f.cut.text z))) (sym x.at)
    (integer_known (drop x.piece.span.start f.cut.text) (x.piece.span.end - x.piece.span.start)
    (subst (λ z. Stands (drop x.piece.span.start f.cut.text) z (x.piece.span.end - x.piece.span.start)) integer stands))

text_spelled : (f : SourceFile) (p : ℕ) → IsSourceFile f → Holds kind.Text p (kinds_of f.cut) → (value : List ℕ) × HasLiteral f p value
text_spelled f p is h =
    let x = piece_of f p kind.Text h in
    let string : IsStringClass x.piece.class = text_class x.piece.class (bytes_of f.cut.text x.piece) x.kind_is in
    let stands = stands_in f p kind.Text is x (string_sign x.piece.class string) (string_mark x.piece.class string) in
    let value = string_value x.piece.class (bytes_of f.cut.text x.piece) string stands.piece in
    let token : token_at f.cut p ≡ x.piece = get_or_from_slice_get (tokens_in f.cut) p x.piece (semicolon 0) x.at in (
      value.0,
      record {
        is_string = subst (λ (z : Piece). IsStringClass z.class) (sym token) string;
        stands_for = subst (λ (z : Piece). HasStringValue (bytes_of f.cut.text z) value.0) (sym token) value.1;
      },
    )

text_there : (f : SourceFile) (p : ℕ) (o : Option (List ℕ)) → IsTextAt f p o → (value : List ℕ) × HasLiteral f p value → IsKnown o
text_there f p None h v = absurd (h v.0 v.1)
text_there f p (Some value) h v = (value, refl)

-- in a function of a file

asked : (k : Kind) (p : ℕ) (f : SourceFile) → IsSourceFile f → Holds k p (flatten f.tree) → Holds k p (kinds_of f.cut)
asked k p f is h = subst (λ z. Holds k p z) is.is_tree.written h

pub integer_asked : (w : World) (is_init : ℕ → Bool) (f : SourceFile) (g : FuncTree) (before at : Locals) (n : ℕ) → IsSourceFile f →
    IsFunctionIn w is_init before f.tree.decls g at → FunctionAsks w at g (OfInteger n) →
    IsKnown (literal_number (spelling_of f n))
integer_asked w is_init f g before at n is there a =
    number_spelled f n is (asked kind.Number n f is (file_written w is_init f.tree g before at (OfInteger n) there a))

pub text_asked : (w : World) (is_init : ℕ → Bool) (f : SourceFile) (g : FuncTree) (before at : Locals) (n : ℕ) (o : Option (List ℕ)) → IsSourceFile f →
    IsFunctionIn w is_init before f.tree.decls g at → FunctionAsks w at g (OfText n) →
    IsTextAt f n o → IsKnown o
text_asked w is_init f g before at n o is there a text =
    text_there f n o text (text_spelled f n is (asked kind.Text n f is (file_written w is_init f.tree g before at (OfText n) there a)))
