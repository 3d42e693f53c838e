-- How tokens of the kinds of names, `_` and strings are spelled, and that strings have values.
use Rattle.std.proofs.Common.{ℕ, zero, suc, ◌≡◌, ◌+◌, ◌⊎◌, inl, inr, Bool, true, false, ◌==◌, cond, List, [], ◌∷◌, length, Some, ap, sym, subst, refl, ◌∙◌}
use Rattle.std.specs.Prelude.{slice_get, flat_map}
use Rattle.std.specs.Cmp.Lexicographic.{pointwise, bytes_decides}
use Rattle.std.proofs.lemmas.Bool.{cases_lt}
use Rattle.std.proofs.lemmas.Option.{none-some, same_Some, slice_get-get_or, get_or_from_slice_get}
use Rattle.std.proofs.lemmas.List.{get_or_past}
use Rattle.go_scanner.specs.declared.keywords.Keyword.{Keyword}
use Rattle.go_scanner.specs.declared.keywords.Keyword.TheVariants as word
use Rattle.go_scanner.specs.declared.operators.Operator.{Operator}
use Rattle.go_scanner.specs.declared.operators.Operator.TheVariants as signs
use Rattle.go_scanner.specs.declared.piece.Class.{Class}
use Rattle.go_scanner.specs.declared.piece.Class.TheVariants as class
use Rattle.go_scanner.specs.declared.piece.Piece.{Piece}
use Rattle.go_scanner.specs.Cuts.{bytes_of}
use Rattle.go_scanner.specs.CutText.{CutText, tokens_in, token_at}
use Rattle.go_scanner.specs.Pieces.{IsPiece}
use Rattle.go_scanner.specs.Spans.{IsTokenText}
use Rattle.go_scanner.specs.StringValues.{part_value, raw_value, HasStringValue}
use Rattle.go_scanner.specs.Strings.{IsString, IsRawString}
use Rattle.go_scanner.specs.TokenValues.{IsStringClass}
use Rattle.go_scanner.specs.Tokens.{semicolon}
use Rattle.go_scanner.proofs.SpanLemmas.{cut_tokens}
use Rattle.go_ast.specs.declared.syntax.Kind.{Kind}
use Rattle.go_ast.specs.declared.syntax.Kind.TheVariants as kind
use Rattle.go_ast.specs.declared.syntax.Token.{Token}
use Rattle.go_ast.specs.Kinds.{kind_of_keyword, kind_of_operator, kind_of, kinds_from}
use Rattle.go_ast.specs.SourceFile.{SourceFile, IsSourceFile, spelling_at, spelling_of}
use Rattle.law_tokens.specs.Roles.{IsOfKind}
use Rattle.law_tokens.proofs.Elements.{all_got}

-- the piece of a token

record IsPieceOf (c : CutText) (i : ℕ) (k : Kind) : Type 0 where
  piece : Piece
  at : slice_get (tokens_in c) i ≡ Some piece
  kind_is : kind_of piece.class (bytes_of c.text piece) ≡ k

piece_at : (n : ℕ) (text : List ℕ) (ps : List Piece) (i : ℕ) (t : Token) → slice_get (kinds_from n text ps) i ≡ Some t →
    (x : Piece) × ((slice_get ps i ≡ Some x) × (kind_of x.class (bytes_of text x) ≡ t.kind))
unfolding kinds_from
piece_at n text [] i t e = absurd (none-some t e)
piece_at n text (x ∷ ps) zero t e = (x, (refl, ap (λ (z : Token). z.kind) (same_Some (record { kind = kind_of x.class (bytes_of text x); place = n }) t e)))
piece_at n text (x ∷ ps) (suc i) t e = piece_at (n + 1) text ps i t e

piece_of : (c : CutText) (i : ℕ) (k : Kind) → IsOfKind c i k → IsPieceOf c i k
piece_of c i k h =
    let x = piece_at 0 c.text (tokens_in c) i h.0 h.1.0 in record { piece = x.0; at = x.1.0; kind_is = x.1.1 ∙ h.1.1 }

-- names and `_`

word_other : {A : Type 0} (k : Keyword) (x : Kind) → (x ≡ kind.Name) ⊎ ((x ≡ kind.Blank) ⊎ (x ≡ kind.Text)) → kind_of_keyword k ≡ x → A
word_other word.Break x o e = elim o [ inl n ↦ cc | inr r ↦ elim r [ inl n ↦ cc | inr n ↦ cc ] ]
word_other _ x o e = elim o [ inl n ↦ cc | inr r ↦ elim r [ inl n ↦ cc | inr n ↦ cc ] ]

sign_other : {A : Type 0} (k : Operator) (x : Kind) → (x ≡ kind.Name) ⊎ ((x ≡ kind.Blank) ⊎ (x ≡ kind.Text)) → kind_of_operator k ≡ x → A
sign_other signs.LeftParen x o e = elim o [ inl n ↦ cc | inr r ↦ elim r [ inl n ↦ cc | inr n ↦ cc ] ]
sign_other _ x o e = elim o [ inl n ↦ cc | inr r ↦ elim r [ inl n ↦ cc | inr n ↦ cc ] ]

name_class : (c : Class) → kind_of c (95 ∷ []) ≡ kind.Name → ⊥
name_class class.Name e = cc
name_class (class.Keyword k) e = word_other k kind.Name (inl refl) e
name_class class.Integer e = cc
name_class class.InterpretedString e = cc
name_class class.RawString e = cc
name_class (class.Operator o) e = sign_other o kind.Name (inl refl) e
name_class _ e = cc

by_test : (b : Bool) → cond b kind.Blank kind.Name ≡ kind.Blank → b ≡ true
by_test true e = refl
by_test false e = let z : ⊥ = cc in absurd z

blank_bytes : (c : Class) (bytes : List ℕ) → kind_of c bytes ≡ kind.Blank → bytes ≡ 95 ∷ []
blank_bytes class.Name bytes e = (bytes_decides bytes (95 ∷ [])).0 (by_test (pointwise ◌==◌ bytes (95 ∷ [])) e)
blank_bytes (class.Keyword k) bytes e = word_other k kind.Blank (inr (inl refl)) e
blank_bytes class.Integer bytes e = let z : ⊥ = cc in absurd z
blank_bytes class.InterpretedString bytes e = let z : ⊥ = cc in absurd z
blank_bytes class.RawString bytes e = let z : ⊥ = cc in absurd z
blank_bytes (class.Operator o) bytes e = sign_other o kind.Blank (inr (inl refl)) e
blank_bytes _ bytes e = let z : ⊥ = cc in absurd z

pub name_spelled : (s : SourceFile) (i : ℕ) → IsOfKind s.cut i kind.Name → spelling_of s i ≡ 95 ∷ [] → ⊥
name_spelled s i h e =
    let x = piece_of s.cut i kind.Name h in
    let bytes : bytes_of s.cut.text x.piece ≡ 95 ∷ [] = sym (ap (spelling_at s.cut.text) x.at) ∙ e in
    name_class x.piece.class (subst (λ b. kind_of x.piece.class b ≡ kind.Name) bytes x.kind_is)

pub blank_spelled : (s : SourceFile) (i : ℕ) → IsOfKind s.cut i kind.Blank → spelling_of s i ≡ 95 ∷ []
blank_spelled s i h =
    let x = piece_of s.cut i kind.Blank h in
    ap (spelling_at s.cut.text) x.at ∙ blank_bytes x.piece.class (bytes_of s.cut.text x.piece) x.kind_is

-- strings

text_class : (c : Class) (bytes : List ℕ) → kind_of c bytes ≡ kind.Text → IsStringClass c
text_class class.Name bytes e = no_name (pointwise ◌==◌ bytes (95 ∷ [])) e
  where
    no_name : {A : Type 0} (b : Bool) → cond b kind.Blank kind.Name ≡ kind.Text → A
    no_name true q = cc
    no_name false q = cc
text_class (class.Keyword k) bytes e = word_other k kind.Text (inr (inr refl)) e
text_class class.Integer bytes e = cc
text_class class.InterpretedString bytes e = inl refl
text_class class.RawString bytes e = inr refl
text_class (class.Operator o) bytes e = sign_other o kind.Text (inr (inr refl)) e
text_class _ bytes e = cc

pub text_is_string : (c : CutText) (i : ℕ) → IsOfKind c i kind.Text → IsStringClass (token_at c i).class
text_is_string c i h =
    let x = piece_of c i kind.Text h in
    let token : token_at c i ≡ x.piece = get_or_from_slice_get (tokens_in c) i x.piece (semicolon 0) x.at in
    subst (λ (z : Piece). IsStringClass z.class) (sym token) (text_class x.piece.class (bytes_of c.text x.piece) x.kind_is)

string_value : (c : Class) (bytes : List ℕ) → IsStringClass c → IsPiece c bytes → (value : List ℕ) × HasStringValue bytes value
string_value c bytes k p = elim k [
  | inl e ↦ (let s : IsString bytes = subst (λ z. IsPiece z bytes) e p in (flat_map part_value s.parts, inl (s, refl)))
  | inr e ↦ (let s : IsRawString bytes = subst (λ z. IsPiece z bytes) e p in (raw_value s.body, inr (s, refl)))
]

not_sign : {A : Type 0} (c : Class) → IsStringClass c → c ≡ class.Operator signs.Semicolon → A
not_sign c h e = elim h [ inl s ↦ cc | inr s ↦ cc ]

pub string_known : (s : SourceFile) → IsSourceFile s → (i : ℕ) → IsStringClass (token_at s.cut i).class →
    (value : List ℕ) × HasStringValue (bytes_of s.cut.text (token_at s.cut i)) value
string_known s is i string = elim (cases_lt i (length (tokens_in s.cut))) [
  | inl lt ↦
      let x = token_at s.cut i in
      let text : IsTokenText x.class (bytes_of s.cut.text x) =
      all_got (λ (t : Piece). IsTokenText t.class (bytes_of s.cut.text t)) (tokens_in s.cut) i x (cut_tokens s.cut.text s.cut.pieces is.is_cut)
      (slice_get-get_or (tokens_in s.cut) i (semicolon 0) lt) in
      elim text [ inl piece ↦ string_value x.class (bytes_of s.cut.text x) string piece | inr sign ↦ not_sign x.class string sign.0 ]
  | inr ge ↦ not_sign (token_at s.cut i).class string (ap (λ (z : Piece). z.class) (get_or_past (tokens_in s.cut) i (semicolon 0) ge))
]
