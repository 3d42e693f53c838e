-- The literal of an import without a name, in the text of its file, where a name may be put before it.
use Rattle.std.proofs.Common.{ℕ, zero, suc, ◌≡◌, ◌+◌, ◌-◌, ◌≤◌, inl, inr, List, [], ◌∷◌, ◌++◌, Some, None, Bool, true, false, length, take, drop}
use Rattle.std.proofs.Common.{refl, sym, ap, ◌∙◌, subst, arith, ⊎_elim, cond}
use Rattle.std.specs.Prelude.{slice_get, ◌==◌}
use Rattle.std.specs.Cmp.Lexicographic.{pointwise}
use Rattle.std.specs.List.{AllByRecursion, Contains}
use Rattle.std.proofs.lemmas.List.{length-drop, length-take-le, take-append-drop}
use Rattle.std.proofs.lemmas.List.Elements.{All-from_recursion, recursion_from_All}
use Rattle.std.proofs.lemmas.Option.{none-some, same_Some}
use Rattle.base_lemmas.proofs.EachElement.{all_front, all_from_each}
use Rattle.go_scanner.specs.declared.keywords.Keyword.{Keyword}
use Rattle.go_scanner.specs.declared.keywords.Keyword.TheVariants as word
use Rattle.go_scanner.specs.declared.operators.Operator.{Operator}
use Rattle.go_scanner.specs.declared.operators.Operator.TheVariants as operators
use Rattle.go_scanner.specs.declared.piece.Class.{Class}
use Rattle.go_scanner.specs.declared.piece.Class.TheVariants as class
use Rattle.go_scanner.specs.declared.piece.Piece.{Piece}
use Rattle.go_scanner.specs.Cuts.{IsCut, bytes_of}
use Rattle.go_scanner.specs.CutText.{CutText, tokens_in}
use Rattle.go_scanner.specs.Pieces.{IsPiece}
use Rattle.go_scanner.specs.TokenValues.{IsStringClass}
use Rattle.go_scanner.proofs.SpanLemmas.{covers_at, cut_covers}
use Rattle.go_respelled.specs.Literals.{piece_at}
use Rattle.go_ast.specs.declared.syntax.Kind.{Kind}
use Rattle.go_ast.specs.declared.syntax.Kind.TheVariants as kind
use Rattle.go_ast.specs.declared.syntax.Token.{Token}
use Rattle.go_ast.specs.Flatten.{flatten, sign}
use Rattle.go_ast.specs.Kinds.{kind_of, kind_of_keyword, kind_of_operator, kinds_from, kinds_of}
use Rattle.go_ast.specs.SourceFile.{IsSourceFile, SourceFile, offset_at, offset_of}
use Rattle.go_ast.specs.Tree.{ImportTree}
use Rattle.types_declared.specs.Files.{imports_in}
use Rattle.go_respelled.proofs.Places.{Parts, parts}
use Rattle.go_respelled.proofs.Spelled.{held_at}
use Rattle.go_respelled.proofs.Trees.{each_token}
use Rattle.law_rename.specs.Around.{AroundImport, bare_import, file_with}
use Rattle.law_rename.specs.Named.{NamePut, before_put, literal_piece}
use Rattle.law_rename.specs.Put.{IsNoWord, NoWordEndsAt}
use Rattle.law_rename.proofs.NamedTree.{NumberedFrom, bare_tokens, file_split, kinds_numbered, left, numbered_behind, right}
use Rattle.law_rename.specs.MayGain.{MayGain}
use Rattle.law_rename.proofs.TokensBehind.{seam}
use Rattle.law_rename.proofs.Standing.{import_stands}

-- what is of the kind of a string is a string

word_is_none : (k : Keyword) → kind_of_keyword k ≡ kind.Text → ⊥
word_is_none word.Break e = cc
word_is_none _ e = cc

sign_is_none : (o : Operator) → kind_of_operator o ≡ kind.Text → ⊥
sign_is_none operators.LeftParen e = cc
sign_is_none _ e = cc

name_is_none : (b : Bool) → cond b kind.Blank kind.Name ≡ kind.Text → ⊥
name_is_none true e = cc
name_is_none false e = cc

string_class : (c : Class) (bytes : List ℕ) → kind_of c bytes ≡ kind.Text → IsStringClass c
string_class class.Name bytes e = absurd (name_is_none (pointwise ◌==◌ bytes (95 ∷ [])) e)
string_class (class.Keyword k) bytes e = absurd (word_is_none k e)
string_class (class.Operator o) bytes e = absurd (sign_is_none o e)
string_class class.InterpretedString bytes e = inl refl
string_class class.RawString bytes e = inr refl
string_class _ bytes e = cc

-- the token of a kind, and the piece that it is

pub record IsToken (text : List ℕ) (ts : List Piece) (n : ℕ) (k : Kind) : Type 0 where
  pub piece : Piece
  pub at : slice_get ts n ≡ Some piece
  pub is : kind_of piece.class (bytes_of text piece) ≡ k

pub token_of : (m : ℕ) (text : List ℕ) (ts : List Piece) (n : ℕ) (x : Token) → slice_get (kinds_from m text ts) n ≡ Some x → IsToken text ts n x.kind
unfolding kinds_from
token_of m text [] n x at = absurd (none-some x at)
token_of m text (t ∷ ts) zero x at =
    record { piece = t; at = refl; is = ap (λ (y : Token). y.kind) (same_Some (record { kind = kind_of t.class (bytes_of text t); place = m }) x at) }
token_of m text (t ∷ ts) (suc n) x at = let rest = token_of (m + 1) text ts n x at in record { piece = rest.piece; at = rest.at; is = rest.is }

no_sign : IsStringClass (class.Operator operators.Semicolon) → ⊥
no_sign is = ⊎_elim (λ (e : class.Operator operators.Semicolon ≡ class.InterpretedString). cc)
    (λ (e : class.Operator operators.Semicolon ≡ class.RawString). cc) is

among_pieces : (c : CutText) (n : ℕ) (t : Piece) → slice_get (tokens_in c) n ≡ Some t → IsStringClass t.class → Contains c.pieces t
among_pieces c n t at is =
    let P : Piece → Type 0 = λ q. IsStringClass q.class → Contains c.pieces q in
    let all : AllByRecursion P (tokens_in c) = each_token P (λ place wrong. absurd (no_sign wrong)) c.text c.pieces
    (all_from_each P c.pieces (λ q has string. has)) in
    held_at P (tokens_in c) n t all at is

-- a text, cut at a piece

pub record IsHeld (text : List ℕ) (q : Piece) : Type 0 where
  pub front : List ℕ
  pub rest : List ℕ
  pub begins : length front ≡ q.span.start
  pub is : text ≡ front ++ (bytes_of text q ++ rest)
  pub piece : piece_at q.class (length front) (bytes_of text q) ≡ q

pub held_in : (text : List ℕ) (ps : List Piece) (q : Piece) → IsCut text ps → Contains ps q → IsHeld text q
held_in text ps q cut has =
    let lies = covers_at 0 (length text) ps has.0 q (cut_covers text ps cut) has.1 in
    let same = has.2 in
    let order : q.span.start ≤ q.span.end = subst (λ (x : Piece). x.span.start ≤ x.span.end) same lies.0 in
    let fits : q.span.end ≤ length text = subst (λ (x : Piece). x.span.end ≤ length text) same lies.1 in
    let start : ℕ = q.span.start in
    let size : ℕ = q.span.end - q.span.start in
    let begins : length (take start text) ≡ start = length-take-le start text (omega (arith, order, fits)) in
    let long : length (bytes_of text q) ≡ size = length-take-le size (drop start text) (simp length-drop (omega (arith, order, fits))) in
    let ends : length (take start text) + length (bytes_of text q) ≡ q.span.end = omega (arith, begins, long, order) in
    record {
      front = take start text;
      rest = drop size (drop start text);
      begins = begins;
      is = sym (ap (λ l. take start text ++ l) (take-append-drop size (drop start text)) ∙ take-append-drop start text);
      piece = λ j. record { class = q.class; span = record { start = begins j; end = ends j } };
    }

-- the import's literal

pub bare : (i : ImportTree) → i.name ≡ None → i ≡ bare_import i.path
bare i none = λ j. record { name = none j; path = i.path }

-- the kinds of the file's tokens, about the literal's, and its number
pub record KindsAbout (f : SourceFile) (number : ℕ) (a : AroundImport) : Type 0 where
  pub kinds : kinds_of f.cut ≡ left a ++ sign kind.Text number ∷ right a
  pub size : number ≡ length (left a)

pub kinds_about : (f : SourceFile) (number : ℕ) (a : AroundImport) → IsSourceFile f → f.tree ≡ file_with (bare_import number) a → KindsAbout f number a
kinds_about f number a is tree =
    let there : List Token = sign kind.Text number ∷ right a in
    let kinds : kinds_of f.cut ≡ left a ++ there =
    sym is.is_tree.written ∙ ap flatten tree ∙ file_split (bare_import number) a ∙ ap (λ l. left a ++ (l ++ right a)) (bare_tokens number) in
    let order : NumberedFrom 0 (left a ++ there) = subst (NumberedFrom 0) kinds (kinds_numbered 0 f.cut.text (tokens_in f.cut)) in
    let place : number ≡ 0 + length (left a) = (numbered_behind 0 (left a) there order).0 in
    record { kinds = kinds; size = omega (arith, place) }

pub literal_token : (f : SourceFile) (number : ℕ) (a : AroundImport) → KindsAbout f number a →
    IsToken f.cut.text (tokens_in f.cut) number kind.Text
literal_token f number a about = token_of 0 f.cut.text (tokens_in f.cut) number (sign kind.Text number)
    ((λ j. slice_get (about.kinds j) (about.size j)) ∙ seam (left a) (right a) (sign kind.Text number))

-- the text and the tree around it, by its piece

gains_by : (f : SourceFile) (number : ℕ) (a : AroundImport) (name : List ℕ) (blank_first : Bool) (q : Piece) → Parts f.cut.pieces q →
    IsHeld f.cut.text q → IsCut f.cut.text f.cut.pieces → slice_get (tokens_in f.cut) number ≡ Some q → IsStringClass q.class →
    f.tree ≡ file_with (bare_import number) a → IsPiece class.Name name →
    (blank_first ≡ false → NoWordEndsAt (offset_of f number) f.cut.pieces) → MayGain f number name blank_first
gains_by f number a name blank_first q split held cut at string tree is_word apart =
    let put : NamePut = record {
      front = held.front;
      literal = bytes_of f.cut.text q;
      rest = held.rest;
      before = split.before;
      class = q.class;
      after = split.after;
      blank_first = blank_first;
      name = name;
    } in
    let pieces : f.cut.pieces ≡ (before_put put).pieces = split.whole ∙ ap (λ (x : Piece). split.before ++ x ∷ split.after) (sym held.piece) in
    let text : f.cut.text ≡ (before_put put).text = held.is in
    let same : f.cut ≡ before_put put = λ j. record { text = text j; pieces = pieces j } in
    let begins : offset_of f number ≡ length held.front = ap (offset_at f.cut.text) at ∙ sym held.begins in
    let P : Piece → Type 0 = λ p. p.span.end ≡ length held.front → IsNoWord p.class in
    record {
      put = put;
      around = a;
      may = record {
        is_name = is_word;
        is_string = string;
        apart = λ joined.
            let all = recursion_from_All P f.cut.pieces (subst (λ (n : ℕ). NoWordEndsAt n f.cut.pieces) begins (apart joined)) in
            All-from_recursion P split.before (all_front P split.before (q ∷ split.after) (subst (AllByRecursion P) split.whole all));
        is_cut = subst (λ (c : CutText). IsCut c.text c.pieces) same cut;
      };
      named = refl;
      blank = refl;
      cut_is = same;
      tree_is = tree;
      literal = subst (λ (c : CutText). slice_get (tokens_in c) number ≡ Some (literal_piece put)) same (at ∙ ap Some (sym held.piece));
    }

pub gains : (f : SourceFile) (i : ImportTree) (name : List ℕ) (blank_first : Bool) → IsSourceFile f → Contains (imports_in f.tree) i → i.name ≡ None →
    IsPiece class.Name name → (blank_first ≡ false → NoWordEndsAt (offset_of f i.path) f.cut.pieces) → MayGain f i.path name blank_first
gains f i name blank_first is has none is_word apart =
    let stands = import_stands f.tree i has in
    let tree : f.tree ≡ file_with (bare_import i.path) stands.0 = stands.1 ∙ ap (λ (x : ImportTree). file_with x stands.0) (bare i none) in
    let token = literal_token f i.path stands.0 (kinds_about f i.path stands.0 is tree) in
    let q : Piece = token.piece in
    let string : IsStringClass q.class = string_class q.class (bytes_of f.cut.text q) token.is in
    let in_pieces = among_pieces f.cut i.path q token.at string in
    gains_by f i.path stands.0 name blank_first q (parts f.cut.pieces q in_pieces)
    (held_in f.cut.text f.cut.pieces q is.is_cut in_pieces) is.is_cut token.at string tree is_word apart
