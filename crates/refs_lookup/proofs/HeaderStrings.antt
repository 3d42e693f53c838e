-- The strings among the identifiers of a file are the literals of its imports.
use Rattle.std.proofs.Common.{ℕ, suc, ◌≡◌, ◌+◌, inl, inr, List, [], ◌∷◌, ◌++◌, Option, Some, None, Bool, true, false, map, get_or, ap, sym, subst, refl}
use Rattle.std.proofs.Common.{◌∙◌, arith}
use Rattle.std.specs.Prelude.{Contains, cond, slice_get}
use Rattle.std.specs.List.{AllByRecursion, flat_map}
use Rattle.std.proofs.lemmas.Bool.{true≢false}
use Rattle.std.proofs.lemmas.List.Elements.{All-contains, All-contains_itself, All-from_recursion, recursion_from_All}
use Rattle.std.proofs.lemmas.Option.{get_or_from_slice_get}
use Rattle.base_lemmas.proofs.EachElement.{all_append, all_front, all_back}
use Rattle.go_scanner.specs.declared.piece.Class.{Class}
use Rattle.go_scanner.specs.declared.piece.Piece.{Piece}
use Rattle.go_scanner.specs.Cuts.{bytes_of}
use Rattle.go_scanner.specs.CutText.{CutText, tokens_in, token_at}
use Rattle.go_scanner.specs.Tokens.{semicolon}
use Rattle.go_scanner.specs.TokenValues.{IsStringClass}
use Rattle.go_ast.specs.declared.syntax.Kind.{Kind}
use Rattle.go_ast.specs.declared.syntax.Kind.TheVariants as kind
use Rattle.go_ast.specs.declared.syntax.Token.{Token}
use Rattle.go_ast.specs.Flatten.{sign, sign_if, all_tokens, list_tokens, group_tokens, import_tokens, imports_tokens, decl_tokens, flatten}
use Rattle.go_ast.specs.Kinds.{kind_of, kinds_from, kinds_of}
use Rattle.go_ast.specs.Tree.{Item, Group, single, several, ImportTree, ImportsTree, DeclTree, VarDecl, TypeDecl, FuncDecl, FileTree}
use Rattle.workspace_graph.specs.FileImports.{paths_in, import_literals}
use Rattle.go_scope.specs.IdentifierTokens.{is_ident_token, is_header_name}
use Rattle.law_tokens.specs.Tokens.{begins_declaration, names_among, identifiers_among}

-- of the identifiers among tokens

module _ (P : Token → Type 0) where
  chosen : (declares header : Bool) (t : Token) (names others : List Token) → P t → AllByRecursion P names → AllByRecursion P others →
      AllByRecursion P (cond declares names (cond header (t ∷ others) others))
  chosen true header t names others h n o = n
  chosen false true t names others h n o = (h, o)
  chosen false false t names others h n o = o

  kept : (b : Bool) (t : Token) (ts : List Token) → (b ≡ true → P t) → AllByRecursion P ts → AllByRecursion P (cond b (t ∷ ts) ts)
  kept true t ts h a = (h refl, a)
  kept false t ts h a = a

  names_by : ((t : Token) → is_ident_token t.kind ≡ true → P t) → (ts : List Token) → AllByRecursion P (names_among ts)
  names_by h [] = tt
  names_by h (t ∷ ts) = kept (is_ident_token t.kind) t (names_among ts) (h t) (names_by h ts)

  names_of : (ts : List Token) → AllByRecursion P ts → AllByRecursion P (names_among ts)
  names_of [] a = tt
  names_of (t ∷ ts) a = kept (is_ident_token t.kind) t (names_among ts) (λ e. a.0) (names_of ts a.1)

  pub identifiers_of : (ts : List Token) → AllByRecursion P ts → AllByRecursion P (identifiers_among ts)
  unfolding identifiers_among
  identifiers_of [] a = tt
  identifiers_of (t ∷ ts) a =
      chosen (begins_declaration t.kind) (is_header_name t.kind) t (names_among ts) (identifiers_among ts) a.0 (names_of ts a.1) (identifiers_of ts a.1)

-- a string among them stands at a number of which R holds

module _ (R : ℕ → Type 0) where
  abbrev Tells : Token → Type 0
  Tells t = t.kind ≡ kind.Text → R t.place

  abbrev AllTell : List Token → Type 0
  AllTell ts = AllByRecursion Tells ts

  no_string : (k : Kind) → is_ident_token k ≡ true → k ≡ kind.Text → ⊥
  no_string k e text = true≢false (sym e ∙ ap is_ident_token text)

  names_tell : (ts : List Token) → AllTell (names_among ts)
  names_tell ts = names_by Tells (λ t e text. absurd (no_string t.kind e text)) ts

  header_tells : (hs ds : List Token) → AllTell hs → AllTell (identifiers_among ds) → AllTell (identifiers_among (hs ++ ds))
  unfolding identifiers_among
  header_tells [] ds h d = d
  header_tells (t ∷ hs) ds h d =
      chosen Tells (begins_declaration t.kind) (is_header_name t.kind) t (names_among (hs ++ ds)) (identifiers_among (hs ++ ds)) h.0 (names_tell (hs ++ ds))
      (header_tells hs ds h.1 d)

  decls_tell : (ds : List DeclTree) → AllTell (identifiers_among (all_tokens decl_tokens ds))
  unfolding identifiers_among all_tokens decl_tokens
  decls_tell [] = tt
  decls_tell (VarDecl k g s ∷ ds) = names_tell (all_tokens decl_tokens (VarDecl k g s ∷ ds))
  decls_tell (TypeDecl k g s ∷ ds) = names_tell (all_tokens decl_tokens (TypeDecl k g s ∷ ds))
  decls_tell (FuncDecl k f s ∷ ds) = names_tell (all_tokens decl_tokens (FuncDecl k f s ∷ ds))

  other_tells : (k : Kind) (p : ℕ) → (k ≡ kind.Text → ⊥) → AllTell (sign k p ∷ [])
  other_tells k p n = ((λ e. absurd (n e)), tt)

  other_if_tells : (k : Kind) (p : Option ℕ) → (k ≡ kind.Text → ⊥) → AllTell (sign_if k p)
  other_if_tells k None n = tt
  other_if_tells k (Some p) n = other_tells k p n

  import_tells : (i : ImportTree) → R i.path → AllTell (import_tokens i)
  unfolding import_tokens
  import_tells i r = all_append Tells (sign_if kind.Name i.name) (sign kind.Text i.path ∷ []) (other_if_tells kind.Name i.name (λ e. cc)) ((λ e. r), tt)

  items_tell : (xs : List (Item ImportTree)) → AllByRecursion R (map (λ item. item.value.path) xs) → AllTell (list_tokens kind.Semicolon import_tokens xs)
  unfolding all_tokens
  items_tell [] r = tt
  items_tell (x ∷ xs) r =
      all_append Tells (import_tokens x.value ++ sign_if kind.Semicolon x.separator) (list_tokens kind.Semicolon import_tokens xs)
      (all_append Tells (import_tokens x.value) (sign_if kind.Semicolon x.separator) (import_tells x.value r.0)
      (other_if_tells kind.Semicolon x.separator (λ e. cc))) (items_tell xs r.1)

  group_tells : (g : Group ImportTree) → AllByRecursion R (paths_in g) → AllTell (group_tokens import_tokens g)
  unfolding group_tokens
  group_tells (single i) r = import_tells i r.0
  group_tells (several o xs c) r = (
    λ e. absurd (let z : ⊥ = cc in z),
    all_append Tells (list_tokens kind.Semicolon import_tokens xs) (sign kind.RightParen c ∷ []) (items_tell xs r) (other_tells kind.RightParen c (λ e. cc)),
  )

  imports_tell : (is : List ImportsTree) → AllByRecursion R (flat_map (λ d. paths_in d.imports) is) → AllTell (all_tokens imports_tokens is)
  unfolding all_tokens imports_tokens
  imports_tell [] r = tt
  imports_tell (i ∷ is) r =
      let others = flat_map (λ (d : ImportsTree). paths_in d.imports) is in
      all_append Tells (imports_tokens i) (all_tokens imports_tokens is) (
        (λ e. absurd (let z : ⊥ = cc in z)),
        all_append Tells (group_tokens import_tokens i.imports) (sign kind.Semicolon i.semicolon ∷ [])
            (group_tells i.imports (all_front R (paths_in i.imports) others r))
            (other_tells kind.Semicolon i.semicolon (λ e. cc)),
      )
      (imports_tell is (all_back R (paths_in i.imports) others r))

  file_tells : (f : FileTree) → AllByRecursion R (import_literals f) → AllTell (identifiers_among (flatten f))
  unfolding flatten identifiers_among
  file_tells f r = (
    (λ e. absurd (let z : ⊥ = cc in z)),
    header_tells (all_tokens imports_tokens f.imports) (all_tokens decl_tokens f.decls) (imports_tell f.imports r) (decls_tell f.decls),
  )

-- a string of a cut is of that kind

string_kind : (c : Class) (bytes : List ℕ) → IsStringClass c → kind_of c bytes ≡ kind.Text
string_kind c bytes h = elim h [ inl e ↦ ap (λ x. kind_of x bytes) e | inr e ↦ ap (λ x. kind_of x bytes) e ]

abbrev IsTextIfString : List Piece → Token → Type 0
IsTextIfString whole t = IsStringClass (get_or whole t.place (semicolon 0)).class → t.kind ≡ kind.Text

kinds_tell : (whole : List Piece) (n : ℕ) (text : List ℕ) (ps : List Piece) →
    ((j : ℕ) (p : Piece) → slice_get ps j ≡ Some p → get_or whole (n + j) (semicolon 0) ≡ p) → AllByRecursion (IsTextIfString whole) (kinds_from n text ps)
unfolding kinds_from
kinds_tell whole n text [] at = tt
kinds_tell whole n text (p ∷ ps) at = (
  λ s.
      let zero_more : n + 0 ≡ n = omega arith in
      let here : get_or whole n (semicolon 0) ≡ p = subst (λ k. get_or whole k (semicolon 0) ≡ p) zero_more (at 0 p refl) in
      string_kind p.class (bytes_of text p) (subst (λ (x : Piece). IsStringClass x.class) here s),
  kinds_tell whole (n + 1) text ps
      (λ j q is.
      let more : n + suc j ≡ n + 1 + j = omega arith in
      subst (λ k. get_or whole k (semicolon 0) ≡ q) more (at (suc j) q is)),
)

kinds_are : (c : CutText) → AllByRecursion (IsTextIfString (tokens_in c)) (kinds_of c)
kinds_are c =
    kinds_tell (tokens_in c) 0 c.text (tokens_in c)
    (λ j p is.
    let none_less : j ≡ 0 + j = omega arith in
    subst (λ k. get_or (tokens_in c) k (semicolon 0) ≡ p) none_less (get_or_from_slice_get (tokens_in c) j p (semicolon 0) is))

-- a string that stands at an identifier of a file is the literal of an import

pub is_import_literal : (f : FileTree) (c : CutText) → flatten f ≡ kinds_of c → (t : Token) → Contains (identifiers_among (kinds_of c)) t →
    IsStringClass (token_at c t.place).class → Contains (import_literals f) t.place
is_import_literal f c written t among string =
    let P : Token → Type 0 = IsTextIfString (tokens_in c) in
    let ts = identifiers_among (kinds_of c) in
    let text : t.kind ≡ kind.Text = All-contains P ts t (All-from_recursion P ts (identifiers_of P (kinds_of c) (kinds_are c))) among string in
    let R : ℕ → Type 0 = Contains (import_literals f) in
    let own : AllByRecursion R (import_literals f) = recursion_from_All R (import_literals f) (All-contains_itself (import_literals f)) in
    let all : AllByRecursion (Tells R) ts = subst (λ us. AllByRecursion (Tells R) (identifiers_among us)) written (file_tells R f own) in
    All-contains (Tells R) ts t (All-from_recursion (Tells R) ts all) among text
