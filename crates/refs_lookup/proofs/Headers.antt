-- An identifier before a dot in a file is a name or `_`, and no import's path literal.
use Rattle.std.proofs.Common.{ℕ, suc, ◌≡◌, ◌≤◌, ◌⊎◌, inl, inr, List, [], ◌∷◌, ◌++◌, Option, Some, None, Bool, true, false, ap, sym, ◌∙◌, refl, subst, arith}
use Rattle.std.specs.Prelude.{cond}
use Rattle.std.specs.List.{AllByRecursion}
use Rattle.std.proofs.lemmas.Bool.{true≢false}
use Rattle.go_scanner.specs.CutText.{tokens_in}
use Rattle.go_ast.specs.declared.syntax.Kind.{Kind}
use Rattle.go_ast.specs.declared.syntax.Kind.TheVariants as kind
use Rattle.go_ast.specs.declared.syntax.Token.{Token}
use Rattle.go_ast.specs.Flatten.{sign, sign_if, all_tokens, item_tokens, list_tokens, group_tokens, import_tokens, imports_tokens, decl_tokens, flatten}
use Rattle.go_ast.specs.Kinds.{kinds_of}
use Rattle.go_ast.specs.SourceFile.{SourceFile, IsSourceFile}
use Rattle.go_ast.specs.Tree.{Item, Group, single, several, ImportTree, ImportsTree, DeclTree, VarDecl, TypeDecl, FuncDecl, FileTree}
use Rattle.law_tokens.specs.Roles.{IsOfKind}
use Rattle.go_scope.specs.IdentifierTokens.{is_ident_token, is_header_name}
use Rattle.law_tokens.specs.Tokens.{begins_declaration, names_among, identifiers_among}
use Rattle.go_scope.proofs.Covers.{is_link}
use Rattle.law_tokens.proofs.Links.{AreConsecutive, HasKind, kind_from}
use Rattle.law_tokens.proofs.Places.{Marks}
use Rattle.law_tokens.proofs.Roles.{consecutive, of_kind, by_kind}

-- no dot and no colon stands among the tokens of imports

abbrev Unlinked : List Token → Type 0
Unlinked ts = AllByRecursion (λ t. is_link t.kind ≡ false) ts

unlinked_append : (ts us : List Token) → Unlinked ts → Unlinked us → Unlinked (ts ++ us)
unlinked_append [] us a b = b
unlinked_append (t ∷ ts) us a b = (a.0, unlinked_append ts us a.1 b)

unlinked_if : (k : Kind) (p : Option ℕ) → is_link k ≡ false → Unlinked (sign_if k p)
unlinked_if k None h = tt
unlinked_if k (Some p) h = (h, tt)

unlinked_all : {X : Type 0} (t : X → List Token) → ((x : X) → Unlinked (t x)) → (xs : List X) → Unlinked (all_tokens t xs)
unfolding all_tokens
unlinked_all t h [] = tt
unlinked_all t h (x ∷ xs) = unlinked_append (t x) (all_tokens t xs) (h x) (unlinked_all t h xs)

unlinked_import : (i : ImportTree) → Unlinked (import_tokens i)
unfolding import_tokens
unlinked_import i = unlinked_append (sign_if kind.Name i.name) (sign kind.Text i.path ∷ []) (unlinked_if kind.Name i.name refl) (refl, tt)

unlinked_item : (x : Item ImportTree) → Unlinked (item_tokens kind.Semicolon import_tokens x)
unlinked_item x =
    unlinked_append (import_tokens x.value) (sign_if kind.Semicolon x.separator) (unlinked_import x.value) (unlinked_if kind.Semicolon x.separator refl)

unlinked_group : (g : Group ImportTree) → Unlinked (group_tokens import_tokens g)
unfolding group_tokens
unlinked_group (single i) = unlinked_import i
unlinked_group (several o xs c) = (
  refl,
  unlinked_append (list_tokens kind.Semicolon import_tokens xs) (sign kind.RightParen c ∷ [])
      (unlinked_all (item_tokens kind.Semicolon import_tokens) unlinked_item xs) (refl, tt),
)

unlinked_imports : (i : ImportsTree) → Unlinked (imports_tokens i)
unfolding imports_tokens
unlinked_imports i = (
  refl,
  unlinked_append (group_tokens import_tokens i.imports) (sign kind.Semicolon i.semicolon ∷ []) (unlinked_group i.imports) (refl, tt),
)

-- none stands before the first declaration of a file
abbrev Header : List Token → Type 0
Header [] = Unit {0}
Header (t ∷ ts) = (begins_declaration t.kind ≡ true) ⊎ ((is_link t.kind ≡ false) × Header ts)

header_then : (hs ds : List Token) → Unlinked hs → Header ds → Header (hs ++ ds)
header_then [] ds h d = d
header_then (t ∷ hs) ds h d = inr (h.0, header_then hs ds h.1 d)

header_decls : (ds : List DeclTree) → Header (all_tokens decl_tokens ds)
unfolding all_tokens decl_tokens
header_decls [] = tt
header_decls (VarDecl k g s ∷ ds) = inl refl
header_decls (TypeDecl k g s ∷ ds) = inl refl
header_decls (FuncDecl k f s ∷ ds) = inl refl

header_file : (f : FileTree) → Header (flatten f)
unfolding flatten
header_file f =
    inr (
      refl,
      inr (
        refl,
        inr (
          refl,
          header_then (all_tokens imports_tokens f.imports) (all_tokens decl_tokens f.decls) (unlinked_all imports_tokens unlinked_imports f.imports)
              (header_decls f.decls),
        ),
      ),
    )

-- a name or `_` is the token of that number
abbrev IsNameAt : ℕ → List Token → Type 0
IsNameAt i [] = ⊥
IsNameAt i (t ∷ ts) = ((t.place ≡ i) × (is_ident_token t.kind ≡ true)) ⊎ IsNameAt i ts

kept_mark : (b : Bool) (i : ℕ) (t : Token) (ts : List Token) → Marks i (cond b (t ∷ ts) ts) → ((b ≡ true) × (t.place ≡ i)) ⊎ Marks i ts
kept_mark true i t ts h = elim h [ inl e ↦ inl (refl, e) | inr r ↦ inr r ]
kept_mark false i t ts h = inr h

names_are : (i : ℕ) (ts : List Token) → Marks i (names_among ts) → IsNameAt i ts
names_are i [] h = absurd h
names_are i (t ∷ ts) h = elim (kept_mark (is_ident_token t.kind) i t (names_among ts) h) [ inl q ↦ inl (q.1, q.0) | inr r ↦ inr (names_are i ts r) ]

no_dot_first : (n : ℕ) (ts : List Token) → AreConsecutive n ts → Header ts → HasKind kind.Dot n ts → ⊥
no_dot_first n [] c h d = d
no_dot_first n (t ∷ ts) c h d = elim d [
  | inl here ↦ elim h [
    | inl begins ↦ true≢false (sym begins ∙ ap begins_declaration here.1)
    | inr q ↦ true≢false (sym (ap is_link here.1) ∙ q.0)
  ]
  | inr rest ↦ (let le : suc n ≤ n = kind_from (suc n) ts c.1 kind.Dot n rest in absurd (omega arith))
]

dot_later : (i : ℕ) (t : Token) (ts : List Token) → is_link t.kind ≡ false → HasKind kind.Dot i (t ∷ ts) → HasKind kind.Dot i ts
dot_later i t ts k d = elim d [ inl here ↦ absurd (true≢false (sym (ap is_link here.1) ∙ k)) | inr rest ↦ rest ]

-- before the first declaration no identifier stands before a dot
header_mark : (b : Bool) (n i : ℕ) (t : Token) (ts us : List Token) → AreConsecutive n (t ∷ ts) → Header ts → HasKind kind.Dot (suc i) ts →
    Marks i (cond b (t ∷ us) us) → Marks i us
header_mark b n i t ts us c h d m = elim (kept_mark b i t us m) [
  | inl q ↦
      (let at : t.place ≡ i = q.1 in
      let first : t.place ≡ n = c.0 in absurd (no_dot_first (suc n) ts c.1 h (subst (λ k. HasKind kind.Dot k ts) (omega arith) d)))
  | inr rest ↦ rest
]

by_word : (b : Bool) (n i : ℕ) (t : Token) (ts us : List Token) → begins_declaration t.kind ≡ b → AreConsecutive n (t ∷ ts) → Header (t ∷ ts) →
    HasKind kind.Dot (suc i) (t ∷ ts) → Marks i (cond b (names_among ts) (cond (is_header_name t.kind) (t ∷ us) us)) →
    (Header ts → HasKind kind.Dot (suc i) ts → Marks i us → IsNameAt i ts) → IsNameAt i (t ∷ ts)
by_word true n i t ts us e c h d m next = inr (names_are i ts m)
by_word false n i t ts us e c h d m next = elim h [
  | inl begins ↦ absurd (true≢false (sym begins ∙ e))
  | inr q ↦
      (let later = dot_later (suc i) t ts q.0 d in
      inr (next q.1 later (header_mark (is_header_name t.kind) n i t ts us c q.1 later m)))
]

name_at : (n i : ℕ) (ts : List Token) → AreConsecutive n ts → Header ts → Marks i (identifiers_among ts) → HasKind kind.Dot (suc i) ts → IsNameAt i ts
unfolding identifiers_among
name_at n i [] c h m d = absurd m
name_at n i (t ∷ ts) c h m d =
    by_word (begins_declaration t.kind) n i t ts (identifiers_among ts) refl c h d m (λ rest dot k. name_at (suc n) i ts c.1 rest k dot)

kind_of_name : (i : ℕ) (ts : List Token) → IsNameAt i ts → (k : Kind) × (HasKind k i ts × (is_ident_token k ≡ true))
kind_of_name i [] h = absurd h
kind_of_name i (t ∷ ts) h = elim h [
  | inl q ↦ (t.kind, (inl (q.0, refl), q.1))
  | inr rest ↦ (let k = kind_of_name i ts rest in (k.0, (inr k.1.0, k.1.1)))
]

-- each identifier among tokens is a name, `_` or a string

header_name : (k : Kind) → is_ident_token k ≡ true → is_header_name k ≡ true
header_name kind.Name e = refl
header_name kind.Blank e = refl
header_name k e = absurd (true≢false (sym e))

by_mark : (b : Bool) (i : ℕ) (t : Token) (ts us : List Token) → Marks i (cond b (names_among ts) (cond (is_header_name t.kind) (t ∷ us) us)) →
    (Marks i us → (k : Kind) × (HasKind k i ts × (is_header_name k ≡ true))) → (k : Kind) × (HasKind k i (t ∷ ts) × (is_header_name k ≡ true))
by_mark true i t ts us m next = let k = kind_of_name i ts (names_are i ts m) in (k.0, (inr k.1.0, header_name k.0 k.1.1))
by_mark false i t ts us m next = elim (kept_mark (is_header_name t.kind) i t us m) [
  | inl q ↦ (t.kind, (inl (q.1, refl), q.0))
  | inr rest ↦ (let k = next rest in (k.0, (inr k.1.0, k.1.1)))
]

pub marked_kind : (i : ℕ) (ts : List Token) → Marks i (identifiers_among ts) → (k : Kind) × (HasKind k i ts × (is_header_name k ≡ true))
unfolding identifiers_among
marked_kind i [] m = absurd m
marked_kind i (t ∷ ts) m = by_mark (begins_declaration t.kind) i t ts (identifiers_among ts) m (λ k. marked_kind i ts k)

pub name_before_dot : (s : SourceFile) → IsSourceFile s → (i : ℕ) → Marks i (identifiers_among (kinds_of s.cut)) → IsOfKind s.cut (suc i) kind.Dot →
    (k : Kind) × (IsOfKind s.cut i k × (is_ident_token k ≡ true))
name_before_dot s is i m dot =
    let ts = kinds_of s.cut in
    let header : Header ts = subst Header is.is_tree.written (header_file s.tree) in
    let k = kind_of_name i ts (name_at 0 i ts (consecutive 0 s.cut.text (tokens_in s.cut)) header m (by_kind s.cut kind.Dot (suc i) dot)) in
    (k.0, (of_kind s.cut k.0 i k.1.0, k.1.1))
