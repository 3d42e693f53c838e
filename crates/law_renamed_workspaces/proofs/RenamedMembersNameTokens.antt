-- The tokens at which fields and methods are declared and members are used are names.
use Rattle.std.proofs.Common.{ℕ, suc, ◌≡◌, ◌+◌, ◌⊎◌, inl, inr, true, false, List, [], ◌∷◌, ◌++◌, map, refl, sym, ap, subst}
use Rattle.std.proofs.Common.{◌∙◌, arith}
use Rattle.std.specs.Prelude.{Option, Some, None, slice_get}
use Rattle.std.specs.List.{flat_map, AllByRecursion}
use Rattle.std.proofs.lemmas.Bool.{true≢false}
use Rattle.base_lemmas.proofs.EachElement.{all_append}
use Rattle.go_scanner.specs.Cuts.{bytes_of}
use Rattle.go_scanner.specs.CutText.{CutText, tokens_in}
use Rattle.go_scanner.specs.declared.keywords.Keyword.{Keyword}
use Rattle.go_scanner.specs.declared.keywords.Keyword.TheVariants as word
use Rattle.go_scanner.specs.declared.operators.Operator.{Operator}
use Rattle.go_scanner.specs.declared.operators.Operator.TheVariants as signs
use Rattle.go_scanner.specs.declared.piece.Class.{Class}
use Rattle.go_scanner.specs.declared.piece.Class.TheVariants as class
use Rattle.go_scanner.specs.declared.piece.Piece.{Piece}
use Rattle.go_ast.specs.declared.syntax.Kind.{Kind}
use Rattle.go_ast.specs.declared.syntax.Kind.TheVariants as kind
use Rattle.go_ast.specs.declared.syntax.Token.{Token}
use Rattle.go_ast.specs.Flatten.{sign, sign_if, tokens_if, all_tokens, item_tokens, list_tokens, group_tokens, name_tokens, type_tokens, field_tokens}
use Rattle.go_ast.specs.Flatten.{body_tokens, type_spec_tokens, receiver_tokens, func_tokens, import_tokens, imports_tokens, decl_tokens, flatten}
use Rattle.go_ast.specs.Flatten.{method_tokens}
use Rattle.go_ast.specs.Kinds.{kind_of_keyword, kind_of_operator, kind_of, kinds_from, kinds_of}
use Rattle.go_ast.specs.SourceFile.{SourceFile, IsSourceFile}
use Rattle.go_ast.specs.Tree.{Item, Group, single, several, FieldTree, BodyTree, Other, Struct, Interface, FuncTree, DeclTree, VarDecl, TypeDecl}
use Rattle.go_ast.specs.Tree.{FuncDecl, FileTree, ImportTree, ImportsTree, MethodTree}
use Rattle.go_scope.specs.Site.{Site, TokenSpellings}
use Rattle.go_scope.specs.FileSites.{decl_sites}
use Rattle.law_tokens.specs.Roles.{IsOfKind, FollowsDot}
use Rattle.go_scope.specs.IdentifierTokens.{is_ident_token}
use Rattle.go_scope.proofs.CoveredFiles.{decls_named}
use Rattle.go_scope.proofs.Covers.{Covers, is_link, ends, skips, takes, selects, keys, IsTaken, IsSkipped}
use Rattle.law_tokens.proofs.Links.{AreConsecutive, HasKind}
use Rattle.law_tokens.proofs.Roles.{consecutive, by_kind}
use Rattle.types_declared.specs.Files.{RankedSource, ranked_files, group_items}
use Rattle.types_declared.specs.Definitions.{PlacedField, body_fields, fields_from, package_fields, OfType, OfSignature}
use Rattle.types_declared.specs.Package.{Package, PlacedType, PlacedFunction, placed_type, decl_types, decl_functions, types_in, functions_in, package_types}
use Rattle.types_declared.specs.Package.{package_functions}
use Rattle.types_info.proofs.DeclKinds.{Holds, holds_got, holds_append, holds_flat, holds_map, holds_ranked}
use Rattle.refs_binding.specs.Identifiers.{IsNameToken}

-- A token of that index is a name or `_`.
abbrev pub IsNameAt : ℕ → List Token → Type 0
IsNameAt i [] = ⊥
IsNameAt i (t ∷ ts) = ((t.place ≡ i) × (is_ident_token t.kind ≡ true)) ⊎ IsNameAt i ts

name_left : (n : ℕ) (xs ys : List Token) → IsNameAt n xs → IsNameAt n (xs ++ ys)
name_left n [] ys h = absurd h
name_left n (x ∷ xs) ys h = elim h [ inl e ↦ inl e | inr r ↦ inr (name_left n xs ys r) ]

name_right : (n : ℕ) (xs ys : List Token) → IsNameAt n ys → IsNameAt n (xs ++ ys)
name_right n [] ys h = h
name_right n (x ∷ xs) ys h = inr (name_right n xs ys h)

name_all : {X : Type 0} (n : ℕ) (f : X → List Token) (xs : List X) (x : X) → Holds xs x → IsNameAt n (f x) → IsNameAt n (all_tokens f xs)
unfolding all_tokens
name_all n f [] x h a = absurd h
name_all n f (y ∷ ys) x h a = elim h [
  | inl e ↦ name_left n (f y) (all_tokens f ys) (subst (λ z. IsNameAt n (f z)) (sym e) a)
  | inr r ↦ name_right n (f y) (all_tokens f ys) (name_all n f ys x r a)
]

name_item : {X : Type 0} (n : ℕ) (k : Kind) (f : X → List Token) (xs : List (Item X)) (x : Item X) → Holds xs x → IsNameAt n (f x.value) →
    IsNameAt n (list_tokens k f xs)
name_item n k f xs x h a = name_all n (item_tokens k f) xs x h (name_left n (f x.value) (sign_if k x.separator) a)

name_group : {X : Type 0} (n : ℕ) (f : X → List Token) (g : Group X) (x : X) → Holds (group_items g) x → IsNameAt n (f x) → IsNameAt n (group_tokens f g)
unfolding group_tokens
name_group n f (single y) x h a = elim h [ inl e ↦ subst (λ z. IsNameAt n (f z)) (sym e) a | inr z ↦ absurd z ]
name_group n f (several o xs c) x h a =
    let i = holds_map (λ z. z.value) xs x h in
    inr (name_left n (list_tokens kind.Semicolon f xs) (sign kind.RightParen c ∷ [])
    (name_item n kind.Semicolon f xs i.0 i.1.0 (subst (λ z. IsNameAt n (f z)) (sym i.1.1) a)))

-- the names of fields

field_named : (f : FieldTree) (n : Item ℕ) → Holds f.names n → IsNameAt n.value (field_tokens f)
unfolding field_tokens
field_named f n h =
    name_left n.value (list_tokens kind.Comma name_tokens f.names) (type_tokens f.type_use)
    (name_item n.value kind.Comma name_tokens f.names n h (inl (refl, refl)))

body_named : (definition file : ℕ) (b : BodyTree) (f : PlacedField) → Holds (body_fields definition file b) f →
    (file ≡ f.file) × IsNameAt f.name (body_tokens b)
unfolding body_tokens method_tokens
body_named definition file (Other t) f h = absurd h
body_named definition file (Interface k o ms c) f h =
    let i = holds_map (λ (m : Item MethodTree). record {
      definition = definition;
      file = file;
      name = m.value.name;
      form = OfSignature m.value.params m.value.result;
    }) ms f h in
    let own : IsNameAt f.name (method_tokens i.0.value) = inl (ap (λ (z : PlacedField). z.name) i.1.1, refl) in (
      ap (λ (z : PlacedField). z.file) i.1.1,
      inr (inr (name_left f.name (list_tokens kind.Semicolon method_tokens ms) (sign kind.RightBrace c ∷ [])
          (name_item f.name kind.Semicolon method_tokens ms i.0 i.1.0 own))),
    )
body_named definition file (Struct k o fs c) f h =
    let x = holds_flat (λ (i : Item FieldTree). map
    (λ (n : Item ℕ). record { definition = definition; file = file; name = n.value; form = OfType i.value.type_use }) i.value.names) fs f h in
    let n = holds_map (λ (n : Item ℕ). record {
      definition = definition;
      file = file;
      name = n.value;
      form = OfType x.0.value.type_use;
    }) x.0.value.names f x.1.1 in
    let here : IsNameAt n.0.value (field_tokens x.0.value) = field_named x.0.value n.0 n.1.0 in
    let own : IsNameAt f.name (field_tokens x.0.value) =
    subst (λ i. IsNameAt i (field_tokens x.0.value)) (ap (λ (z : PlacedField). z.name) n.1.1) here in (
      ap (λ (z : PlacedField). z.file) n.1.1,
      inr (inr (name_left f.name (list_tokens kind.Semicolon field_tokens fs) (sign kind.RightBrace c ∷ [])
          (name_item f.name kind.Semicolon field_tokens fs x.0 x.1.0 own))),
    )

record IsIn (ds : List PlacedType) (f : PlacedField) : Type 0 where
  definition : PlacedType
  is_one : Holds ds definition
  in_file : definition.file ≡ f.file
  named : IsNameAt f.name (body_tokens definition.spec.body)

fields_named : (rank : ℕ) (ds : List PlacedType) (f : PlacedField) → Holds (fields_from rank ds) f → IsIn ds f
fields_named rank [] f h = absurd h
fields_named rank (d ∷ ds) f h = elim (holds_append (body_fields rank d.file d.spec.body) (fields_from (suc rank) ds) f h) [
  | inl a ↦
      let b = body_named rank d.file d.spec.body f a in record { definition = d; is_one = inl refl; in_file = b.0; named = b.1 }
  | inr b ↦
      let r = fields_named (suc rank) ds f b in record { definition = r.definition; is_one = inr r.is_one; in_file = r.in_file; named = r.named }
]

-- in declarations

type_in_decl : (file : ℕ) (decl : DeclTree) (d : PlacedType) (n : ℕ) → Holds (decl_types file decl) d → IsNameAt n (body_tokens d.spec.body) →
    (file ≡ d.file) × IsNameAt n (decl_tokens decl)
unfolding decl_tokens type_spec_tokens
type_in_decl file (VarDecl k g s) d n h m = absurd h
type_in_decl file (TypeDecl k g s) d n h m =
    let t = holds_map (placed_type file) (group_items g) d h in
    let own : IsNameAt n (body_tokens t.0.body) = subst (λ (z : PlacedType). IsNameAt n (body_tokens z.spec.body)) (sym t.1.1) m in (
      ap (λ (z : PlacedType). z.file) t.1.1,
      inr (name_left n (group_tokens type_spec_tokens g) (sign kind.Semicolon s ∷ []) (name_group n type_spec_tokens g t.0 t.1.0 (inr own))),
    )
type_in_decl file (FuncDecl k f s) d n h m = absurd h

func_named : (f : FuncTree) → IsNameAt f.name (func_tokens f)
unfolding func_tokens
func_named f = name_right f.name (tokens_if receiver_tokens f.receiver) _ (inl (refl, refl))

func_in_decl : (file : ℕ) (decl : DeclTree) (f : PlacedFunction) → Holds (decl_functions file decl) f →
    (file ≡ f.file) × IsNameAt f.function.name (decl_tokens decl)
unfolding decl_tokens
func_in_decl file (VarDecl k g s) f h = absurd h
func_in_decl file (TypeDecl k g s) f h = absurd h
func_in_decl file (FuncDecl k x s) f h = elim h [
  | inl is ↦ (
    ap (λ (z : PlacedFunction). z.file) is,
    subst (λ (z : PlacedFunction). IsNameAt z.function.name (sign kind.Func k ∷ (func_tokens x ++ (sign kind.Semicolon s ∷ [])))) is
        (inr (name_left x.name (func_tokens x) (sign kind.Semicolon s ∷ []) (func_named x))),
  )
  | inr z ↦ absurd z
]

in_flat : (n : ℕ) (f : FileTree) (d : DeclTree) → Holds f.decls d → IsNameAt n (decl_tokens d) → IsNameAt n (flatten f)
unfolding flatten
in_flat n f d h m =
    inr (inr (inr (name_right n (all_tokens imports_tokens f.imports) (all_tokens decl_tokens f.decls) (name_all n decl_tokens f.decls d h m))))

-- A name stands in a file of the package at the token, by the file's tree.
pub record IsNamedIn (p : Package) (file token : ℕ) : Type 0 where
  pub source : SourceFile
  pub in_file : slice_get p.files file ≡ Some source
  pub named : IsNameAt token (flatten source.tree)

in_source : (p : Package) (r : RankedSource) (d : DeclTree) (file token : ℕ) → Holds (ranked_files p.files) r → Holds r.1.tree.decls d → r.0 ≡ file →
    IsNameAt token (decl_tokens d) → IsNamedIn p file token
in_source p r d file token hr hd e m =
    let i = holds_ranked 0 p.files r hr in
    let same : i.0 ≡ file = let z : r.0 ≡ 0 + i.0 = i.1.0 in omega (arith, z, e) in
    record { source = r.1; in_file = subst (λ k. slice_get p.files k ≡ Some r.1) same i.1.1; named = in_flat token r.1.tree d hd m }

pub field_name : (p : Package) (rank : ℕ) (f : PlacedField) → slice_get (package_fields p) rank ≡ Some f → IsNamedIn p f.file f.name
field_name p rank f is =
    let d = fields_named 0 (package_types p) f (holds_got (package_fields p) rank f is) in
    let r = holds_flat types_in (ranked_files p.files) d.definition d.is_one in
    let decl = holds_flat (decl_types r.0.0) r.0.1.tree.decls d.definition r.1.1 in
    let m = type_in_decl r.0.0 decl.0 d.definition f.name decl.1.1 d.named in
    in_source p r.0 decl.0 f.file f.name r.1.0 decl.1.0 (m.0 ∙ d.in_file) m.1

pub function_name : (p : Package) (rank : ℕ) (f : PlacedFunction) → slice_get (package_functions p) rank ≡ Some f → IsNamedIn p f.file f.function.name
function_name p rank f is =
    let r = holds_flat functions_in (ranked_files p.files) f (holds_got (package_functions p) rank f is) in
    let decl = holds_flat (decl_functions r.0.0) r.0.1.tree.decls f r.1.1 in
    let m = func_in_decl r.0.0 decl.0 f decl.1.1 in
    in_source p r.0 decl.0 f.file f.function.name r.1.0 decl.1.0 m.0 m.1

-- the names behind dots and before colons

abbrev Named : TokenSpellings → List Site → List Token → Type 0
Named s xs ts = Covers is_ident_token s xs ts

no_link_taken : (k : Kind) → IsTaken is_ident_token k → is_link k ≡ true → ⊥
no_link_taken kind.Dot t e = true≢false (sym t)
no_link_taken kind.Colon t e = true≢false (sym t)
no_link_taken _ t e = true≢false (sym e)

no_link_skipped : (k : Kind) → IsSkipped is_ident_token k → is_link k ≡ true → ⊥
no_link_skipped kind.Dot t e = true≢false t
no_link_skipped kind.Colon t e = true≢false t
no_link_skipped _ t e = true≢false (sym e)

is_taken : (k : Kind) → IsTaken is_ident_token k → is_ident_token k ≡ true
is_taken kind.Name t = refl
is_taken kind.Blank t = refl
is_taken _ t = absurd (true≢false (sym t))

dot_links : (k : Kind) → k ≡ kind.Dot → is_link k ≡ true
dot_links k e = ap is_link e

colon_links : (k : Kind) → k ≡ kind.Colon → is_link k ≡ true
colon_links k e = ap is_link e

behind_dot : (s : TokenSpellings) (n : ℕ) (xs : List Site) (ts : List Token) → Named s xs ts → AreConsecutive n ts → (i : ℕ) → HasKind kind.Dot i ts →
    IsNameAt (suc i) ts
behind_dot s n _ _ ends w i h = absurd h
behind_dot s n xs _ (skips {t = t} {ts = ts} k a) w i h = elim h [
  | inl here ↦ absurd (no_link_skipped t.kind k (dot_links t.kind here.1))
  | inr rest ↦ inr (behind_dot s (suc n) xs ts a w.1 i rest)
]
behind_dot s n _ _ (takes {xs = xs} {t = t} {ts = ts} k l e a) w i h = elim h [
  | inl here ↦ absurd (no_link_taken t.kind k (dot_links t.kind here.1))
  | inr rest ↦ inr (behind_dot s (suc n) xs ts a w.1 i rest)
]
behind_dot s n _ _ (selects {xs = xs} {d = d} {t = t} {ts = ts} dot out k q e a) w i h = elim h [
  | inl here ↦
      let first : d.place ≡ n = w.0 in
      let second : t.place ≡ suc n = w.1.0 in
      let at : d.place ≡ i = here.0 in
      let next : t.place ≡ suc i = omega (arith, first, second, at) in inr (inl (next, is_taken t.kind k))
  | inr rest ↦ elim rest [
    | inl here ↦ absurd (no_link_taken t.kind k (dot_links t.kind here.1))
    | inr more ↦ inr (inr (behind_dot s (suc (suc n)) xs ts a w.1.1 i more))
  ]
]
behind_dot s n _ _ (keys {xs = xs} {t = t} {c = c} {ts = ts} colon out k q e a) w i h = elim h [
  | inl here ↦ absurd (no_link_taken t.kind k (dot_links t.kind here.1))
  | inr rest ↦ elim rest [
    | inl here ↦ let same : kind.Colon ≡ kind.Dot = sym colon ∙ here.1 in let z : ⊥ = cc in absurd z
    | inr more ↦ inr (inr (behind_dot s (suc (suc n)) xs ts a w.1.1 i more))
  ]
]

before_colon : (s : TokenSpellings) (n : ℕ) (xs : List Site) (ts : List Token) → Named s xs ts → AreConsecutive n ts → (i : ℕ) → HasKind kind.Colon (suc i) ts →
    IsNameAt i ts
before_colon s n _ _ ends w i h = absurd h
before_colon s n xs _ (skips {t = t} {ts = ts} k a) w i h = elim h [
  | inl here ↦ absurd (no_link_skipped t.kind k (colon_links t.kind here.1))
  | inr rest ↦ inr (before_colon s (suc n) xs ts a w.1 i rest)
]
before_colon s n _ _ (takes {xs = xs} {t = t} {ts = ts} k l e a) w i h = elim h [
  | inl here ↦ absurd (no_link_taken t.kind k (colon_links t.kind here.1))
  | inr rest ↦ inr (before_colon s (suc n) xs ts a w.1 i rest)
]
before_colon s n _ _ (selects {xs = xs} {d = d} {t = t} {ts = ts} dot out k q e a) w i h = elim h [
  | inl here ↦ let same : kind.Dot ≡ kind.Colon = sym dot ∙ here.1 in let z : ⊥ = cc in absurd z
  | inr rest ↦ elim rest [
    | inl here ↦ absurd (no_link_taken t.kind k (colon_links t.kind here.1))
    | inr more ↦ inr (inr (before_colon s (suc (suc n)) xs ts a w.1.1 i more))
  ]
]
before_colon s n _ _ (keys {xs = xs} {t = t} {c = c} {ts = ts} colon out k q e a) w i h = elim h [
  | inl here ↦ absurd (no_link_taken t.kind k (colon_links t.kind here.1))
  | inr rest ↦ elim rest [
    | inl here ↦
        let first : t.place ≡ n = w.0 in
        let second : c.place ≡ suc n = w.1.0 in
        let at : c.place ≡ suc i = here.0 in
        let same : t.place ≡ i = omega (arith, first, second, at) in inl (same, is_taken t.kind k)
    | inr more ↦ inr (inr (before_colon s (suc (suc n)) xs ts a w.1.1 i more))
  ]
]

-- no dot and no colon stands among imports

abbrev Unlinked : List Token → Type 0
Unlinked ts = AllByRecursion (λ t. is_link t.kind ≡ false) ts

unlinked_if : (k : Kind) (p : Option ℕ) → is_link k ≡ false → Unlinked (sign_if k p)
unlinked_if k None h = tt
unlinked_if k (Some p) h = (h, tt)

unlinked_all : {X : Type 0} (t : X → List Token) → ((x : X) → Unlinked (t x)) → (xs : List X) → Unlinked (all_tokens t xs)
unfolding all_tokens
unlinked_all t h [] = tt
unlinked_all t h (x ∷ xs) = all_append (λ (t : Token). is_link t.kind ≡ false) (t x) (all_tokens t xs) (h x) (unlinked_all t h xs)

unlinked_import : (i : ImportTree) → Unlinked (import_tokens i)
unfolding import_tokens
unlinked_import i =
    all_append (λ (t : Token). is_link t.kind ≡ false) (sign_if kind.Name i.name) (sign kind.Text i.path ∷ []) (unlinked_if kind.Name i.name refl) (refl, tt)

unlinked_item : (x : Item ImportTree) → Unlinked (item_tokens kind.Semicolon import_tokens x)
unlinked_item x =
    all_append (λ (t : Token). is_link t.kind ≡ false) (import_tokens x.value) (sign_if kind.Semicolon x.separator) (unlinked_import x.value)
    (unlinked_if kind.Semicolon x.separator refl)

unlinked_group : (g : Group ImportTree) → Unlinked (group_tokens import_tokens g)
unfolding group_tokens
unlinked_group (single i) = unlinked_import i
unlinked_group (several o xs c) = (
  refl,
  all_append (λ (t : Token). is_link t.kind ≡ false) (list_tokens kind.Semicolon import_tokens xs) (sign kind.RightParen c ∷ [])
      (unlinked_all (item_tokens kind.Semicolon import_tokens) unlinked_item xs) (refl, tt),
)

unlinked_imports : (i : ImportsTree) → Unlinked (imports_tokens i)
unfolding imports_tokens
unlinked_imports i = (
  refl,
  all_append (λ (t : Token). is_link t.kind ≡ false) (group_tokens import_tokens i.imports) (sign kind.Semicolon i.semicolon ∷ []) (unlinked_group i.imports)
      (refl, tt),
)

-- a link among tokens is behind those that hold none
link_behind : (k : Kind) → is_link k ≡ true → (i : ℕ) (hs ts : List Token) → Unlinked hs → HasKind k i (hs ++ ts) → HasKind k i ts
link_behind k l i [] ts u h = h
link_behind k l i (t ∷ hs) ts u h = elim h [
  | inl here ↦ absurd (true≢false (sym l ∙ sym (ap is_link here.1) ∙ u.0))
  | inr rest ↦ link_behind k l i hs ts u.1 rest
]

consecutive_behind : (n : ℕ) (hs ts : List Token) → AreConsecutive n (hs ++ ts) → (m : ℕ) × AreConsecutive m ts
consecutive_behind n [] ts w = (n, w)
consecutive_behind n (t ∷ hs) ts w = consecutive_behind (suc n) hs ts w.1

-- the tokens of a file before its declarations
header : FileTree → List Token
header f = sign kind.Package f.keyword ∷ sign kind.Name f.name ∷ sign kind.Semicolon f.semicolon ∷ all_tokens imports_tokens f.imports

unlinked_header : (f : FileTree) → Unlinked (header f)
unfolding header
unlinked_header f = (refl, (refl, (refl, unlinked_all imports_tokens unlinked_imports f.imports)))

header_then : (f : FileTree) → flatten f ≡ header f ++ all_tokens decl_tokens f.decls
unfolding header flatten
header_then f = refl

-- a source by which the identifiers of a tree may be laid out
some_source : TokenSpellings
some_source = record { rank = 0; spell = λ token. [] }

module _ (f : FileTree) (w : AreConsecutive 0 (flatten f)) where
  decls : List Token
  decls = all_tokens decl_tokens f.decls

  numbered : (m : ℕ) × AreConsecutive m decls
  unfolding decls
  numbered = consecutive_behind 0 (header f) (all_tokens decl_tokens f.decls) (subst (AreConsecutive 0) (header_then f) w)

  among_decls : (k : Kind) → is_link k ≡ true → (i : ℕ) → HasKind k i (flatten f) → HasKind k i decls
  unfolding decls
  among_decls k l i h = link_behind k l i (header f) (all_tokens decl_tokens f.decls) (unlinked_header f) (subst (HasKind k i) (header_then f) h)

  in_file : (i : ℕ) → IsNameAt i decls → IsNameAt i (flatten f)
  unfolding decls
  in_file i h = subst (IsNameAt i) (sym (header_then f)) (name_right i (header f) (all_tokens decl_tokens f.decls) h)

  name_behind_dot : (i : ℕ) → HasKind kind.Dot i (flatten f) → IsNameAt (suc i) (flatten f)
  unfolding decls
  name_behind_dot i h =
      in_file (suc i)
      (behind_dot some_source numbered.0 (flat_map (decl_sites some_source) f.decls) decls (decls_named some_source f.decls) numbered.1 i
      (among_decls kind.Dot refl i h))

  name_before_colon : (i : ℕ) → HasKind kind.Colon (suc i) (flatten f) → IsNameAt i (flatten f)
  unfolding decls
  name_before_colon i h =
      in_file i
      (before_colon some_source numbered.0 (flat_map (decl_sites some_source) f.decls) decls (decls_named some_source f.decls) numbered.1 i
      (among_decls kind.Colon refl (suc i) h))

-- the class of a token that is a name or `_`

word_is_none : (k : Keyword) → is_ident_token (kind_of_keyword k) ≡ true → ⊥
word_is_none word.Break e = true≢false (sym e)
word_is_none _ e = true≢false (sym e)

sign_is_none : (k : Operator) → is_ident_token (kind_of_operator k) ≡ true → ⊥
sign_is_none signs.LeftParen e = true≢false (sym e)
sign_is_none _ e = true≢false (sym e)

name_class : (c : Class) (bytes : List ℕ) → is_ident_token (kind_of c bytes) ≡ true → c ≡ class.Name
name_class class.Name bytes e = refl
name_class (class.Keyword k) bytes e = absurd (word_is_none k e)
name_class (class.Operator o) bytes e = absurd (sign_is_none o e)
name_class _ bytes e = absurd (true≢false (sym e))

record IsNamePiece (i n : ℕ) (ps : List Piece) : Type 0 where
  index : ℕ
  piece : Piece
  there : slice_get ps index ≡ Some piece
  number : i ≡ index + n
  is_name : piece.class ≡ class.Name

name_piece : (i n : ℕ) (text : List ℕ) (ps : List Piece) → IsNameAt i (kinds_from n text ps) → IsNamePiece i n ps
unfolding kinds_from
name_piece i n text [] h = absurd h
name_piece i n text (p ∷ ps) h = elim h [
  | inl here ↦ record {
    index = 0;
    piece = p;
    there = refl;
    number = let e : n ≡ i = here.0 in omega (arith, e);
    is_name = name_class p.class (bytes_of text p) here.1;
  }
  | inr rest ↦ let t = name_piece i (n + 1) text ps rest in record {
    index = suc t.index;
    piece = t.piece;
    there = t.there;
    number = let e : i ≡ t.index + (n + 1) = t.number in omega (arith, e);
    is_name = t.is_name;
  }
]

is_name_token : (c : CutText) (i : ℕ) → IsNameAt i (kinds_of c) → IsNameToken (slice_get (tokens_in c) i)
is_name_token c i h =
    let t = name_piece i 0 c.text (tokens_in c) h in
    let index : t.index ≡ i = let e : i ≡ t.index + 0 = t.number in omega (arith, e) in
    subst IsNameToken (sym (sym (ap (slice_get (tokens_in c)) index) ∙ t.there)) t.is_name

-- A token that is a name by a file's tree is one of the file.
pub named_token : (s : SourceFile) → IsSourceFile s → (i : ℕ) → IsNameAt i (flatten s.tree) → IsNameToken (slice_get (tokens_in s.cut) i)
named_token s is i h = is_name_token s.cut i (subst (IsNameAt i) is.is_tree.written h)

-- A token behind a dot, or before a colon, is a name.
pub linked_token : (s : SourceFile) → IsSourceFile s → (i : ℕ) → FollowsDot s.cut i ⊎ IsOfKind s.cut (suc i) kind.Colon →
    IsNameToken (slice_get (tokens_in s.cut) i)
linked_token s is i h =
    let written = is.is_tree.written in
    let w : AreConsecutive 0 (flatten s.tree) = subst (AreConsecutive 0) (sym written) (consecutive 0 s.cut.text (tokens_in s.cut)) in
    named_token s is i (elim h [
      | inl dot ↦ subst (λ n. IsNameAt n (flatten s.tree)) dot.1.0
          (name_behind_dot s.tree w dot.0 (subst (HasKind kind.Dot dot.0) (sym written) (by_kind s.cut kind.Dot dot.0 dot.1.1)))
      | inr colon ↦ name_before_colon s.tree w i (subst (HasKind kind.Colon (suc i)) (sym written) (by_kind s.cut kind.Colon (suc i) colon))
    ])
