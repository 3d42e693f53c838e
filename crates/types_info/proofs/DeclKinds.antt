-- No token is the name of two package-level declarations of different kinds.
use Rattle.std.proofs.Common.{ℕ, ◌≡◌, ◌+◌, ◌<◌, ◌≤◌, ◌⊎◌, inl, inr, zero, suc, List, [], ◌∷◌, ◌++◌, ap, sym, subst, refl, ◌∙◌, arith}
use Rattle.std.specs.Prelude.{Some, slice_get, map}
use Rattle.std.specs.List.{flat_map, enumerate_from}
use Rattle.std.proofs.lemmas.Option.{same_Some, none-some}
use Rattle.go_ast.specs.declared.syntax.Kind.{Kind}
use Rattle.go_ast.specs.declared.syntax.Kind.TheVariants as kind
use Rattle.go_ast.specs.declared.syntax.Token.{Token}
use Rattle.go_ast.specs.Tree.{Item, Group, single, several, DeclTree, VarDecl, TypeDecl, FuncDecl, FileTree}
use Rattle.go_ast.specs.Flatten.{sign, sign_if, tokens_if, all_tokens, item_tokens, list_tokens, group_tokens, name_tokens, global_tokens}
use Rattle.go_ast.specs.Flatten.{type_spec_tokens, receiver_tokens, func_tokens, imports_tokens, decl_tokens, flatten}
use Rattle.go_ast.specs.SourceFile.{SourceFile}
use Rattle.types_declared.specs.Files.{RankedSource, ranked_files, group_items}
use Rattle.go_scope.specs.Trees.{AreRising}
use Rattle.go_scope.proofs.Rising.{Rises, rises_le, rises_split, rises_of}
use Rattle.types_declared.specs.Package.{PlacedVariable, PlacedType, PlacedFunction, variables_of, placed_type, decl_variables, decl_types, decl_functions}
use Rattle.types_declared.specs.Package.{variables_in, types_in, functions_in, declared_variables, declared_types, declared_functions}

-- The items of lists

abbrev pub Holds : {X : Type 0} → List X → X → Type 0
Holds [] x = ⊥
Holds (y ∷ ys) x = (y ≡ x) ⊎ Holds ys x

pub holds_got : {X : Type 0} (xs : List X) (k : ℕ) (x : X) → slice_get xs k ≡ Some x → Holds xs x
holds_got [] k x e = absurd (none-some x e)
holds_got (y ∷ ys) zero x e = inl (same_Some y x e)
holds_got (y ∷ ys) (suc k) x e = inr (holds_got ys k x e)

pub holds_append : {X : Type 0} (xs ys : List X) (x : X) → Holds (xs ++ ys) x → Holds xs x ⊎ Holds ys x
holds_append [] ys x h = inr h
holds_append (z ∷ zs) ys x h = elim h [
  | inl e ↦ inl (inl e)
  | inr r ↦ elim (holds_append zs ys x r) [ inl a ↦ inl (inr a) | inr b ↦ inr b ]
]

pub holds_flat : {X Y : Type 0} (f : X → List Y) (xs : List X) (y : Y) → Holds (flat_map f xs) y → (x : X) × (Holds xs x × Holds (f x) y)
holds_flat f [] y h = absurd h
holds_flat f (x ∷ xs) y h = elim (holds_append (f x) (flat_map f xs) y h) [
  | inl a ↦ (x, (inl refl, a))
  | inr b ↦ let r = holds_flat f xs y b in (r.0, (inr r.1.0, r.1.1))
]

pub holds_map : {X Y : Type 0} (f : X → Y) (xs : List X) (y : Y) → Holds (map f xs) y → (x : X) × (Holds xs x × (f x ≡ y))
holds_map f [] y h = absurd h
holds_map f (x ∷ xs) y h = elim h [
  | inl e ↦ (x, (inl refl, e))
  | inr r ↦ let s = holds_map f xs y r in (s.0, (inr s.1.0, s.1.1))
]

pub holds_ranked : {X : Type 0} (n : ℕ) (xs : List X) (r : ℕ × X) → Holds (enumerate_from n xs) r → (i : ℕ) × ((r.0 ≡ n + i) × (slice_get xs i ≡ Some r.1))
holds_ranked n [] r h = absurd h
holds_ranked n (x ∷ xs) r h = elim h [
  | inl e ↦ (0, ((let z : r.0 ≡ n = ap (λ q. q.0) (sym e) in omega (arith, z)), ap (λ q. Some q.1) e))
  | inr k ↦ let s = holds_ranked (n + 1) xs r k in (suc s.0, ((let z : r.0 ≡ n + 1 + s.0 = s.1.0 in omega (arith, z)), s.1.1))
]

pub held_left : {X : Type 0} (xs ys : List X) (x : X) → Holds xs x → Holds (xs ++ ys) x
held_left [] ys x h = absurd h
held_left (z ∷ zs) ys x h = elim h [ inl e ↦ inl e | inr r ↦ inr (held_left zs ys x r) ]

pub held_right : {X : Type 0} (xs ys : List X) (x : X) → Holds ys x → Holds (xs ++ ys) x
held_right [] ys x h = h
held_right (z ∷ zs) ys x h = inr (held_right zs ys x h)

pub held_flat : {X Y : Type 0} (f : X → List Y) (xs : List X) (x : X) (y : Y) → Holds xs x → Holds (f x) y → Holds (flat_map f xs) y
held_flat f [] x y h k = absurd h
held_flat f (z ∷ zs) x y h k = elim h [
  | inl e ↦ held_left (f z) (flat_map f zs) y (subst (λ q. Holds (f q) y) (sym e) k)
  | inr r ↦ held_right (f z) (flat_map f zs) y (held_flat f zs x y r k)
]

pub held_map : {X Y : Type 0} (f : X → Y) (xs : List X) (x : X) → Holds xs x → Holds (map f xs) (f x)
held_map f [] x h = absurd h
held_map f (z ∷ zs) x h = elim h [ inl e ↦ inl (ap f e) | inr r ↦ inr (held_map f zs x r) ]

-- The tokens of trees

abbrev pub IsAt : ℕ → List Token → Type 0
IsAt n [] = ⊥
IsAt n (t ∷ ts) = (t.place ≡ n) ⊎ IsAt n ts

at_left : (n : ℕ) (xs ys : List Token) → IsAt n xs → IsAt n (xs ++ ys)
at_left n [] ys h = absurd h
at_left n (x ∷ xs) ys h = elim h [ inl e ↦ inl e | inr r ↦ inr (at_left n xs ys r) ]

at_right : (n : ℕ) (xs ys : List Token) → IsAt n ys → IsAt n (xs ++ ys)
at_right n [] ys h = h
at_right n (x ∷ xs) ys h = inr (at_right n xs ys h)

at_within : (n a : ℕ) (ts : List Token) (b : ℕ) → Rises a ts b → IsAt n ts → (a ≤ n) × (n < b)
at_within n a [] b r h = absurd h
at_within n a (t ∷ ts) b r h = elim h [
  | inl e ↦ let le : a ≤ t.place = r.0 in let up : suc t.place ≤ b = rises_le (suc t.place) ts b r.1 in (omega (arith, le, e), omega (arith, up, e))
  | inr k ↦ let w = at_within n (suc t.place) ts b r.1 k in let le : a ≤ t.place = r.0 in (omega (arith, le, w.0), w.1)
]

at_all : {X : Type 0} (n : ℕ) (f : X → List Token) (xs : List X) (x : X) → Holds xs x → IsAt n (f x) → IsAt n (all_tokens f xs)
unfolding all_tokens
at_all n f [] x h a = absurd h
at_all n f (y ∷ ys) x h a = elim h [
  | inl e ↦ at_left n (f y) (all_tokens f ys) (subst (λ z. IsAt n (f z)) (sym e) a)
  | inr r ↦ at_right n (f y) (all_tokens f ys) (at_all n f ys x r a)
]

at_item : {X : Type 0} (n : ℕ) (k : Kind) (f : X → List Token) (xs : List (Item X)) (x : Item X) → Holds xs x → IsAt n (f x.value) → IsAt n (list_tokens k f xs)
at_item n k f xs x h a = at_all n (item_tokens k f) xs x h (at_left n (f x.value) (sign_if k x.separator) a)

at_group : {X : Type 0} (n : ℕ) (f : X → List Token) (g : Group X) (x : X) → Holds (group_items g) x → IsAt n (f x) → IsAt n (group_tokens f g)
unfolding group_tokens
at_group n f (single y) x h a = elim h [ inl e ↦ subst (λ z. IsAt n (f z)) (sym e) a | inr z ↦ absurd z ]
at_group n f (several o xs c) x h a =
    let i = holds_map (λ z. z.value) xs x h in
    inr (at_left n (list_tokens kind.Semicolon f xs) (sign kind.RightParen c ∷ [])
    (at_item n kind.Semicolon f xs i.0 i.1.0 (subst (λ z. IsAt n (f z)) (sym i.1.1) a)))

-- The kinds of declarations

abbrev pub kind_number : DeclTree → ℕ
kind_number (VarDecl k g s) = 0
kind_number (TypeDecl k g s) = 1
kind_number (FuncDecl k f s) = 2

-- in a tree whose tokens are in order, a token is in at most one declaration
one_decl : (n : ℕ) (ds : List DeclTree) (a b : ℕ) → Rises a (all_tokens decl_tokens ds) b → (d e : DeclTree) → Holds ds d → Holds ds e →
    IsAt n (decl_tokens d) → IsAt n (decl_tokens e) → d ≡ e
unfolding all_tokens
one_decl n [] a b r d e hd he ad ae = absurd hd
one_decl n (x ∷ xs) a b r d e hd he ad ae =
    let s = rises_split a (decl_tokens x) (all_tokens decl_tokens xs) b r in
    elim hd [
      | inl xd ↦ elim he [
        | inl xe ↦ sym xd ∙ xe
        | inr re ↦
            let l = at_within n a (decl_tokens x) s.0 s.1.0 (subst (λ z. IsAt n (decl_tokens z)) (sym xd) ad) in
            let g = at_within n s.0 (all_tokens decl_tokens xs) b s.1.1 (at_all n decl_tokens xs e re ae) in absurd (omega (arith, l.1, g.0))
      ]
      | inr rd ↦ elim he [
        | inl xe ↦
            let l = at_within n a (decl_tokens x) s.0 s.1.0 (subst (λ z. IsAt n (decl_tokens z)) (sym xe) ae) in
            let g = at_within n s.0 (all_tokens decl_tokens xs) b s.1.1 (at_all n decl_tokens xs d rd ad) in absurd (omega (arith, l.1, g.0))
        | inr re ↦ one_decl n xs s.0 b s.1.1 d e rd re ad ae
      ]
    ]

-- The declarations whose name is a token

pub record DeclaredAt (files : List SourceFile) (sort file token : ℕ) : Type 0 where
  pub source : SourceFile
  pub is_file : slice_get files file ≡ Some source
  pub decl : DeclTree
  pub in_tree : Holds source.tree.decls decl
  pub of_kind : kind_number decl ≡ sort
  pub named : IsAt token (decl_tokens decl)

abbrev DeclNames : (sort token : ℕ) → DeclTree → Type 0
DeclNames sort token d = (kind_number d ≡ sort) × IsAt token (decl_tokens d)

variable_named : (file : ℕ) (d : DeclTree) (v : PlacedVariable) → Holds (decl_variables file d) v → (v.file ≡ file) × DeclNames 0 v.name d
unfolding decl_tokens global_tokens
variable_named file (VarDecl k g s) v h =
    let x = holds_flat (variables_of file) (group_items g) v h in
    let i = holds_map (λ z. record { file = file; name = z.value; type_use = x.0.type_use }) x.0.names v x.1.1 in
    let here : IsAt v.name (name_tokens i.0.value) = inl (ap (λ z. z.name) i.1.1) in
    let inside : IsAt v.name (global_tokens x.0) = at_left v.name (list_tokens kind.Comma name_tokens x.0.names) _
    (at_item v.name kind.Comma name_tokens x.0.names i.0 i.1.0 here) in (
      sym (ap (λ z. z.file) i.1.1),
      (
        refl,
        inr (at_left v.name (group_tokens global_tokens g) (sign kind.Semicolon s ∷ [])
            (at_group v.name global_tokens g x.0 x.1.0 inside)),
      ),
    )
variable_named file (TypeDecl k g s) v h = absurd h
variable_named file (FuncDecl k f s) v h = absurd h

type_named : (file : ℕ) (d : DeclTree) (t : PlacedType) → Holds (decl_types file d) t → (t.file ≡ file) × DeclNames 1 t.spec.name d
unfolding decl_tokens type_spec_tokens
type_named file (VarDecl k g s) t h = absurd h
type_named file (TypeDecl k g s) t h =
    let x = holds_map (placed_type file) (group_items g) t h in
    let here : IsAt t.spec.name (type_spec_tokens x.0) = inl (ap (λ z. z.spec.name) x.1.1) in (
      sym (ap (λ z. z.file) x.1.1),
      (
        refl,
        inr (at_left t.spec.name (group_tokens type_spec_tokens g) (sign kind.Semicolon s ∷ [])
            (at_group t.spec.name type_spec_tokens g x.0 x.1.0 here)),
      ),
    )
type_named file (FuncDecl k f s) t h = absurd h

function_named : (file : ℕ) (d : DeclTree) (f : PlacedFunction) → Holds (decl_functions file d) f → (f.file ≡ file) × DeclNames 2 f.function.name d
unfolding decl_tokens func_tokens
function_named file (VarDecl k g s) f h = absurd h
function_named file (TypeDecl k g s) f h = absurd h
function_named file (FuncDecl k x s) f h = elim h [
  | inl e ↦
      let here : IsAt f.function.name (func_tokens x) = at_right f.function.name (tokens_if receiver_tokens x.receiver) _ (inl (ap (λ z. z.function.name) e)) in
      (sym (ap (λ z. z.file) e), (refl, inr (at_left f.function.name (func_tokens x) (sign kind.Semicolon s ∷ []) here)))
  | inr z ↦ absurd z
]

in_ranked : (files : List SourceFile) (sort token file : ℕ) (r : RankedSource) (d : DeclTree) → Holds (ranked_files files) r → Holds r.1.tree.decls d →
    file ≡ r.0 →
    DeclNames sort token d → DeclaredAt files sort file token
in_ranked files sort token file r d hr hd e h =
    let i = holds_ranked 0 files r hr in
    let same : i.0 ≡ file = let z : r.0 ≡ 0 + i.0 = i.1.0 in omega (arith, z, e) in
    record { source = r.1; is_file = subst (λ k. slice_get files k ≡ Some r.1) same i.1.1; decl = d; in_tree = hd; of_kind = h.0; named = h.1 }

pub variable_at : (files : List SourceFile) (rank : ℕ) (v : PlacedVariable) → slice_get (declared_variables files) rank ≡ Some v →
    DeclaredAt files 0 v.file v.name
variable_at files rank v e =
    let r = holds_flat variables_in (ranked_files files) v (holds_got (declared_variables files) rank v e) in
    let d = holds_flat (decl_variables r.0.0) r.0.1.tree.decls v r.1.1 in
    let n = variable_named r.0.0 d.0 v d.1.1 in
    in_ranked files 0 v.name v.file r.0 d.0 r.1.0 d.1.0 n.0 n.1

pub type_at : (files : List SourceFile) (rank : ℕ) (t : PlacedType) → slice_get (declared_types files) rank ≡ Some t → DeclaredAt files 1 t.file t.spec.name
type_at files rank t e =
    let r = holds_flat types_in (ranked_files files) t (holds_got (declared_types files) rank t e) in
    let d = holds_flat (decl_types r.0.0) r.0.1.tree.decls t r.1.1 in
    let n = type_named r.0.0 d.0 t d.1.1 in
    in_ranked files 1 t.spec.name t.file r.0 d.0 r.1.0 d.1.0 n.0 n.1

pub function_at : (files : List SourceFile) (rank : ℕ) (f : PlacedFunction) → slice_get (declared_functions files) rank ≡ Some f →
    DeclaredAt files 2 f.file f.function.name
function_at files rank f e =
    let r = holds_flat functions_in (ranked_files files) f (holds_got (declared_functions files) rank f e) in
    let d = holds_flat (decl_functions r.0.0) r.0.1.tree.decls f r.1.1 in
    let n = function_named r.0.0 d.0 f d.1.1 in
    in_ranked files 2 f.function.name f.file r.0 d.0 r.1.0 d.1.0 n.0 n.1

-- the declarations of a tree are in the order of its tokens
pub decls_rise : (tree : FileTree) → AreRising 0 (flatten tree) → (a : ℕ) × ((b : ℕ) × Rises a (all_tokens decl_tokens tree.decls) b)
unfolding flatten
decls_rise tree h =
    let r = rises_of 0 (flatten tree) h in
    let s = rises_split _ (all_tokens imports_tokens tree.imports) (all_tokens decl_tokens tree.decls) r.0 r.1.1.1.1 in
    (s.0, (r.0, s.1.1))

pub one_kind : (files : List SourceFile) → ((file : ℕ) (s : SourceFile) → slice_get files file ≡ Some s → AreRising 0 (flatten s.tree)) → (j k file token : ℕ) →
    DeclaredAt files j file token → DeclaredAt files k file token → j ≡ k
one_kind files rising j k file token x y =
    let same : y.source ≡ x.source = same_Some y.source x.source (sym y.is_file ∙ x.is_file) in
    let r = decls_rise x.source.tree (rising file x.source x.is_file) in
    let d : x.decl ≡ y.decl = one_decl token x.source.tree.decls r.0 r.1.0 r.1.1 x.decl y.decl x.in_tree
    (subst (λ s. Holds s.tree.decls y.decl) same y.in_tree) x.named y.named in
    sym x.of_kind ∙ ap kind_number d ∙ y.of_kind
