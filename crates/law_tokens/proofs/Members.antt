-- The names by which fields and methods are declared are members.
use Rattle.std.proofs.Common.{ℕ, zero, suc, ◌≡◌, ◌+◌, ◌<◌, ◌⊎◌, inl, inr, List, [], ◌∷◌, ◌++◌, length, map, ap, sym, ◌∙◌, refl, subst, arith}
use Rattle.std.specs.Prelude.{Contains, slice_index_or, Option, Some, None, slice_get}
use Rattle.std.specs.List.{flat_map}
use Rattle.std.proofs.lemmas.Option.{none-some, same_Some}
use Rattle.go_ast.specs.FileView.{file_view}
use Rattle.go_ast.specs.SourceFile.{FileParts, source_of, spelling_of}
use Rattle.go_ast.specs.Tree.{Item, Group, single, several, FieldTree, MethodTree, BodyTree, Other, Struct, Interface, TypeSpecTree, ReceiverTree}
use Rattle.go_ast.specs.Tree.{FuncTree, DeclTree, VarDecl, TypeDecl, FuncDecl, FileTree}
use Rattle.go_scope.specs.declared.model.Position.{Position}
use Rattle.go_scope.specs.declared.model.Purpose.TheVariants as purpose
use Rattle.go_scope.specs.declared.model.Role.TheVariants.{NotLexical}
use Rattle.go_scope.specs.Bindings.{is_implied}
use Rattle.go_scope.specs.ExpressionSites.{sites_if, list_sites, type_sites}
use Rattle.go_scope.specs.StatementSites.{separated_sites, group_sites, open_of, block_sites}
use Rattle.go_scope.specs.FileSites.{global_name, member_name, spec_sites, field_sites, body_sites, type_spec_sites, receiver_sites, param_sites}
use Rattle.go_scope.specs.FileSites.{result_sites, func_block, func_role, func_sites, imports_sites, decl_sites, file_sites, files_sites, universe}
use Rattle.go_scope.specs.FileSites.{method_sites, universe_site, package_sites}
use Rattle.go_scope.specs.Named.{with_names}
use Rattle.go_scope.specs.SpelledFiles.{spelled_file}
use Rattle.go_scope.specs.Packages.{scoped, layout_in}
use Rattle.go_scope.specs.Site.{Site, TokenSpellings, site, or_blank, sites_layout}
use Rattle.go_scope.specs.Table.{LiesAt}
use Rattle.law_tokens.specs.Covered.{AreSourceFiles}
use Rattle.law_tokens.specs.MemberNames.{in_group, field_name_tokens, body_members, method_name, decl_members, member_names}
use Rattle.law_tokens.proofs.HeldBytes.{numbered_files}
use Rattle.law_tokens.proofs.Ordered.{package_ordered, one_stands, same_length}
use Rattle.law_tokens.proofs.Places.{plainly_stands}
use Rattle.law_tokens.proofs.Roles.{role_keeps}

-- a member stands at a token, among some identifiers
abbrev Has : TokenSpellings → ℕ → List Site → Type 0
Has s n [] = ⊥
Has s n (x ∷ xs) = (x ≡ site s n (NotLexical purpose.Member)) ⊎ Has s n xs

-- a number is one of these
abbrev IsOne : ℕ → List ℕ → Type 0
IsOne n [] = ⊥
IsOne n (m ∷ ms) = (m ≡ n) ⊎ IsOne n ms

one_of : (n : ℕ) (ms : List ℕ) (k : ℕ) → k < length ms → slice_index_or ms k n ≡ n → IsOne n ms
one_of n [] k lt e = absurd (omega arith)
one_of n (m ∷ ms) zero lt e = inl e
one_of n (m ∷ ms) (suc k) lt e = inr (one_of n ms k (omega arith) e)

one_either : (n : ℕ) (ks ms : List ℕ) → IsOne n (ks ++ ms) → IsOne n ks ⊎ IsOne n ms
one_either n [] ms h = inr h
one_either n (k ∷ ks) ms h = elim h [
  | inl e ↦ inl (inl e)
  | inr rest ↦ elim (one_either n ks ms rest) [ inl l ↦ inl (inr l) | inr r ↦ inr r ]
]

has_left : (s : TokenSpellings) (n : ℕ) (xs ys : List Site) → Has s n xs → Has s n (xs ++ ys)
has_left s n [] ys h = absurd h
has_left s n (x ∷ xs) ys h = elim h [ inl e ↦ inl e | inr rest ↦ inr (has_left s n xs ys rest) ]

has_right : (s : TokenSpellings) (n : ℕ) (xs ys : List Site) → Has s n ys → Has s n (xs ++ ys)
has_right s n [] ys h = h
has_right s n (x ∷ xs) ys h = inr (has_right s n xs ys h)

has_all : {X : Type 0} (s : TokenSpellings) (n : ℕ) (f : X → List Site) (g : X → List ℕ) → ((x : X) → IsOne n (g x) → Has s n (f x)) → (xs : List X) →
    IsOne n (flat_map g xs) → Has s n (flat_map f xs)
has_all s n f g h [] one = absurd one
has_all s n f g h (x ∷ xs) one = elim (one_either n (g x) (flat_map g xs) one) [
  | inl here ↦ has_left s n (f x) (flat_map f xs) (h x here)
  | inr rest ↦ has_right s n (f x) (flat_map f xs) (has_all s n f g h xs rest)
]

-- by the parts of a tree

names_have : (s : TokenSpellings) (n : ℕ) (xs : List (Item ℕ)) → IsOne n (map (λ (i : Item ℕ). i.value) xs) → Has s n (list_sites (member_name s) xs)
names_have s n [] one = absurd one
names_have s n (x ∷ xs) one = elim one [ inl e ↦ inl (ap (λ m. site s m (NotLexical purpose.Member)) e) | inr rest ↦ inr (names_have s n xs rest) ]

field_has : (s : TokenSpellings) (n : ℕ) (f : FieldTree) → IsOne n (field_name_tokens f) → Has s n (field_sites s f)
unfolding field_sites
field_has s n f one = has_left s n (list_sites (member_name s) f.names) (type_sites s f.type_use) (names_have s n f.names one)

asked_has : (s : TokenSpellings) (n : ℕ) (m : MethodTree) → IsOne n (m.name ∷ []) → Has s n (method_sites s m)
unfolding method_sites
asked_has s n m one = elim one [ inl e ↦ inl (ap (λ k. site s k (NotLexical purpose.Member)) e) | inr rest ↦ absurd rest ]

body_has : (s : TokenSpellings) (n : ℕ) (b : BodyTree) → IsOne n (body_members b) → Has s n (body_sites s b)
unfolding body_sites
body_has s n (Other t) one = absurd one
body_has s n (Struct p o fs c) one =
    has_all s n (λ (i : Item FieldTree). field_sites s i.value) (λ (i : Item FieldTree). field_name_tokens i.value) (λ i. field_has s n i.value) fs one
body_has s n (Interface p o ms c) one =
    has_all s n (λ (i : Item MethodTree). method_sites s i.value) (λ (i : Item MethodTree). i.value.name ∷ []) (λ i. asked_has s n i.value) ms one

type_spec_has : (s : TokenSpellings) (n : ℕ) (t : TypeSpecTree) → IsOne n (body_members t.body) → Has s n (type_spec_sites s t)
unfolding type_spec_sites
type_spec_has s n t one = has_right s n (global_name s t.name) (body_sites s t.body) (body_has s n t.body one)

group_has : (s : TokenSpellings) (n : ℕ) (g : Group TypeSpecTree) → IsOne n (in_group (λ (t : TypeSpecTree). body_members t.body) g) →
    Has s n (spec_sites (type_spec_sites s) g)
unfolding group_sites separated_sites
group_has s n (single t) one = type_spec_has s n t one
group_has s n (several o ts c) one =
    has_all s n (λ (i : Item TypeSpecTree). type_spec_sites s i.value) (λ (i : Item TypeSpecTree). body_members i.value.body)
    (λ i. type_spec_has s n i.value) ts one

method_role : (r : Option ReceiverTree) (m n : ℕ) (name : List ℕ) → IsOne n (method_name r m) → (m ≡ n) × (func_role r name ≡ NotLexical purpose.Member)
method_role None m n name one = absurd one
method_role (Some r) m n name one = elim one [ inl e ↦ (e, refl) | inr rest ↦ absurd rest ]

func_has : (s : TokenSpellings) (n : ℕ) (f : FuncTree) → IsOne n (method_name f.receiver f.name) → Has s n (func_sites s f)
unfolding func_sites
func_has s n f one =
    let start = open_of f.body in
    let role = func_role f.receiver (s.spell f.name) in
    let is = method_role f.receiver f.name n (s.spell f.name) one in
    has_right s n (sites_if (receiver_sites s (func_block s f) start) f.receiver)
    (site s f.name role ∷ (list_sites (param_sites s (func_block s f) start) f.params ++ (result_sites s f.result ++ block_sites s f.body)))
    (inl (ap (λ m. site s m role) is.0 ∙ ap (site s n) is.1))

decl_has : (s : TokenSpellings) (n : ℕ) (d : DeclTree) → IsOne n (decl_members d) → Has s n (decl_sites s d)
unfolding decl_sites
decl_has s n (VarDecl k g semicolon) one = absurd one
decl_has s n (TypeDecl k g semicolon) one = group_has s n g one
decl_has s n (FuncDecl k f semicolon) one = func_has s n f one

file_has : (s : TokenSpellings) (n : ℕ) (f : FileTree) → IsOne n (member_names f) → Has s n (file_sites s f)
unfolding file_sites
file_has s n f one = inr (has_right s n (flat_map (imports_sites s) f.imports) (flat_map (decl_sites s) f.decls)
    (has_all s n (decl_sites s) decl_members (decl_has s n) f.decls one))

-- in a package

abbrev source_at : ℕ → FileParts → TokenSpellings
source_at rank f = record { rank = rank; spell = spelling_of (source_of f) }

files_have : (rank : ℕ) (fs : List FileParts) (k j n : ℕ) (f : FileParts) → slice_get fs k ≡ Some f → rank + k ≡ j →
    Has (source_at j f) n (file_sites (source_at j f) (file_view f.file)) →
    Has (source_at j f) n (files_sites rank (map spelled_file fs))
unfolding files_sites
files_have rank [] k j n f is at h = absurd (none-some f is)
files_have rank (g ∷ gs) zero j n f is at h =
    let P : ℕ → FileParts → Type 0 = λ i x. Has (source_at j f) n (file_sites (source_at i x) (file_view x.file)) in
    has_left (source_at j f) n (file_sites (source_at rank g) (file_view g.file)) (files_sites (suc rank) (map spelled_file gs))
    (subst (λ x. P rank x) (sym (same_Some g f is)) (subst (λ i. P i f) (omega arith) h))
files_have rank (g ∷ gs) (suc k) j n f is at h =
    has_right (source_at j f) n (file_sites (source_at rank g) (file_view g.file)) (files_sites (suc rank) (map spelled_file gs))
    (files_have (suc rank) gs k j n f is (omega arith) h)

number_of : (s : TokenSpellings) (n : ℕ) (xs : List Site) → Has s n xs → (u : ℕ) ×
    ((u < length xs) × (or_blank (slice_get xs u) ≡ site s n (NotLexical purpose.Member)))
number_of s n [] h = absurd h
number_of s n (x ∷ xs) h = elim h [ inl e ↦ (zero, (omega arith, e)) | inr rest ↦ (let r = number_of s n xs rest in (suc r.0, (omega (arith, r.1.0), r.1.1))) ]

pub member_stands : (files : List FileParts) → AreSourceFiles files → (at : Position) (f : FileParts) → slice_get files at.file ≡ Some f →
    Contains (member_names (file_view f.file)) at.index → (u : ℕ) →
    u < length (scoped files).sites → LiesAt (layout_in (scoped files)) at u → (layout_in (scoped files)).role u ≡ NotLexical purpose.Member
unfolding package_sites
member_stands files w at f is one u lt h =
    let s = source_at at.file f in
    let own = files_sites 0 (map spelled_file files) in
    let all = map universe_site universe ++ own in
    let has : Has s at.index all =
    has_right s at.index (map universe_site universe) own
    (files_have 0 files at.file at.file at.index f is (omega arith)
    (file_has s at.index (file_view f.file) (one_of at.index (member_names (file_view f.file)) one.0 one.1 one.2))) in
    let v = number_of s at.index all has in
    let ordered = package_ordered (map spelled_file files) (numbered_files files w) in
    let place = ap (λ (x : Site). x.place) v.1.1 in
    let there : LiesAt (sites_layout all) at v.0 =
    (ap (λ (x : Site). is_implied x.role) v.1.1, ap (λ (a : Position). a.file) place, ap (λ (a : Position). a.index) place) in
    let same : u ≡ v.0 = one_stands (sites_layout all) (length all) ordered at u v.0 lt v.1.0 h there in
    ap (λ k. (or_blank (slice_get all k)).role) same ∙ ap (λ (x : Site). x.role) v.1.1

pub named_member_stands : (names : ℕ → Option (List ℕ)) (files : List FileParts) → AreSourceFiles files → (at : Position) (f : FileParts) →
    slice_get files at.file ≡ Some f →
    Contains (member_names (file_view f.file)) at.index → (u : ℕ) → u < length (with_names names (scoped files)).sites →
    LiesAt (layout_in (with_names names (scoped files))) at u →
    (layout_in (with_names names (scoped files))).role u ≡ NotLexical purpose.Member
named_member_stands names files w at f is one u lt h =
    (role_keeps purpose.Member refl names (scoped files).sites u).1
    (member_stands files w at f is one u (subst (λ n. u < n) (same_length names (scoped files).sites) lt) (plainly_stands names (scoped files) at u h))
