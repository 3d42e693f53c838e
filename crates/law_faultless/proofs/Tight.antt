-- In the Types of declarations the name behind a dot is the second token behind that before it.
use Rattle.std.proofs.Common.{ℕ, suc, ◌≡◌, inl, inr, List, [], ◌∷◌, ◌++◌, map, ap, sym, subst, ◌∙◌}
use Rattle.std.specs.List.{AllByRecursion, flat_map}
use Rattle.base_lemmas.proofs.EachElement.{all_append}
use Rattle.go_ast.specs.declared.syntax.Kind.{Kind}
use Rattle.go_ast.specs.declared.syntax.Kind.TheVariants as kind
use Rattle.go_ast.specs.declared.syntax.Token.{Token}
use Rattle.go_ast.specs.Flatten.{sign, sign_if, tokens_if, all_tokens, item_tokens, list_tokens, group_tokens, name_tokens, basic_tokens, value_tokens}
use Rattle.go_ast.specs.Flatten.{ident_tokens, type_tokens, global_tokens, field_tokens, body_tokens, type_spec_tokens, receiver_tokens, param_tokens}
use Rattle.go_ast.specs.Flatten.{result_tokens, block_tokens, func_tokens, imports_tokens, decl_tokens, flatten, method_tokens}
use Rattle.go_ast.specs.SourceFile.{SourceFile, IsSourceFile}
use Rattle.go_ast.specs.Tree.{Item, Group, single, several, TypeTree, ParamTree, ResultTree, FuncTree, GlobalTree, FieldTree, BodyTree, TypeSpecTree}
use Rattle.go_ast.specs.Tree.{DeclTree, FileTree, MethodTree}
use Rattle.go_ast.specs.Tree as tree
use Rattle.go_scanner.specs.CutText.{tokens_in}
use Rattle.types_declared.specs.Files.{group_items}
use Rattle.law_tokens.proofs.Links.{AreConsecutive}
use Rattle.law_tokens.proofs.Roles.{consecutive}
use Rattle.types_declared.specs.MeaningOf.{result_types}
use Rattle.types_declared.specs.Written.{written_types, signature_types, asked_types}
use Rattle.types_info.proofs.DeclKinds.{Holds}
use Rattle.law_faultless.proofs.Sound.{types_of}

abbrev pub IsTight : TypeTree → Type 0
IsTight (tree.Local n) = Unit {0}
IsTight (tree.Imported p d n) = suc (suc p) ≡ n
IsTight (tree.Pointer s x) = IsTight x
IsTight (tree.Slice o c x) = IsTight x

-- tokens numbered one by one, from some number on
abbrev Numbered : List Token → Type 0
Numbered ts = (k : ℕ) × AreConsecutive k ts

numbered_left : (xs ys : List Token) → Numbered (xs ++ ys) → Numbered xs
numbered_left xs ys h = (h.0, left h.0 xs h.1)
  where
    left : (k : ℕ) (zs : List Token) → AreConsecutive k (zs ++ ys) → AreConsecutive k zs
    left k [] a = tt
    left k (z ∷ zs) a = (a.0, left (suc k) zs a.1)

numbered_right : (xs ys : List Token) → Numbered (xs ++ ys) → Numbered ys
numbered_right [] ys h = h
numbered_right (x ∷ xs) ys h = numbered_right xs ys (suc h.0, h.1.1)

numbered_tail : (t : Token) (ts : List Token) → Numbered (t ∷ ts) → Numbered ts
numbered_tail t ts h = (suc h.0, h.1.1)

type_tight : (x : TypeTree) → Numbered (type_tokens x) → IsTight x
unfolding type_tokens
type_tight (tree.Local n) h = tt
type_tight (tree.Imported p d n) h = ap (λ k. suc (suc k)) h.1.0 ∙ sym h.1.1.1.0
type_tight (tree.Pointer s x) h = type_tight x (numbered_tail (sign kind.Star s) (type_tokens x) h)
type_tight (tree.Slice o c x) h =
    type_tight x (numbered_tail (sign kind.RightBracket c) (type_tokens x) (numbered_tail (sign kind.LeftBracket o)
    (sign kind.RightBracket c ∷ type_tokens x) h))

-- parts in turn, each with its tokens
module _ {X : Type 0} (t : X → List Token) where
  list_numbered : (k : Kind) (is : List (Item X)) → Numbered (list_tokens k t is) → AllByRecursion (λ x. Numbered (t x)) (map (λ i. i.value) is)
  unfolding all_tokens
  list_numbered k [] h = tt
  list_numbered k (i ∷ is) h =
      let own = numbered_left (item_tokens k t i) (list_tokens k t is) h in
      (numbered_left (t i.value) (sign_if k i.separator) own, list_numbered k is (numbered_right (item_tokens k t i) (list_tokens k t is) h))

  group_numbered : (g : Group X) → Numbered (group_tokens t g) → AllByRecursion (λ x. Numbered (t x)) (group_items g)
  unfolding group_tokens
  group_numbered (single x) h = (h, tt)
  group_numbered (several o is c) h =
      let inside = list_tokens kind.Semicolon t is in
      list_numbered kind.Semicolon is
      (numbered_left inside (sign kind.RightParen c ∷ []) (numbered_tail (sign kind.LeftParen o) (inside ++ (sign kind.RightParen c ∷ [])) h))

-- Types in turn

all_tight : (xs : List TypeTree) → AllByRecursion (λ x. Numbered (type_tokens x)) xs → AllByRecursion IsTight xs
all_tight [] h = tt
all_tight (x ∷ xs) h = (type_tight x h.0, all_tight xs h.1)

variables_tight : (gs : List GlobalTree) → AllByRecursion (λ g. Numbered (global_tokens g)) gs → AllByRecursion IsTight (map (λ g. g.type_use) gs)
unfolding global_tokens
variables_tight [] h = tt
variables_tight (g ∷ gs) h =
    let names = list_tokens kind.Comma name_tokens g.names in
    let values = tokens_if (value_tokens basic_tokens) g.values in (
      type_tight g.type_use (numbered_left (type_tokens g.type_use) values (numbered_right names (type_tokens g.type_use ++ values) h.0)),
      variables_tight gs h.1,
    )

fields_tight : (fs : List (Item FieldTree)) → AllByRecursion (λ f. Numbered (field_tokens f)) (map (λ i. i.value) fs) →
    AllByRecursion IsTight (map (λ f. f.value.type_use) fs)
unfolding field_tokens
fields_tight [] h = tt
fields_tight (f ∷ fs) h =
    (type_tight f.value.type_use (numbered_right (list_tokens kind.Comma name_tokens f.value.names) (type_tokens f.value.type_use) h.0), fields_tight fs h.1)

params_tight : (ps : List (Item ParamTree)) → AllByRecursion (λ p. Numbered (param_tokens p)) (map (λ i. i.value) ps) →
    AllByRecursion IsTight (map (λ i. i.value.type_use) ps)
unfolding param_tokens
params_tight [] h = tt
params_tight (p ∷ ps) h =
    (type_tight p.value.type_use (numbered_right (list_tokens kind.Comma ident_tokens p.value.names) (type_tokens p.value.type_use) h.0), params_tight ps h.1)

results_tight : (r : ResultTree) → Numbered (result_tokens r) → AllByRecursion IsTight (result_types r)
unfolding result_tokens
results_tight tree.no_result h = tt
results_tight (tree.one_result x) h = (type_tight x h, tt)
results_tight (tree.results o is c) h =
    let inside = list_tokens kind.Comma type_tokens is in
    all_tight (map (λ i. i.value) is)
    (list_numbered type_tokens kind.Comma is
    (numbered_left inside (sign kind.RightParen c ∷ []) (numbered_tail (sign kind.LeftParen o) (inside ++ (sign kind.RightParen c ∷ [])) h)))

method_tight : (m : MethodTree) → Numbered (method_tokens m) → AllByRecursion IsTight (signature_types m.params m.result)
unfolding method_tokens
method_tight m h =
    let params = list_tokens kind.Comma param_tokens m.params in
    let after = sign kind.RightParen m.rparen ∷ result_tokens m.result in
    let behind = numbered_tail (sign kind.LeftParen m.lparen) (params ++ after)
    (numbered_tail (sign kind.Name m.name) (sign kind.LeftParen m.lparen ∷ (params ++ after)) h) in
    all_append IsTight (map (λ i. i.value.type_use) m.params) (result_types m.result)
    (params_tight m.params (list_numbered param_tokens kind.Comma m.params (numbered_left params after behind)))
    (results_tight m.result (numbered_tail (sign kind.RightParen m.rparen) (result_tokens m.result) (numbered_right params after behind)))

asked_tight : (ms : List (Item MethodTree)) → AllByRecursion (λ m. Numbered (method_tokens m)) (map (λ i. i.value) ms) →
    AllByRecursion IsTight (asked_types ms)
asked_tight [] h = tt
asked_tight (m ∷ ms) h =
    all_append IsTight (signature_types m.value.params m.value.result) (asked_types ms) (method_tight m.value h.0) (asked_tight ms h.1)

body_tight : (b : BodyTree) → Numbered (body_tokens b) → AllByRecursion IsTight (written_types b)
unfolding body_tokens
body_tight (tree.Other x) h = (type_tight x h, tt)
body_tight (tree.Struct s o fs c) h =
    let inside = list_tokens kind.Semicolon field_tokens fs in
    let rest = inside ++ (sign kind.RightBrace c ∷ []) in
    let behind = numbered_tail (sign kind.LeftBrace o) rest (numbered_tail (sign kind.Struct s) (sign kind.LeftBrace o ∷ rest) h) in
    fields_tight fs (list_numbered field_tokens kind.Semicolon fs (numbered_left inside (sign kind.RightBrace c ∷ []) behind))
body_tight (tree.Interface w o ms c) h =
    let inside = list_tokens kind.Semicolon method_tokens ms in
    let rest = inside ++ (sign kind.RightBrace c ∷ []) in
    let behind = numbered_tail (sign kind.LeftBrace o) rest (numbered_tail (sign kind.Interface w) (sign kind.LeftBrace o ∷ rest) h) in
    asked_tight ms (list_numbered method_tokens kind.Semicolon ms (numbered_left inside (sign kind.RightBrace c ∷ []) behind))

definitions_tight : (ts : List TypeSpecTree) → AllByRecursion (λ t. Numbered (type_spec_tokens t)) ts →
    AllByRecursion IsTight (flat_map (λ t. written_types t.body) ts)
unfolding type_spec_tokens
definitions_tight [] h = tt
definitions_tight (t ∷ ts) h =
    all_append IsTight (written_types t.body) (flat_map (λ x. written_types x.body) ts)
    (body_tight t.body (numbered_tail (sign kind.Name t.name) (body_tokens t.body) h.0)) (definitions_tight ts h.1)

function_tight : (f : FuncTree) → Numbered (func_tokens f) → AllByRecursion IsTight (map (λ i. i.value.type_use) f.params ++ result_types f.result)
unfolding func_tokens
function_tight f h =
    let params = list_tokens kind.Comma param_tokens f.params in
    let results = result_tokens f.result in
    let tail = sign kind.RightParen f.rparen ∷ (results ++ block_tokens f.body) in
    let named = sign kind.Name f.name ∷ (sign kind.LeftParen f.lparen ∷ (params ++ tail)) in
    let inside = numbered_tail (sign kind.LeftParen f.lparen) (params ++ tail)
    (numbered_tail (sign kind.Name f.name) (sign kind.LeftParen f.lparen ∷ (params ++ tail))
    (numbered_right (tokens_if receiver_tokens f.receiver) named h)) in
    let behind = numbered_tail (sign kind.RightParen f.rparen) (results ++ block_tokens f.body) (numbered_right params tail inside) in
    all_append IsTight (map (λ i. i.value.type_use) f.params) (result_types f.result)
    (params_tight f.params (list_numbered param_tokens kind.Comma f.params (numbered_left params tail inside)))
    (results_tight f.result (numbered_left results (block_tokens f.body) behind))

decl_tight : (d : DeclTree) → Numbered (decl_tokens d) → AllByRecursion IsTight (types_of d)
unfolding decl_tokens
decl_tight (tree.VarDecl k g c) h =
    variables_tight (group_items g)
    (group_numbered global_tokens g
    (numbered_left (group_tokens global_tokens g) (sign kind.Semicolon c ∷ [])
    (numbered_tail (sign kind.Var k) (group_tokens global_tokens g ++ (sign kind.Semicolon c ∷ [])) h)))
decl_tight (tree.TypeDecl k g c) h =
    definitions_tight (group_items g)
    (group_numbered type_spec_tokens g
    (numbered_left (group_tokens type_spec_tokens g) (sign kind.Semicolon c ∷ [])
    (numbered_tail (sign kind.TypeWord k) (group_tokens type_spec_tokens g ++ (sign kind.Semicolon c ∷ [])) h)))
decl_tight (tree.FuncDecl k f c) h =
    function_tight f
    (numbered_left (func_tokens f) (sign kind.Semicolon c ∷ [])
    (numbered_tail (sign kind.Func k) (func_tokens f ++ (sign kind.Semicolon c ∷ [])) h))

one_numbered : (ds : List DeclTree) (d : DeclTree) → Numbered (all_tokens decl_tokens ds) → Holds ds d → Numbered (decl_tokens d)
unfolding all_tokens
one_numbered [] d h i = absurd i
one_numbered (x ∷ xs) d h i = elim i [
  | inl e ↦ subst (λ z. Numbered (decl_tokens z)) e (numbered_left (decl_tokens x) (all_tokens decl_tokens xs) h)
  | inr r ↦ one_numbered xs d (numbered_right (decl_tokens x) (all_tokens decl_tokens xs) h) r
]

tree_tight : (f : FileTree) → AreConsecutive 0 (flatten f) → (d : DeclTree) → Holds f.decls d → AllByRecursion IsTight (types_of d)
unfolding flatten
tree_tight f h d i =
    let imports = all_tokens imports_tokens f.imports in
    let decls = all_tokens decl_tokens f.decls in
    decl_tight d (one_numbered f.decls d (numbered_right imports decls (3, h.1.1.1)) i)

pub types_tight : (s : SourceFile) → IsSourceFile s → (d : DeclTree) → Holds s.tree.decls d → AllByRecursion IsTight (types_of d)
types_tight s is d i =
    tree_tight s.tree (subst (λ ts. AreConsecutive 0 ts) (sym is.is_tree.written) (consecutive 0 s.cut.text (tokens_in s.cut))) d i
