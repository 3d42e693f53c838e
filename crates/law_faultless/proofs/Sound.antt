-- In a file without faults of types the Types in headers and declarations have none.
use Rattle.std.proofs.Common.{ℕ, ◌≡◌, inl, inr, Bool, List, [], ◌∷◌, ◌++◌, map, Option, Some, None, sym, subst, refl, ◌∙◌}
use Rattle.std.specs.List.{AllByRecursion, flat_map}
use Rattle.std.proofs.lemmas.Option.{none-some, same_Some}
use Rattle.base_lemmas.proofs.EachElement.{all_append}
use Rattle.go_ast.specs.Tree.{Item, Group, single, several, TypeTree, ReceiverTree, ParamTree, ResultTree, FuncTree, GlobalTree, FieldTree}
use Rattle.go_ast.specs.Tree.{MethodTree, BodyTree, TypeSpecTree, DeclTree, FileTree}
use Rattle.go_ast.specs.Tree as tree
use Rattle.types_declared.specs.Files.{group_items}
use Rattle.types_expr.specs.World.{World, no_locals}
use Rattle.types_expr.specs.Judge.{judge_type}
use Rattle.types_stmt.specs.Checked.{FoundSoFar, fault_if, check_items, check_group}
use Rattle.types_stmt.specs.Headers.{judge_receiver, check_receiver, check_optional_receiver, check_param, judge_types, judge_results, is_bad_init}
use Rattle.types_stmt.specs.Headers.{check_signature, check_function}
use Rattle.types_stmt.specs.Declarations.{global_faults, value_faults, field_faults, param_faults, asked_faults, body_faults, check_global, check_type}
use Rattle.types_stmt.specs.Declarations.{check_decl, check_decls, check_file}
use Rattle.law_typing.proofs.Judgements.{empty_first, empty_second}
use Rattle.law_typing.proofs.Statements.{block_first}
use Rattle.law_typing.proofs.Declarations.{decl_settled}
use Rattle.types_declared.specs.MeaningOf.{result_types}
use Rattle.types_declared.specs.Written.{signature_types, asked_types, written_types}
use Rattle.types_info.proofs.DeclKinds.{Holds}

-- the Types that are written in a declaration, before the body of a function
abbrev pub types_of : DeclTree → List TypeTree
types_of (tree.VarDecl k g s) = map (λ v. v.type_use) (group_items g)
types_of (tree.TypeDecl k g s) = flat_map (λ t. written_types t.body) (group_items g)
types_of (tree.FuncDecl k f s) = map (λ i. i.value.type_use) f.params ++ result_types f.result

abbrev pub IsSound : World → TypeTree → Type 0
IsSound w x = (judge_type w x).faults ≡ []

-- parts in turn, each of which adds its faults
module _ {X : Type 0} (check : FoundSoFar → X → FoundSoFar) (F : X → List ℕ) (one : (s : FoundSoFar) (x : X) → (check s x).faults ≡ s.faults ++ F x) where
  items_first : (is : List (Item X)) (s : FoundSoFar) → (check_items check s is).faults ≡ [] →
      (s.faults ≡ []) × AllByRecursion (λ x. F x ≡ []) (map (λ i. i.value) is)
  unfolding check_items
  items_first [] s h = (h, tt)
  items_first (i ∷ is) s h =
      let q = items_first is (check s i.value) h in
      let both : s.faults ++ F i.value ≡ [] = sym (one s i.value) ∙ q.0 in
      (empty_first s.faults (F i.value) both, (empty_second s.faults (F i.value) both, q.1))

  group_first : (g : Group X) (s : FoundSoFar) → (check_group check s g).faults ≡ [] → AllByRecursion (λ x. F x ≡ []) (group_items g)
  unfolding check_group
  group_first (single x) s h = (empty_second s.faults (F x) (sym (one s x) ∙ h), tt)
  group_first (several o is c) s h = (items_first is s h).1

-- variables and fields

variables_sound : (w : World) (gs : List GlobalTree) → AllByRecursion (λ g. global_faults w g ≡ []) gs → AllByRecursion (IsSound w) (map (λ g. g.type_use) gs)
unfolding global_faults
variables_sound w [] h = tt
variables_sound w (g ∷ gs) h =
    (empty_first (judge_type w g.type_use).faults (value_faults w g.names (judge_type w g.type_use).type_of g.values) h.0, variables_sound w gs h.1)

fields_sound : (w : World) (fs : List (Item FieldTree)) → field_faults w fs ≡ [] → AllByRecursion (IsSound w) (map (λ f. f.value.type_use) fs)
unfolding field_faults
fields_sound w [] h = tt
fields_sound w (f ∷ fs) h =
    let x = (judge_type w f.value.type_use).faults in
    (empty_first x (field_faults w fs) h, fields_sound w fs (empty_second x (field_faults w fs) h))

-- functions

params_first : (w : World) (is : List (Item ParamTree)) (s : FoundSoFar) → (check_items (check_param w) s is).faults ≡ [] →
    (s.faults ≡ []) × AllByRecursion (IsSound w) (map (λ i. i.value.type_use) is)
unfolding check_items check_param
params_first w [] s h = (h, tt)
params_first w (i ∷ is) s h =
    let q = params_first w is (check_param w s i.value) h in
    let x = (judge_type w i.value.type_use).faults in (empty_first s.faults x q.0, (empty_second s.faults x q.0, q.1))

receiver_first : (w : World) (o : Option ReceiverTree) (s : FoundSoFar) → (check_optional_receiver w s o).faults ≡ [] → (r : ReceiverTree) → o ≡ Some r →
    (judge_receiver w r).faults ≡ []
unfolding check_receiver
receiver_first w None s h r e = absurd (none-some r e)
receiver_first w (Some x) s h r e =
    subst (λ z. (judge_receiver w z).faults ≡ []) (same_Some x r e) (empty_second s.faults (judge_receiver w x).faults h)

types_first : (w : World) (is : List (Item TypeTree)) → (judge_types w is).faults ≡ [] → AllByRecursion (IsSound w) (map (λ i. i.value) is)
unfolding judge_types
types_first w [] h = tt
types_first w (i ∷ is) h =
    let x = (judge_type w i.value).faults in
    (empty_first x (judge_types w is).faults h, types_first w is (empty_second x (judge_types w is).faults h))

results_first : (w : World) (r : ResultTree) → (judge_results w r).faults ≡ [] → AllByRecursion (IsSound w) (result_types r)
unfolding judge_results
results_first w tree.no_result h = tt
results_first w (tree.one_result x) h = (empty_first (judge_type w x).faults [] h, tt)
results_first w (tree.results o is c) h = types_first w is h

-- definitions

asked_params_sound : (w : World) (is : List (Item ParamTree)) → param_faults w is ≡ [] → AllByRecursion (IsSound w) (map (λ i. i.value.type_use) is)
unfolding param_faults
asked_params_sound w [] h = tt
asked_params_sound w (i ∷ is) h =
    let x = (judge_type w i.value.type_use).faults in
    (empty_first x (param_faults w is) h, asked_params_sound w is (empty_second x (param_faults w is) h))

asked_sound : (w : World) (ms : List (Item MethodTree)) → asked_faults w ms ≡ [] → AllByRecursion (IsSound w) (asked_types ms)
unfolding asked_faults
asked_sound w [] h = tt
asked_sound w (m ∷ ms) h =
    let params = param_faults w m.value.params in
    let results = (judge_results w m.value.result).faults in
    let later = asked_faults w ms in
    let behind = empty_second params (results ++ later) h in
    all_append (IsSound w) (signature_types m.value.params m.value.result) (asked_types ms)
    (all_append (IsSound w) (map (λ i. i.value.type_use) m.value.params) (result_types m.value.result)
    (asked_params_sound w m.value.params (empty_first params (results ++ later) h)) (results_first w m.value.result (empty_first results later behind)))
    (asked_sound w ms (empty_second results later behind))

body_sound : (w : World) (b : BodyTree) → body_faults w b ≡ [] → AllByRecursion (IsSound w) (written_types b)
unfolding body_faults
body_sound w (tree.Other x) h = (h, tt)
body_sound w (tree.Struct p o fs c) h = fields_sound w fs h
body_sound w (tree.Interface p o ms c) h = asked_sound w ms h

definitions_sound : (w : World) (ts : List TypeSpecTree) → AllByRecursion (λ t. body_faults w t.body ≡ []) ts →
    AllByRecursion (IsSound w) (flat_map (λ t. written_types t.body) ts)
definitions_sound w [] h = tt
definitions_sound w (t ∷ ts) h =
    all_append (IsSound w) (written_types t.body) (flat_map (λ x. written_types x.body) ts) (body_sound w t.body h.0) (definitions_sound w ts h.1)

record Header (w : World) (f : FuncTree) : Type 0 where
  received : (r : ReceiverTree) → f.receiver ≡ Some r → (judge_receiver w r).faults ≡ []
  typed : AllByRecursion (IsSound w) (map (λ i. i.value.type_use) f.params ++ result_types f.result)

header : (w : World) (b : Bool) (s : FoundSoFar) (f : FuncTree) → (check_function w b s f).faults ≡ [] → Header w f
unfolding check_function check_signature
header w b s f h =
    let before = check_items (check_param w) (check_optional_receiver w s f.receiver) f.params in
    let init = fault_if (is_bad_init b f (judge_results w f.result).wanted) f.name in
    let results = (judge_results w f.result).faults in
    let all = block_first w (judge_results w f.result).wanted f.body (check_signature w b s f) h in
    let q = params_first w f.params (check_optional_receiver w s f.receiver) (empty_first before.faults (results ++ init) all) in
    record {
      received = receiver_first w f.receiver s q.0;
      typed = all_append (IsSound w) (map (λ i. i.value.type_use) f.params) (result_types f.result) q.1
          (results_first w f.result (empty_first results init (empty_second before.faults (results ++ init) all)));
    }

-- declarations

decl_sound : (w : World) (is_init : ℕ → Bool) (s : FoundSoFar) (d : DeclTree) → (check_decl w is_init s d).faults ≡ [] → AllByRecursion (IsSound w) (types_of d)
unfolding check_decl
decl_sound w is_init s (tree.VarDecl k g c) h = variables_sound w (group_items g) (group_first (check_global w) (global_faults w) (λ x y. refl) g s h)
decl_sound w is_init s (tree.TypeDecl k g c) h =
    definitions_sound w (group_items g) (group_first (check_type w) (λ t. body_faults w t.body) (λ x y. refl) g s h)
decl_sound w is_init s (tree.FuncDecl k f c) h = (header w (is_init f.name) s f h).typed

pub decls_first : (w : World) (is_init : ℕ → Bool) (ds : List DeclTree) (s : FoundSoFar) → (check_decls w is_init s ds).faults ≡ [] → s.faults ≡ []
unfolding check_decls
decls_first w is_init [] s h = h
decls_first w is_init (d ∷ ds) s h = (decl_settled w is_init s d (decls_first w is_init ds (check_decl w is_init s d) h)).0

one_decl : (w : World) (is_init : ℕ → Bool) (ds : List DeclTree) (s : FoundSoFar) (d : DeclTree) → (check_decls w is_init s ds).faults ≡ [] → Holds ds d →
    (a : FoundSoFar) × ((check_decl w is_init a d).faults ≡ [])
unfolding check_decls
one_decl w is_init [] s d h i = absurd i
one_decl w is_init (x ∷ xs) s d h i = elim i [
  | inl e ↦ (s, subst (λ z. (check_decl w is_init s z).faults ≡ []) e (decls_first w is_init xs (check_decl w is_init s x) h))
  | inr r ↦ one_decl w is_init xs (check_decl w is_init s x) d h r
]

pub types_sound : (w : World) (is_init : ℕ → Bool) (f : FileTree) → (check_file w is_init f).faults ≡ [] → (d : DeclTree) → Holds f.decls d →
    AllByRecursion (IsSound w) (types_of d)
unfolding check_file
types_sound w is_init f h d i =
    let a = one_decl w is_init f.decls (record { locals = no_locals; faults = []; uses = [] }) d h i in decl_sound w is_init a.0 d a.1

-- no definition writes a fault
pub bodies_sound : (w : World) (is_init : ℕ → Bool) (f : FileTree) → (check_file w is_init f).faults ≡ [] → (k c : ℕ) (g : Group TypeSpecTree) →
    Holds f.decls (tree.TypeDecl k g c) → AllByRecursion (λ t. body_faults w t.body ≡ []) (group_items g)
unfolding check_file check_decl
bodies_sound w is_init f h k c g i =
    let a = one_decl w is_init f.decls (record { locals = no_locals; faults = []; uses = [] }) (tree.TypeDecl k g c) h i in
    group_first (check_type w) (λ t. body_faults w t.body) (λ x y. refl) g a.0 a.1

pub receiver_sound : (w : World) (is_init : ℕ → Bool) (f : FileTree) → (check_file w is_init f).faults ≡ [] → (k c : ℕ) (g : FuncTree) →
    Holds f.decls (tree.FuncDecl k g c) → (r : ReceiverTree) → g.receiver ≡ Some r → (judge_receiver w r).faults ≡ []
unfolding check_file check_decl
receiver_sound w is_init f h k c g i r e =
    let a = one_decl w is_init f.decls (record { locals = no_locals; faults = []; uses = [] }) (tree.FuncDecl k g c) h i in
    (header w (is_init g.name) a.0 g a.1).received r e
