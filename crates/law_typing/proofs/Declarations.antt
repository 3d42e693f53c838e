-- Package-level declarations and files: a typed one has no fault, and one without a fault is typed or excused.
use Rattle.std.proofs.Common.{ℕ, ◌≡◌, ◌==◌, Bool, ◌⊎◌, inl, inr, List, [], ◌∷◌, ◌++◌, map, length, Option, Some, None, refl, sym, ap, ◌∙◌, suc, eqb-true}
use Rattle.go_ast.specs.Tree.{Item, BasicTree, Integer, String, GlobalTree, FieldTree, ParamTree, MethodTree, BodyTree, TypeSpecTree, DeclTree, FileTree}
use Rattle.go_ast.specs.Tree as tree
use Rattle.types_expr.specs.declared.types.Basic.TheVariants as basic
use Rattle.types_expr.specs.Types.{PlainType, ValueKind, Untyped}
use Rattle.types_expr.specs.World.{World, Locals, no_locals}
use Rattle.types_expr.specs.Judge.{ListValue, judge_type}
use Rattle.types_stmt.specs.Checked.{FoundSoFar}
use Rattle.types_stmt.specs.Sides.{Target, Wants, all_refused}
use Rattle.types_stmt.specs.Declarations.{literal_value, first_name, literal_faults, value_faults, global_faults, field_faults, body_faults, check_global}
use Rattle.types_stmt.specs.Declarations.{param_faults, asked_faults, check_type, check_decl, check_decls, check_file, global_enterings}
use Rattle.types_stmt.specs.Headers.{judge_results}
use Rattle.law_typing.specs.Names.{IsType}
use Rattle.law_typing.proofs.Judgements.{empty_first, empty_second, empty_both}
use Rattle.law_typing.proofs.Naming.{type_true, true_type}
use Rattle.law_typing.proofs.BrokenRules.{no_fault, type_or_broken}
use Rattle.law_typing.proofs.Arguments.{AreOf}
use Rattle.law_typing.specs.Assignments.{OfType, TakenInTurn}
use Rattle.law_typing.specs.Declarations.{FunctionIsTyped, AreLiterals, no_literal, an_integer, a_string, GlobalIsTyped, without_values}
use Rattle.law_typing.specs.Declarations.{with_literals, FieldsAreTyped, no_field_left, also_field, BodyIsTyped, another_type, a_struct}
use Rattle.law_typing.specs.Declarations.{TypeIsTyped, a_definition_of, DeclIsTyped, variables, types, one_function, DeclsAreTyped, no_decl}
use Rattle.law_typing.specs.Declarations.{also_decl, FileIsTyped, a_file, AskedAreTyped, no_param_left, also_param, MethodsAreTyped, no_method_left}
use Rattle.law_typing.specs.Declarations.{also_method, an_interface}
use Rattle.law_typing.specs.Excused.{GlobalIsExcused, global_of_broken, FieldIsBroken, this_field, later_field, BodyIsBroken, other_broken}
use Rattle.law_typing.specs.Excused.{in_struct, TypeIsExcused, in_type_body, DeclIsExcused, in_variables, in_types, in_function, DeclsAreExcused}
use Rattle.law_typing.specs.Excused.{this_decl, later_decl, FileIsExcused, in_file, AskedIsBroken, this_param, later_param, MethodIsBroken, in_asked}
use Rattle.law_typing.specs.Excused.{in_asked_result, later_method, in_interface}
use Rattle.law_typing.proofs.Assignments.{aim, as_many, none_refused, all_taken, counted, right_count}
use Rattle.law_typing.proofs.PartOutcomes.{IsAt, reached, held, IsSettled, group_true, group_settled}
use Rattle.law_typing.proofs.Locals.{same_aims}
use Rattle.law_typing.proofs.Headers.{results_true, results_settled, function_true, function_settled}

-- variables

abbrev pub literals : List (Item BasicTree) → List ListValue
literals is = map (λ i. literal_value i.value) is

literal_kinds : {is : List (Item BasicTree)} {ks : List ValueKind} → AreLiterals is ks → AreOf (literals is) ks
literal_kinds no_literal = tt
literal_kinds (an_integer e more) = (ap (λ z. (literal_value z).kind) e, literal_kinds more)
literal_kinds (a_string e more) = (ap (λ z. (literal_value z).kind) e, literal_kinds more)

record AreLiteralsFound (is : List (Item BasicTree)) : Type 0 where
  kinds : List ValueKind
  are : AreLiterals is kinds

literal_before : (i : Item BasicTree) (is : List (Item BasicTree)) (b : BasicTree) → i.value ≡ b → AreLiteralsFound is → AreLiteralsFound (i ∷ is)
literal_before i is (Integer p) e f = record { kinds = Untyped basic.Int ∷ f.kinds; are = an_integer e f.are }
literal_before i is (String p) e f = record { kinds = Untyped basic.String ∷ f.kinds; are = a_string e f.are }

literals_found : (is : List (Item BasicTree)) → AreLiteralsFound is
literals_found [] = record { kinds = []; are = no_literal }
literals_found (i ∷ is) = literal_before i is i.value refl (literals_found is)

wants_are : {X : Type 0} (names : List X) (t : PlainType) → map (λ i. Wants (Some t)) names ≡ map aim (map (λ i. OfType t) names)
wants_are names t = same_aims names (OfType t)

same_length : {X : Type 0} (f : X → Target) (names : List X) → length (map f names) ≡ length names
same_length f [] = refl
same_length f (x ∷ xs) = ap suc (same_length f xs)

pub length_of : (is : List (Item BasicTree)) → length (literals is) ≡ length is
length_of [] = refl
length_of (x ∷ xs) = ap suc (length_of xs)

literals_silent : (w : World) (names : List (Item ℕ)) (t : PlainType) {is : List (Item BasicTree)} {ks : List ValueKind} → AreLiterals is ks →
    TakenInTurn w ks (map (λ i. OfType t) names) → literal_faults w names (Some t) is ≡ []
unfolding literal_faults
literals_silent w names t {is} l u = let a = literal_kinds l in let e = wants_are names t in
    right_count (all_refused w (literals is) (map (λ i. Wants (Some t)) names)) (first_name names ∷ [])
    (sym (length_of is) ∙ (as_many w (literals is) a u ∙ (ap length (sym e) ∙ same_length (λ i. Wants (Some t)) names))) (ap (all_refused w
    (literals is)) e ∙ none_refused w (literals is) a u)

silent_literals : (w : World) (names : List (Item ℕ)) (t : PlainType) (is : List (Item BasicTree)) (l : AreLiteralsFound is) →
    literal_faults w names (Some t) is ≡ [] → TakenInTurn w l.kinds (map (λ i. OfType t) names)
unfolding literal_faults
silent_literals w names t is l h = let e = wants_are names t in
    counted (length is == length names) (all_refused w (literals is) (map (λ i. Wants (Some t)) names)) (first_name names ∷ []) h (λ q. no_fault q)
    (λ c q. all_taken w (literals is) l.kinds (map (λ i. OfType t) names) (literal_kinds l.are)
    (length_of is ∙ (eqb-true (length is) (length names) c ∙ (sym (same_length (λ i. Wants (Some t)) names)
    ∙ ap length e))) (ap (all_refused w (literals is)) (sym e) ∙ q))

-- variables of a type

without_silent : (w : World) (g : GlobalTree) (t : PlainType) → g.values ≡ None → value_faults w g.names (Some t) g.values ≡ []
unfolding value_faults
without_silent w g t e = ap (value_faults w g.names (Some t)) e

with_silent : (w : World) (g : GlobalTree) (t : PlainType) {v : ℕ × List (Item BasicTree)} {ks : List ValueKind} → g.values ≡ Some v → AreLiterals v.1 ks →
    TakenInTurn w ks (map (λ i. OfType t) g.names) →
    value_faults w g.names (Some t) g.values ≡ []
unfolding value_faults
with_silent w g t e l u = ap (value_faults w g.names (Some t)) e ∙ literals_silent w g.names t l u

global_silent : (w : World) (g : GlobalTree) (t : PlainType) → IsType w g.type_use t → value_faults w g.names (Some t) g.values ≡ [] → global_faults w g ≡ []
unfolding global_faults
global_silent w g t i h = ap (λ z. z.faults ++ value_faults w g.names z.type_of g.values) (type_true w i) ∙ h

pub global_true : (w : World) (s : FoundSoFar) (g : GlobalTree) (after : Locals) → s.faults ≡ [] → GlobalIsTyped w s.locals g after →
    IsAt (check_global w s g) after
global_true w s g after h (without_values {t = t} i e) =
    reached s (global_faults w g) (global_enterings w g) h (global_silent w g t i (without_silent w g t e)) refl
global_true w s g after h (with_literals {t = t} i e l u) =
    reached s (global_faults w g) (global_enterings w g) h (global_silent w g t i (with_silent w g t e l u)) refl

values_cases : (w : World) (locals : Locals) (g : GlobalTree) (t : PlainType) (v : Option (ℕ × List (Item BasicTree))) → g.values ≡ v →
    IsType w g.type_use t → value_faults w g.names (Some t) v ≡ [] → GlobalIsTyped w locals g locals
unfolding value_faults
values_cases w locals g t None e i h = without_values i e
values_cases w locals g t (Some v) e i h = let l = literals_found v.1 in with_literals i e l.are (silent_literals w g.names t v.1 l h)

global_parts : (w : World) (locals : Locals) (g : GlobalTree) → global_faults w g ≡ [] → GlobalIsTyped w locals g locals ⊎ GlobalIsExcused w locals g
unfolding global_faults
global_parts w locals g h = let v = value_faults w g.names (judge_type w g.type_use).type_of g.values in
    elim (type_or_broken w g.type_use (empty_first (judge_type w g.type_use).faults v h)) [
      | inl t ↦ inl (values_cases w locals g t.0 g.values refl (true_type w g.type_use t.0 t.1)
          (ap (λ z. value_faults w g.names z g.values) (sym t.1) ∙ empty_second (judge_type w g.type_use).faults v h))
      | inr b ↦ inr (global_of_broken b)
    ]

global_settled : (w : World) (s : FoundSoFar) (g : GlobalTree) → (check_global w s g).faults ≡ [] →
    IsSettled (GlobalIsTyped w) (GlobalIsExcused w) s g (check_global w s g)
global_settled w s g h = (empty_first s.faults (global_faults w g) h, global_parts w s.locals g (empty_second s.faults (global_faults w g) h))

-- types

fields_silent : (w : World) {is : List (Item FieldTree)} → FieldsAreTyped w is → field_faults w is ≡ []
unfolding field_faults
fields_silent w no_field_left = refl
fields_silent w (also_field {i} {is} t more) = empty_both (judge_type w i.value.type_use).faults (field_faults w is) (ap (λ z. z.faults) (type_true w t))
    (fields_silent w more)

fields_settled : (w : World) (is : List (Item FieldTree)) → field_faults w is ≡ [] → FieldsAreTyped w is ⊎ FieldIsBroken w is
unfolding field_faults
fields_settled w [] h = inl no_field_left
fields_settled w (i ∷ is) h = elim (type_or_broken w i.value.type_use (empty_first (judge_type w i.value.type_use).faults (field_faults w is) h)) [
  | inl t ↦ elim (fields_settled w is (empty_second (judge_type w i.value.type_use).faults (field_faults w is) h)) [
    | inl more ↦ inl (also_field
        (true_type w i.value.type_use t.0 t.1) more)
    | inr b ↦ inr (later_field b)
  ]
  | inr b ↦ inr (this_field b)
]

-- the methods that an interface asks for

asked_silent : (w : World) {is : List (Item ParamTree)} → AskedAreTyped w is → param_faults w is ≡ []
unfolding param_faults
asked_silent w no_param_left = refl
asked_silent w (also_param {i} {is} t more) = empty_both (judge_type w i.value.type_use).faults (param_faults w is) (ap (λ z. z.faults) (type_true w t))
    (asked_silent w more)

asked_settled : (w : World) (is : List (Item ParamTree)) → param_faults w is ≡ [] → AskedAreTyped w is ⊎ AskedIsBroken w is
unfolding param_faults
asked_settled w [] h = inl no_param_left
asked_settled w (i ∷ is) h = elim (type_or_broken w i.value.type_use (empty_first (judge_type w i.value.type_use).faults (param_faults w is) h)) [
  | inl t ↦ elim (asked_settled w is (empty_second (judge_type w i.value.type_use).faults (param_faults w is) h)) [
    | inl more ↦ inl (also_param (true_type w i.value.type_use t.0 t.1) more)
    | inr b ↦ inr (later_param b)
  ]
  | inr b ↦ inr (this_param b)
]

methods_silent : (w : World) {is : List (Item MethodTree)} → MethodsAreTyped w is → asked_faults w is ≡ []
unfolding asked_faults
methods_silent w no_method_left = refl
methods_silent w (also_method {i} {is} ps rs more) =
    empty_both (param_faults w i.value.params) ((judge_results w i.value.result).faults ++ asked_faults w is) (asked_silent w ps)
    (empty_both (judge_results w i.value.result).faults (asked_faults w is) (results_true w rs).faultless (methods_silent w more))

methods_settled : (w : World) (is : List (Item MethodTree)) → asked_faults w is ≡ [] → MethodsAreTyped w is ⊎ MethodIsBroken w is
unfolding asked_faults
methods_settled w [] h = inl no_method_left
methods_settled w (i ∷ is) h =
    let behind = (judge_results w i.value.result).faults ++ asked_faults w is in
    let later = empty_second (param_faults w i.value.params) behind h in
    elim (asked_settled w i.value.params (empty_first (param_faults w i.value.params) behind h)) [
      | inl ps ↦ elim (results_settled w i.value.result (empty_first (judge_results w i.value.result).faults (asked_faults w is) later)) [
        | inl rs ↦ elim (methods_settled w is (empty_second (judge_results w i.value.result).faults (asked_faults w is) later)) [
          | inl more ↦ inl (also_method ps rs.typed more)
          | inr b ↦ inr (later_method b)
        ]
        | inr b ↦ inr (in_asked_result b)
      ]
      | inr b ↦ inr (in_asked b)
    ]

body_silent : (w : World) {b : BodyTree} → BodyIsTyped w b → body_faults w b ≡ []
unfolding body_faults
body_silent w (another_type t) = ap (λ z. z.faults) (type_true w t)
body_silent w (a_struct fs) = fields_silent w fs
body_silent w (an_interface ms) = methods_silent w ms

body_settled : (w : World) (b : BodyTree) → body_faults w b ≡ [] → BodyIsTyped w b ⊎ BodyIsBroken w b
unfolding body_faults
body_settled w (tree.Other x) h = elim (type_or_broken w x h) [ inl t ↦ inl (another_type (true_type w x t.0 t.1)) | inr b ↦ inr (other_broken b) ]
body_settled w (tree.Struct p o is c) h = elim (fields_settled w is h) [ inl f ↦ inl (a_struct f) | inr b ↦ inr (in_struct b) ]
body_settled w (tree.Interface p o is c) h = elim (methods_settled w is h) [ inl f ↦ inl (an_interface f) | inr b ↦ inr (in_interface b) ]

pub type_spec_true : (w : World) (s : FoundSoFar) (t : TypeSpecTree) (after : Locals) → s.faults ≡ [] → TypeIsTyped w s.locals t after →
    IsAt (check_type w s t) after
type_spec_true w s t after h (a_definition_of b) = reached s (body_faults w t.body) [] h (body_silent w b) refl

type_spec_settled : (w : World) (s : FoundSoFar) (t : TypeSpecTree) → (check_type w s t).faults ≡ [] →
    IsSettled (TypeIsTyped w) (TypeIsExcused w) s t (check_type w s t)
type_spec_settled w s t h = (
  empty_first s.faults (body_faults w t.body) h,
  elim (body_settled w t.body (empty_second s.faults
      (body_faults w t.body) h)) [ inl b ↦ inl (a_definition_of b) | inr b ↦ inr (in_type_body b) ],
)

-- declarations

pub decl_true : (w : World) (is_init : ℕ → Bool) (s : FoundSoFar) {d : DeclTree} {before after : Locals} → IsAt s before →
    DeclIsTyped w is_init before d after → IsAt (check_decl w is_init s d) after
unfolding check_decl
decl_true w is_init s a (variables g) = group_true (GlobalIsTyped w) (check_global w) (global_true w) g s a
decl_true w is_init s a (types g) = group_true (TypeIsTyped w) (check_type w) (type_spec_true w) g s a
decl_true w is_init s a (one_function {after = after} {f = f} r) = function_true w (is_init f.name) s f after a.faultless (held (FunctionIsTyped w
    (is_init f.name)) a r)

pub decl_settled : (w : World) (is_init : ℕ → Bool) (s : FoundSoFar) (d : DeclTree) → (check_decl w is_init s d).faults ≡ [] →
    (s.faults ≡ []) × (DeclIsTyped w is_init s.locals d (check_decl w is_init s d).locals ⊎ DeclIsExcused w s.locals d)
unfolding check_decl
decl_settled w is_init s (tree.VarDecl p g c) h = let q = group_settled (GlobalIsTyped w) (GlobalIsExcused w) (check_global w) (global_settled w) g s h in
    (q.0, elim q.1 [ inl r ↦ inl (variables r) | inr e ↦ inr (in_variables e) ])
decl_settled w is_init s (tree.TypeDecl p g c) h = let q = group_settled (TypeIsTyped w) (TypeIsExcused w) (check_type w) (type_spec_settled w) g s h in
    (q.0, elim q.1 [ inl r ↦ inl (types r) | inr e ↦ inr (in_types e) ])
decl_settled w is_init s (tree.FuncDecl p f c) h = let q = function_settled w (is_init f.name) s f h in
    (q.0, elim q.1 [ inl r ↦ inl (one_function r) | inr e ↦ inr (in_function e) ])

decls_true : (w : World) (is_init : ℕ → Bool) {ds : List DeclTree} {before after : Locals} → DeclsAreTyped w is_init before ds after → (s : FoundSoFar) →
    IsAt s before → IsAt (check_decls w is_init s ds) after
unfolding check_decls
decls_true w is_init no_decl s a = a
decls_true w is_init (also_decl {d = d} r more) s a = decls_true w is_init more (check_decl w is_init s d) (decl_true w is_init s a r)

decls_settled : (w : World) (is_init : ℕ → Bool) (ds : List DeclTree) (s : FoundSoFar) → (check_decls w is_init s ds).faults ≡ [] →
    (s.faults ≡ []) × (DeclsAreTyped w is_init s.locals ds (check_decls w is_init s ds).locals ⊎ DeclsAreExcused w is_init s.locals ds)
unfolding check_decls
decls_settled w is_init [] s h = (h, inl no_decl)
decls_settled w is_init (d ∷ ds) s h = let q = decls_settled w is_init ds (check_decl w is_init s d) h in
    let r = decl_settled w is_init s d q.0 in
    (r.0, elim r.1 [ inl x ↦ elim q.1 [ inl y ↦ inl (also_decl x y) | inr e ↦ inr (later_decl x e) ] | inr e ↦ inr (this_decl e) ])

-- files

pub file_true : (w : World) (is_init : ℕ → Bool) (f : FileTree) → FileIsTyped w is_init f → (check_file w is_init f).faults ≡ []
unfolding check_file
file_true w is_init f (a_file ds) = let a = decls_true w is_init ds (record { locals = no_locals; faults = []; uses = [] }) (record {
  locals_are = refl;
  faultless = refl;
}) in a.faultless

pub file_settled : (w : World) (is_init : ℕ → Bool) (f : FileTree) → (check_file w is_init f).faults ≡ [] → FileIsTyped w is_init f ⊎ FileIsExcused w is_init f
unfolding check_file
file_settled w is_init f h = let q = decls_settled w is_init f.decls (record { locals = no_locals; faults = []; uses = [] }) h in elim q.1 [
  | inl r ↦ inl
      (a_file r)
  | inr e ↦ inr (in_file e)
]
