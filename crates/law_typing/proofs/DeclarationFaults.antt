-- Package-level declarations and files: the check finds a fault at exactly the tokens where a rule is broken.
use Rattle.std.proofs.Common.{ℕ, ◌≡◌, ◌==◌, Bool, true, false, if◌then◌else◌, ◌⊎◌, inl, inr, List, [], ◌∷◌, map, length, Option, Some, None, refl, sym, ap}
use Rattle.std.proofs.Common.{◌++◌, ◌∙◌, subst, suc, true≢false, eq-eqb, eqb-true}
use Rattle.go_ast.specs.Tree.{Item, Group, BasicTree, Integer, String, GlobalTree, FieldTree, BodyTree, TypeSpecTree, DeclTree, FileTree}
use Rattle.go_ast.specs.Tree as tree
use Rattle.types_expr.specs.declared.types.Basic.TheVariants as basic
use Rattle.types_expr.specs.Types.{PlainType, Untyped}
use Rattle.types_expr.specs.World.{World, Locals, no_locals}
use Rattle.types_expr.specs.Operations.{fits}
use Rattle.types_expr.specs.Judge.{judge_type, misfit}
use Rattle.types_stmt.specs.Checked.{FoundSoFar, check_items, check_group}
use Rattle.types_stmt.specs.Sides.{Wants, refused_at, all_refused}
use Rattle.types_stmt.specs.Declarations.{literal_value, first_name, literal_faults, value_faults, global_faults, field_faults, body_faults, check_global}
use Rattle.types_stmt.specs.Declarations.{param_faults, asked_faults, check_type, check_decl, check_decls, check_file}
use Rattle.types_stmt.specs.Headers.{judge_results}
use Rattle.law_typing.specs.Fits.{FitsType}
use Rattle.law_typing.specs.Names.{IsType}
use Rattle.law_typing.specs.Faults.{IsNoType}
use Rattle.law_typing.proofs.Naming.{type_true, true_type}
use Rattle.law_typing.proofs.Fitting.{fits_true, true_fits}
use Rattle.law_typing.proofs.Declarations.{literals}
use Rattle.law_typing.specs.DeclarationFaults.{LiteralMisfits, no_int, no_string, later_literal, GlobalBreaksAt, in_global_type, literal_misfit, wrong_literals}
use Rattle.law_typing.specs.DeclarationFaults.{FieldBreaksAt, this_field, later_field, BodyBreaksAt, in_other, in_struct, in_interface, TypeBreaksAt}
use Rattle.law_typing.specs.DeclarationFaults.{in_type_body, DeclaresNone, stays, DeclDeclares, behind_variables}
use Rattle.law_typing.specs.DeclarationFaults.{behind_types, behind_one_function, DeclBreaksAt, in_variables, in_types}
use Rattle.law_typing.specs.DeclarationFaults.{in_function, DeclsBreakAt, this_decl, later_decl, FileBreaksAt, in_file, ResultBreaksAt, AskedBreaksAt}
use Rattle.law_typing.specs.DeclarationFaults.{this_param, later_param, MethodBreaksAt, in_asked, in_asked_result, later_method}
use Rattle.law_typing.proofs.FaultLists.{HasToken, AreExactly, none_told, both_told, told_as, At, at_place, fault_at, test_told, some_same, none_some}
use Rattle.law_typing.proofs.TypeFaults.{type_told}
use Rattle.law_typing.proofs.SequenceFaults.{IsExact, group_told}
use Rattle.law_typing.proofs.SimpleFaults.{told_of}
use Rattle.law_typing.proofs.LocalFaults.{same_one}
use Rattle.law_typing.proofs.HeaderFaults.{function_told, results_told}

-- literals

-- a literal that does not fit
abbrev Misfits : World → PlainType → BasicTree → Type 0
Misfits w t (Integer n) = FitsType w (Untyped basic.Int) t → ⊥
Misfits w t (String n) = FitsType w (Untyped basic.String) t → ⊥

literal_told : (w : World) (t : PlainType) (b : BasicTree) → AreExactly (refused_at w (literal_value b).place (literal_value b).kind (Wants (Some t)))
    (At (literal_value b).place (Misfits w t b))
unfolding refused_at misfit
literal_told w t (Integer n) = test_told (fits w (Untyped basic.Int) t) n (λ e m. m (true_fits w (Untyped basic.Int) t e))
    (λ e f. true≢false (sym (fits_true w f) ∙ e))
literal_told w t (String n) = test_told (fits w (Untyped basic.String) t) n (λ e m. m (true_fits w (Untyped basic.String) t e))
    (λ e f. true≢false (sym (fits_true w f) ∙ e))

misfit_of : (w : World) (t : PlainType) (i : Item BasicTree) (is : List (Item BasicTree)) (b : BasicTree) → i.value ≡ b → Misfits w t b →
    LiteralMisfits w t (i ∷ is) (literal_value b).place
misfit_of w t i is (Integer n) e m = no_int e m
misfit_of w t i is (String n) e m = no_string e m

misfit_here : (w : World) (t : PlainType) (i : Item BasicTree) {b : BasicTree} {p : ℕ} → i.value ≡ b → (literal_value b).place ≡ p → Misfits w t b →
    At (literal_value i.value).place (Misfits w t i.value) p
misfit_here w t i {b} {p} e h m = subst (λ z. At (literal_value z).place (Misfits w t z) p) (sym e) (h, m)

misfit_cases : {w : World} {t : PlainType} {i : Item BasicTree} {is : List (Item BasicTree)} {p : ℕ} → LiteralMisfits w t (i ∷ is) p →
    At (literal_value i.value).place (Misfits w t i.value) p ⊎ LiteralMisfits w t is p
misfit_cases {w} {t} {i} (no_int e m) = inl (misfit_here w t i e refl m)
misfit_cases {w} {t} {i} (no_string e m) = inl (misfit_here w t i e refl m)
misfit_cases (later_literal b) = inr b

suc_same : {m n : ℕ} → suc m ≡ suc n → m ≡ n
suc_same e = cc

literals_told : (w : World) (t : PlainType) (names : List (Item ℕ)) (is : List (Item BasicTree)) → length is ≡ length names →
    AreExactly (all_refused w (literals is) (map (λ i. Wants (Some t)) names)) (LiteralMisfits w t is)
unfolding all_refused
literals_told w t names [] e = none_told (λ p b. elim b [ ])
literals_told w t [] (i ∷ is) e = absurd (no_more e)
  where
    no_more : {n : ℕ} → suc n ≡ 0 → ⊥
    no_more h = cc
literals_told w t (n ∷ names) (i ∷ is) e = both_told (refused_at w (literal_value i.value).place (literal_value i.value).kind (Wants (Some t))) (all_refused w
    (literals is)
    (map (λ j. Wants (Some t)) names)) (literal_told w t i.value) (literals_told w t names is (suc_same e))
    (at_place (LiteralMisfits w t (i ∷ is)) (λ m. misfit_of w t i is i.value refl m)) (λ p b. later_literal b) (λ p b. misfit_cases b)

-- where the type is broken, no literal is refused
none_refused : (w : World) (names : List (Item ℕ)) (is : List (Item BasicTree)) → all_refused w (literals is) (map (λ i. Wants None) names) ≡ []
unfolding all_refused refused_at
none_refused w names [] = refl
none_refused w [] (i ∷ is) = refl
none_refused w (n ∷ names) (i ∷ is) = none_refused w names is

-- variables

abbrev Literals : Type 0
Literals = ℕ × List (Item BasicTree)

-- the values of variables have a fault at this token
data ValuesBreak (w : World) (g : GlobalTree) : ℕ → Type 0 where
  a_misfit : {t : PlainType} {v : Literals} {p : ℕ} → g.values ≡ Some v → IsType w g.type_use t → length v.1 ≡ length g.names → LiteralMisfits w t v.1 p →
      ValuesBreak w g p
  a_wrong_count : {v : Literals} → g.values ≡ Some v → (length v.1 ≡ length g.names → ⊥) → ValuesBreak w g (first_name g.names)

type_is : (w : World) (g : GlobalTree) (o : Option PlainType) → (judge_type w g.type_use).type_of ≡ o → {t : PlainType} → IsType w g.type_use t → o ≡ Some t
type_is w g o e i = sym e ∙ ap (λ z. z.type_of) (type_true w i)

count_right : {w : World} {g : GlobalTree} {p : ℕ} {v : Literals} → g.values ≡ Some v → length v.1 ≡ length g.names → ValuesBreak w g p →
    (t : PlainType) × IsType w g.type_use t × LiteralMisfits w t v.1 p
count_right {w} {g} {p} f n (a_misfit {t = t} h i m b) = (t, i, subst (λ (z : Literals). LiteralMisfits w t z.1 p) (same_one h f) b)
count_right {w} {g} f n (a_wrong_count {v = u} h m) = absurd (m (ap (λ (z : Literals). length z.1) (same_one h f) ∙ n))

count_wrong : {w : World} {g : GlobalTree} {p : ℕ} {v : Literals} → g.values ≡ Some v → (length v.1 ≡ length g.names → ⊥) → ValuesBreak w g p →
    At (first_name g.names) (Unit {0}) p
count_wrong f n (a_misfit h i m b) = absurd (n (ap (λ (z : Literals). length z.1) (sym (same_one h f)) ∙ m))
count_wrong f n (a_wrong_count h m) = (refl, tt)

refused_of : (w : World) (g : GlobalTree) (v : Literals) (o : Option PlainType) → (judge_type w g.type_use).type_of ≡ o → g.values ≡ Some v →
    length v.1 ≡ length g.names → AreExactly (all_refused w (literals v.1) (map (λ i. Wants o) g.names)) (ValuesBreak w g)
refused_of w g v (Some t) e f n = told_as (literals_told w t g.names v.1 n) (λ p b. a_misfit f (true_type w g.type_use t e) n b) (λ p b.
    let q = count_right f n b in
    subst (λ z. LiteralMisfits w z v.1 p) (sym (some_same (type_is w g (Some t) e q.1))) q.2)
refused_of w g v None e f n = subst (λ z. AreExactly z (ValuesBreak w g)) (sym (none_refused w g.names v.1)) (none_told (λ p b.
    let q = count_right f n b in
    none_some refl (type_is w g None e q.1)))

counted : (w : World) (g : GlobalTree) (v : Literals) (o : Option PlainType) → (judge_type w g.type_use).type_of ≡ o → g.values ≡ Some v → (c : Bool) →
    (length v.1 == length g.names) ≡ c → AreExactly (if c then all_refused w (literals v.1) (map (λ i. Wants o) g.names) else (first_name g.names ∷ []))
    (ValuesBreak w g)
counted w g v o e f true h = refused_of w g v o e f (eqb-true (length v.1) (length g.names) h)
counted w g v o e f false h = let n : length v.1 ≡ length g.names → ⊥ = λ q. true≢false (sym (eq-eqb (length v.1) (length g.names) q) ∙ h) in
    told_as (fault_at (first_name g.names) {C = Unit {0}} tt) (at_place (ValuesBreak w g) (λ c. a_wrong_count f n)) (λ p b. count_wrong f n b)

no_values : {w : World} {g : GlobalTree} {p : ℕ} → g.values ≡ None → ValuesBreak w g p → ⊥
no_values f (a_misfit h i m b) = none_some f h
no_values f (a_wrong_count h m) = none_some f h

values_by : (w : World) (g : GlobalTree) (o : Option PlainType) → (judge_type w g.type_use).type_of ≡ o → (v : Option Literals) → g.values ≡ v →
    AreExactly (value_faults w g.names o v) (ValuesBreak w g)
unfolding value_faults literal_faults
values_by w g o e None f = none_told (λ p b. no_values f b)
values_by w g o e (Some v) f = counted w g v o e f (length v.1 == length g.names) refl

global_cases : {w : World} {locals : Locals} {g : GlobalTree} {p : ℕ} → GlobalBreaksAt w locals g p → IsNoType w g.type_use p ⊎ ValuesBreak w g p
global_cases (in_global_type b) = inl b
global_cases (literal_misfit h i n b) = inr (a_misfit h i n b)
global_cases (wrong_literals h n) = inr (a_wrong_count h n)

values_break : {w : World} {g : GlobalTree} {p : ℕ} (locals : Locals) → ValuesBreak w g p → GlobalBreaksAt w locals g p
values_break locals (a_misfit h i n b) = literal_misfit h i n b
values_break locals (a_wrong_count h n) = wrong_literals h n

abbrev global_added : World → Locals → GlobalTree → List ℕ
global_added w locals g = global_faults w g

global_places : (w : World) (locals : Locals) (g : GlobalTree) → AreExactly (global_added w locals g) (GlobalBreaksAt w locals g)
unfolding global_faults
global_places w locals g = both_told (judge_type w g.type_use).faults (value_faults w g.names (judge_type w g.type_use).type_of g.values)
    (type_told w g.type_use)
    (values_by w g (judge_type w g.type_use).type_of refl g.values refl) (λ p b. in_global_type b) (λ p b. values_break locals b) (λ p b. global_cases b)

stays_at : {X : Type 0} {before after : Locals} {x : X} → DeclaresNone X before x after → before ≡ after
stays_at stays = refl

global_told : (w : World) → IsExact GlobalTree (DeclaresNone GlobalTree) (GlobalBreaksAt w) (check_global w)
global_told w = told_of GlobalTree (DeclaresNone GlobalTree) (GlobalBreaksAt w) (check_global w) (global_added w) (λ s g. stays) (λ s g after r. stays_at r)
    (λ s g. refl)
    (global_places w)

-- types

field_cases : {w : World} {i : Item FieldTree} {is : List (Item FieldTree)} {p : ℕ} → FieldBreaksAt w (i ∷ is) p →
    IsNoType w i.value.type_use p ⊎ FieldBreaksAt w is p
field_cases (this_field b) = inl b
field_cases (later_field b) = inr b

fields_told : (w : World) (is : List (Item FieldTree)) → AreExactly (field_faults w is) (FieldBreaksAt w is)
unfolding field_faults
fields_told w [] = none_told (λ p b. elim b [ ])
fields_told w (i ∷ is) = both_told (judge_type w i.value.type_use).faults (field_faults w is) (type_told w i.value.type_use) (fields_told w is)
    (λ p b. this_field b)
    (λ p b. later_field b) (λ p b. field_cases b)

asked_cases : {w : World} {i : Item tree.ParamTree} {is : List (Item tree.ParamTree)} {p : ℕ} → AskedBreaksAt w (i ∷ is) p →
    IsNoType w i.value.type_use p ⊎ AskedBreaksAt w is p
asked_cases (this_param b) = inl b
asked_cases (later_param b) = inr b

asked_told : (w : World) (is : List (Item tree.ParamTree)) → AreExactly (param_faults w is) (AskedBreaksAt w is)
unfolding param_faults
asked_told w [] = none_told (λ p b. elim b [ ])
asked_told w (i ∷ is) = both_told (judge_type w i.value.type_use).faults (param_faults w is) (type_told w i.value.type_use) (asked_told w is)
    (λ p b. this_param b) (λ p b. later_param b) (λ p b. asked_cases b)

-- the results of the first method, or what follows
abbrev LaterBreaks : World → tree.ResultTree → List (Item tree.MethodTree) → ℕ → Type 0
LaterBreaks w r is p = ResultBreaksAt w r p ⊎ MethodBreaksAt w is p

method_cases : {w : World} {i : Item tree.MethodTree} {is : List (Item tree.MethodTree)} {p : ℕ} → MethodBreaksAt w (i ∷ is) p →
    AskedBreaksAt w i.value.params p ⊎ LaterBreaks w i.value.result is p
method_cases (in_asked b) = inl b
method_cases (in_asked_result b) = inr (inl b)
method_cases (later_method b) = inr (inr b)

behind_first : {w : World} {i : Item tree.MethodTree} {is : List (Item tree.MethodTree)} {p : ℕ} → LaterBreaks w i.value.result is p →
    MethodBreaksAt w (i ∷ is) p
behind_first (inl b) = in_asked_result b
behind_first (inr b) = later_method b

methods_told : (w : World) (is : List (Item tree.MethodTree)) → AreExactly (asked_faults w is) (MethodBreaksAt w is)
unfolding asked_faults
methods_told w [] = none_told (λ p b. elim b [ ])
methods_told w (i ∷ is) = both_told (param_faults w i.value.params) ((judge_results w i.value.result).faults ++ asked_faults w is)
    (asked_told w i.value.params)
    (both_told (judge_results w i.value.result).faults (asked_faults w is) {B = LaterBreaks w i.value.result is} (results_told w i.value.result)
    (methods_told w is) (λ p b. inl b) (λ p b. inr b) (λ p b. b))
    (λ p b. in_asked b) (λ p b. behind_first b) (λ p b. method_cases b)

other_breaks : {w : World} {x : tree.TypeTree} {p : ℕ} → BodyBreaksAt w (tree.Other x) p → IsNoType w x p
other_breaks (in_other b) = b

struct_breaks : {w : World} {q o c p : ℕ} {is : List (Item FieldTree)} → BodyBreaksAt w (tree.Struct q o is c) p → FieldBreaksAt w is p
struct_breaks (in_struct b) = b

interface_breaks : {w : World} {q o c p : ℕ} {is : List (Item tree.MethodTree)} → BodyBreaksAt w (tree.Interface q o is c) p → MethodBreaksAt w is p
interface_breaks (in_interface b) = b

body_told : (w : World) (b : BodyTree) → AreExactly (body_faults w b) (BodyBreaksAt w b)
unfolding body_faults
body_told w (tree.Other x) = told_as (type_told w x) (λ p b. in_other b) (λ p b. other_breaks b)
body_told w (tree.Struct q o is c) = told_as (fields_told w is) (λ p b. in_struct b) (λ p b. struct_breaks b)
body_told w (tree.Interface q o is c) = told_as (methods_told w is) (λ p b. in_interface b) (λ p b. interface_breaks b)

type_breaks : {w : World} {locals : Locals} {t : TypeSpecTree} {p : ℕ} → TypeBreaksAt w locals t p → BodyBreaksAt w t.body p
type_breaks (in_type_body b) = b

abbrev type_added : World → Locals → TypeSpecTree → List ℕ
type_added w locals t = body_faults w t.body

type_places : (w : World) (locals : Locals) (t : TypeSpecTree) → AreExactly (type_added w locals t) (TypeBreaksAt w locals t)
type_places w locals t = told_as (body_told w t.body) (λ p b. in_type_body b) (λ p b. type_breaks b)

type_spec_told : (w : World) → IsExact TypeSpecTree (DeclaresNone TypeSpecTree) (TypeBreaksAt w) (check_type w)
type_spec_told w = told_of TypeSpecTree (DeclaresNone TypeSpecTree) (TypeBreaksAt w) (check_type w) (type_added w) (λ s t. stays) (λ s t after r. stays_at r)
    (λ s t. refl)
    (type_places w)

-- declarations

-- after a group that declares no local, the locals are those before it
items_stay : {X : Type 0} {B : Locals → X → ℕ → Type 0} {check : FoundSoFar → X → FoundSoFar} → IsExact X (DeclaresNone X) B check →
    (s : FoundSoFar) (is : List (Item X)) →
    (check_items check s is).locals ≡ s.locals
unfolding check_items
items_stay t s [] = refl
items_stay {check = check} t s (i ∷ is) = items_stay t (check s i.value) is ∙ t.only s i.value s.locals stays

group_stays : {X : Type 0} {B : Locals → X → ℕ → Type 0} {check : FoundSoFar → X → FoundSoFar} → IsExact X (DeclaresNone X) B check →
    (s : FoundSoFar) (g : Group X) →
    (check_group check s g).locals ≡ s.locals
unfolding check_group
group_stays t s (tree.single x) = t.only s x s.locals stays
group_stays t s (tree.several o is c) = items_stay t s is

decl_leads : (w : World) (is_init : ℕ → Bool) (s : FoundSoFar) (d : DeclTree) → DeclDeclares w s.locals d (check_decl w is_init s d).locals
unfolding check_decl
decl_leads w is_init s (tree.VarDecl q g c) = subst (λ z. DeclDeclares w s.locals (tree.VarDecl q g c) z) (sym (group_stays (global_told w) s g))
    behind_variables
decl_leads w is_init s (tree.TypeDecl q g c) = subst (λ z. DeclDeclares w s.locals (tree.TypeDecl q g c) z) (sym (group_stays (type_spec_told w) s g))
    behind_types
decl_leads w is_init s (tree.FuncDecl q f c) = let t = function_told w (is_init f.name) in behind_one_function (t.leads s f)

decl_only : (w : World) (is_init : ℕ → Bool) (s : FoundSoFar) (d : DeclTree) (after : Locals) → DeclDeclares w s.locals d after →
    (check_decl w is_init s d).locals ≡ after
unfolding check_decl
decl_only w is_init s (tree.VarDecl q g c) after behind_variables = group_stays (global_told w) s g
decl_only w is_init s (tree.TypeDecl q g c) after behind_types = group_stays (type_spec_told w) s g
decl_only w is_init s (tree.FuncDecl q f c) after (behind_one_function r) = let t = function_told w (is_init f.name) in t.only s f after r

decl_stays : (w : World) (is_init : ℕ → Bool) (s : FoundSoFar) (d : DeclTree) (p : ℕ) → HasToken s.faults p → HasToken (check_decl w is_init s d).faults p
unfolding check_decl
decl_stays w is_init s (tree.VarDecl q g c) p h = let t = group_told (global_told w) in t.stays s g p h
decl_stays w is_init s (tree.TypeDecl q g c) p h = let t = group_told (type_spec_told w) in t.stays s g p h
decl_stays w is_init s (tree.FuncDecl q f c) p h = let t = function_told w (is_init f.name) in t.stays s f p h

decl_found : (w : World) (is_init : ℕ → Bool) (s : FoundSoFar) (d : DeclTree) (p : ℕ) → HasToken (check_decl w is_init s d).faults p → HasToken s.faults p ⊎
    DeclBreaksAt w is_init s.locals d p
unfolding check_decl
decl_found w is_init s (tree.VarDecl q g c) p h = let t = group_told (global_told w) in elim (t.found s g p h) [ inl a ↦ inl a | inr b ↦ inr (in_variables b) ]
decl_found w is_init s (tree.TypeDecl q g c) p h = let t = group_told (type_spec_told w) in elim (t.found s g p h) [ inl a ↦ inl a | inr b ↦ inr (in_types b) ]
decl_found w is_init s (tree.FuncDecl q f c) p h = let t = function_told w (is_init f.name) in elim (t.found s f p h) [
  | inl a ↦ inl a
  | inr b ↦ inr
      (in_function b)
]

decl_stands : (w : World) (is_init : ℕ → Bool) (s : FoundSoFar) (d : DeclTree) (p : ℕ) → DeclBreaksAt w is_init s.locals d p →
    HasToken (check_decl w is_init s d).faults p
unfolding check_decl
decl_stands w is_init s (tree.VarDecl q g c) p (in_variables b) = let t = group_told (global_told w) in t.stands s g p b
decl_stands w is_init s (tree.TypeDecl q g c) p (in_types b) = let t = group_told (type_spec_told w) in t.stands s g p b
decl_stands w is_init s (tree.FuncDecl q f c) p (in_function b) = let t = function_told w (is_init f.name) in t.stands s f p b

pub decl_told : (w : World) (is_init : ℕ → Bool) → IsExact DeclTree (DeclDeclares w) (DeclBreaksAt w is_init) (check_decl w is_init)
decl_told w is_init = record {
  leads = decl_leads w is_init;
  only = decl_only w is_init;
  stays = decl_stays w is_init;
  found = decl_found w is_init;
  stands = decl_stands w is_init;
}

-- files

decls_stay : (w : World) (is_init : ℕ → Bool) (s : FoundSoFar) (ds : List DeclTree) (p : ℕ) → HasToken s.faults p →
    HasToken (check_decls w is_init s ds).faults p
unfolding check_decls
decls_stay w is_init s [] p h = h
decls_stay w is_init s (d ∷ ds) p h = decls_stay w is_init (check_decl w is_init s d) ds p (decl_stays w is_init s d p h)

decls_found : (w : World) (is_init : ℕ → Bool) (s : FoundSoFar) (ds : List DeclTree) (p : ℕ) → HasToken (check_decls w is_init s ds).faults p →
    HasToken s.faults p ⊎
    DeclsBreakAt w is_init s.locals ds p
unfolding check_decls
decls_found w is_init s [] p h = inl h
decls_found w is_init s (d ∷ ds) p h = elim (decls_found w is_init (check_decl w is_init s d) ds p h) [
  | inl a ↦ elim (decl_found w is_init s d p a) [ inl c ↦ inl c | inr b ↦ inr (this_decl b) ]
  | inr b ↦ inr (later_decl (decl_leads w is_init s d) b)
]

decls_stand : (w : World) (is_init : ℕ → Bool) (s : FoundSoFar) (ds : List DeclTree) (p : ℕ) → DeclsBreakAt w is_init s.locals ds p →
    HasToken (check_decls w is_init s ds).faults p
unfolding check_decls
decls_stand w is_init s [] p b = elim b [ ]
decls_stand w is_init s (d ∷ ds) p (this_decl b) = decls_stay w is_init (check_decl w is_init s d) ds p (decl_stands w is_init s d p b)
decls_stand w is_init s (d ∷ ds) p (later_decl {inside = inside} r b) = decls_stand w is_init (check_decl w is_init s d) ds p (subst
    (λ z. DeclsBreakAt w is_init z ds p) (sym (decl_only w is_init s d inside r)) b)

file_breaks : {w : World} {is_init : ℕ → Bool} {f : FileTree} {p : ℕ} → FileBreaksAt w is_init f p → DeclsBreakAt w is_init no_locals f.decls p
file_breaks (in_file b) = b

abbrev at_first : FoundSoFar
at_first = record { locals = no_locals; faults = []; uses = [] }

first_found : (w : World) (is_init : ℕ → Bool) (f : FileTree) (p : ℕ) → HasToken (check_decls w is_init at_first f.decls).faults p → FileBreaksAt w is_init f p
first_found w is_init f p h = elim (decls_found w is_init at_first f.decls p h) [ inl n ↦ absurd n | inr b ↦ in_file b ]

pub file_told : (w : World) (is_init : ℕ → Bool) (f : FileTree) → AreExactly (check_file w is_init f).faults (FileBreaksAt w is_init f)
unfolding check_file
file_told w is_init f = record {
  found = λ p h. first_found w is_init f p h;
  stands = λ p b. decls_stand w is_init at_first f.decls p (file_breaks b);
}
