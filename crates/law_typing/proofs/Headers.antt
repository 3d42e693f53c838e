-- Functions: a typed one has no fault, and one without a fault is typed or excused.
use Rattle.std.proofs.Common.{ℕ, ◌≡◌, Bool, true, false, ◌&&◌, if◌then◌else◌, ◌⊎◌, inl, inr, List, [], ◌∷◌, ◌++◌, map, Option, Some, None, is_none}
use Rattle.std.proofs.Common.{option_map, refl, sym, ap, ◌∙◌, subst, true≢false}
use Rattle.go_ast.specs.Tree.{Item, TypeTree, ReceiverTree, ParamTree, ResultTree, FuncTree}
use Rattle.go_ast.specs.Tree as tree
use Rattle.types_expr.specs.declared.symbol.Symbol.{Symbol}
use Rattle.types_expr.specs.Types.{PlainType, BasicType, Defined, Pointer, Slice, Underlying, Plain}
use Rattle.types_expr.specs.Types.{PointerTo, SliceOf, Struct, Interface, Value, TypeName, Function}
use Rattle.types_expr.specs.Types.{BuiltinName, Package, Results, Broken, takes_no_methods}
use Rattle.types_expr.specs.World.{World, Locals, Bound, Local, Means, BrokenVariable, BrokenFunction, BrokenType}
use Rattle.types_expr.specs.Judge.{TypeJudged, judge_type, good_type, no_type_at, named_type}
use Rattle.types_stmt.specs.Checked.{FoundSoFar, fault_if, check_items}
use Rattle.types_stmt.specs.Sides.{Target, Wants, named as named_of, with_locals}
use Rattle.types_stmt.specs.Headers.{may_receive, receiver_or_fault, received, receiver_base, starred, judge_receiver, check_receiver, check_optional_receiver}
use Rattle.types_stmt.specs.Headers.{check_param, ResultsJudged, with_result, judge_types, judge_results, is_empty_list, is_bad_init, check_signature}
use Rattle.types_stmt.specs.Headers.{check_function}
use Rattle.types_stmt.specs.Statements.{check_block}
use Rattle.law_typing.proofs.Judgements.{empty_first, empty_second, empty_both}
use Rattle.law_typing.proofs.Naming.{type_true, true_type}
use Rattle.law_typing.proofs.BrokenRules.{no_fault, type_or_broken}
use Rattle.law_typing.specs.Sequences.{InTurn, IfPresent, absent, present, ExcusedIfPresent, excused_present}
use Rattle.law_typing.specs.Assignments.{OfType, DeclareAs}
use Rattle.law_typing.specs.Statements.{BlockIsTyped}
use Rattle.law_typing.specs.Declarations.{IsBehindStar, no_star, a_star, TakesNoMethods, a_pointer_takes_none}
use Rattle.law_typing.specs.Declarations.{an_interface_takes_none, ReceiverIsTyped, a_receiver, ParamIsTyped, a_param, AreTypes, no_type_left}
use Rattle.law_typing.specs.Declarations.{also_type, AreResults, none_written, one_written, several_written, KeepsInit, another_name, a_method}
use Rattle.law_typing.specs.Declarations.{a_plain_one, FunctionIsTyped, a_function}
use Rattle.law_typing.specs.Excused.{BlockIsExcused, ReceiverIsExcused, of_broken, ParamIsExcused, param_of_broken, AnyIsBrokenType, this_type}
use Rattle.law_typing.specs.Excused.{later_type, ResultIsExcused, one_broken, one_of_several, FunctionIsExcused, in_receiver, in_params, in_result}
use Rattle.law_typing.specs.Excused.{in_body}
use Rattle.law_typing.proofs.Assignments.{aim, single_as_true, single_as_found}
use Rattle.law_typing.proofs.PartOutcomes.{IsAt, here, reached, held, IsSettled, items_true, items_settled}
use Rattle.law_typing.proofs.Locals.{typed_names, found_as}
use Rattle.law_typing.proofs.Statements.{AreTargets, block_true, block_settled, block_first}

-- receivers

pub takes_some : (u : Underlying) → (TakesNoMethods u → ⊥) → takes_no_methods u ≡ false
takes_some (Plain b) n = refl
takes_some (PointerTo t) n = absurd (n a_pointer_takes_none)
takes_some (SliceOf t) n = refl
takes_some (Struct s) n = refl
takes_some (Interface s) n = absurd (n an_interface_takes_none)

pub takes_none : (u : Underlying) → takes_no_methods u ≡ false → TakesNoMethods u → ⊥
takes_none _ h a_pointer_takes_none = true≢false h
takes_none _ h an_interface_takes_none = true≢false h

abbrev defined_when : ℕ → Symbol → Bool → TypeJudged
defined_when place s c = record {
  type_of = (if c then good_type (Defined s) else no_type_at place).type_of;
  faults = [] ++ (if c then good_type
      (Defined s) else no_type_at place).faults;
}

pub base_true : (w : World) (place : ℕ) (s : Symbol) → (TakesNoMethods (w.definition s) → ⊥) →
    received w place (good_type (Defined s)) ≡ good_type (Defined s)
unfolding receiver_or_fault may_receive
base_true w place s n = ap (λ c. defined_when place s (if c then false else true)) (takes_some (w.definition s) n)

pub star_true : {o : Option ℕ} {t u : PlainType} → IsBehindStar o t u → starred o (good_type t) ≡ good_type u
star_true no_star = refl
star_true a_star = refl

receiver_type : (w : World) (r : ReceiverTree) {s : Symbol} {t : PlainType} → w.bound r.type_name ≡ Means (TypeName (Defined s)) →
    (TakesNoMethods (w.definition s) → ⊥) → IsBehindStar r.star (Defined s) t →
    judge_receiver w r ≡ good_type t
unfolding judge_receiver receiver_base named_type
receiver_type w r {s} e n b = ap (λ z. starred r.star (received w r.type_name (named_type z r.type_name))) e
    ∙ (ap (starred r.star) (base_true w r.type_name s n) ∙ star_true b)

pub receiver_true : (w : World) (s : FoundSoFar) (r : ReceiverTree) (after : Locals) → s.faults ≡ [] → ReceiverIsTyped w s.locals r after →
    IsAt (check_receiver w s r) after
unfolding check_receiver
receiver_true w s r after h (a_receiver e n b d) = let q = receiver_type w r e n b in
    reached s (judge_receiver w r).faults [] h (ap (λ (z : TypeJudged). z.faults) q)
    (ap (λ (z : TypeJudged). with_locals s.locals (named_of r.name ∷ []) (z.type_of ∷ [])) q ∙ single_as_true r.name d)

record IsBaseFound (w : World) (place : ℕ) (j : TypeJudged) : Type 0 where
  symbol : Symbol
  bound_is : w.bound place ≡ Means (TypeName (Defined symbol))
  takes : TakesNoMethods (w.definition symbol) → ⊥
  type_is : j.type_of ≡ Some (Defined symbol)

defined_base : (w : World) (place : ℕ) (s : Symbol) (c : Bool) → takes_no_methods (w.definition s) ≡ c → w.bound place ≡ Means (TypeName (Defined s)) →
    (if (if c then false else true) then good_type (Defined s) else no_type_at place).faults ≡ [] →
    IsBaseFound w place (if (if c then false else true) then good_type (Defined s) else no_type_at place)
defined_base w place s true d e h = no_fault h
defined_base w place s false d e h = record { symbol = s; bound_is = e; takes = takes_none (w.definition s) d; type_is = refl }

type_base : (w : World) (place : ℕ) (t : PlainType) → w.bound place ≡ Means (TypeName t) → (receiver_or_fault w place (Some t)).faults ≡ [] →
    IsBaseFound w place (receiver_or_fault w place (Some t))
unfolding receiver_or_fault may_receive
type_base w place (Defined s) e h = defined_base w place s (takes_no_methods (w.definition s)) refl e h
type_base w place (BasicType b) e h = no_fault h
type_base w place (Pointer t) e h = no_fault h
type_base w place (Slice t) e h = no_fault h

abbrev IsBaseSettled : World → ℕ → TypeJudged → Type 0
IsBaseSettled w place j = IsBaseFound w place j ⊎ (w.bound place ≡ BrokenType)

same_base : (w : World) (place : ℕ) {j : TypeJudged} → IsBaseFound w place j → (faults : List ℕ) →
    IsBaseFound w place (record { type_of = j.type_of; faults = faults })
same_base w place f faults = record { symbol = f.symbol; bound_is = f.bound_is; takes = f.takes; type_is = f.type_is }

base_settled : (w : World) (place : ℕ) (b : Bound) → w.bound place ≡ b → (received w place (named_type b place)).faults ≡ [] →
    IsBaseSettled w place (received w place (named_type b place))
unfolding named_type
base_settled w place (Means (TypeName t)) e h = inl (same_base w place (type_base w place t e h) (receiver_or_fault w place (Some t)).faults)
base_settled w place BrokenType e h = inr e
base_settled w place (Means (Value k a)) e h = no_fault h
base_settled w place (Means (Function s)) e h = no_fault h
base_settled w place (Means (BuiltinName b)) e h = no_fault h
base_settled w place (Means Package) e h = no_fault h
base_settled w place (Means (Results ts)) e h = no_fault h
base_settled w place (Means Broken) e h = no_fault h
base_settled w place (Local d) e h = no_fault h
base_settled w place BrokenVariable e h = no_fault h
base_settled w place BrokenFunction e h = no_fault h

pub star_faults : (o : Option ℕ) (j : TypeJudged) → (starred o j).faults ≡ j.faults
star_faults None j = refl
star_faults (Some p) j = refl

pub star_found : (o : Option ℕ) (j : TypeJudged) (s : Symbol) → j.type_of ≡ Some (Defined s) → (t : PlainType) × IsBehindStar o (Defined s) t ×
    ((starred o j).type_of ≡ Some t)
star_found None j s e = (Defined s, no_star, e)
star_found (Some p) j s e = (Pointer (Defined s), a_star, ap (option_map Pointer) e)

receiver_found : (w : World) (s : FoundSoFar) (r : ReceiverTree) → IsBaseFound w r.type_name (receiver_base w r.type_name) →
    ReceiverIsTyped w s.locals r (with_locals s.locals (named_of r.name ∷ []) ((judge_receiver w r).type_of ∷ []))
unfolding judge_receiver
receiver_found w s r f = let q = star_found r.star (receiver_base w r.type_name) f.symbol f.type_is in
    a_receiver f.bound_is f.takes q.1 (subst (λ z. DeclareAs q.0 s.locals (named_of r.name ∷ []) (with_locals s.locals (named_of r.name ∷ [])
    (z ∷ []))) (sym q.2) (single_as_found r.name q.0 s.locals))

receiver_parts : (w : World) (r : ReceiverTree) → (judge_receiver w r).faults ≡ [] → IsBaseSettled w r.type_name (receiver_base w r.type_name)
unfolding judge_receiver receiver_base
receiver_parts w r h = base_settled w r.type_name (w.bound r.type_name) refl (sym (star_faults r.star (receiver_base w r.type_name)) ∙ h)

receiver_settled : (w : World) (s : FoundSoFar) (r : ReceiverTree) → (check_receiver w s r).faults ≡ [] →
    IsSettled (ReceiverIsTyped w) (ReceiverIsExcused w) s r (check_receiver w s r)
unfolding check_receiver
receiver_settled w s r h = (
  empty_first s.faults (judge_receiver w r).faults h,
  elim (receiver_parts w r (empty_second s.faults (judge_receiver w r).faults h)) [
    | inl f ↦ inl (receiver_found w s r f)
    | inr e ↦ inr (of_broken e)
  ],
)

optional_receiver_true : (w : World) (s : FoundSoFar) {o : Option ReceiverTree} {before after : Locals} → IsAt s before →
    IfPresent ReceiverTree (ReceiverIsTyped w) before o after → IsAt (check_optional_receiver w s o) after
optional_receiver_true w s a absent = a
optional_receiver_true w s a (present {after = after} {x = x} r) = receiver_true w s x after a.faultless (held (ReceiverIsTyped w) a r)

optional_receiver_settled : (w : World) (s : FoundSoFar) (o : Option ReceiverTree) → (check_optional_receiver w s o).faults ≡ [] →
    (s.faults ≡ []) × (IfPresent ReceiverTree (ReceiverIsTyped w) s.locals o (check_optional_receiver w s o).locals ⊎ ExcusedIfPresent ReceiverTree
    (ReceiverIsExcused w) s.locals o)
optional_receiver_settled w s None h = (h, inl absent)
optional_receiver_settled w s (Some r) h = let q = receiver_settled w s r h in (q.0, elim q.1 [ inl x ↦ inl (present x) | inr e ↦ inr (excused_present e) ])

-- parameters

pub param_true : (w : World) (s : FoundSoFar) (p : ParamTree) (after : Locals) → s.faults ≡ [] → ParamIsTyped w s.locals p after →
    IsAt (check_param w s p) after
unfolding check_param
param_true w s p after h (a_param i d) = typed_names w s p.names h i d

param_settled : (w : World) (s : FoundSoFar) (p : ParamTree) → (check_param w s p).faults ≡ [] →
    IsSettled (ParamIsTyped w) (ParamIsExcused w) s p (check_param w s p)
unfolding check_param
param_settled w s p h = (
  empty_first s.faults (judge_type w p.type_use).faults h,
  elim (type_or_broken w p.type_use (empty_second s.faults (judge_type w p.type_use).faults h)) [
    | inl t ↦ inl (a_param (true_type w p.type_use t.0 t.1) (found_as p.names t.0 s.locals t.1))
    | inr b ↦ inr (param_of_broken b)
  ],
)

-- results

pub record AreWanted (j : ResultsJudged) (ts : List PlainType) : Type 0 where
  pub wanted : AreTargets j.wanted ts
  pub faultless : j.faults ≡ []

result_before : {j : TypeJudged} {rest : ResultsJudged} {t : PlainType} {ts : List PlainType} → j ≡ good_type t → AreWanted rest ts →
    AreWanted (with_result j rest) (t ∷ ts)
result_before {j} {rest} {t} e more = record {
  wanted = ap (λ (z : TypeJudged). Wants z.type_of ∷ rest.wanted) e ∙ ap (λ z. Wants (Some t) ∷ z) more.wanted;
  faultless = empty_both j.faults rest.faults (ap (λ (z : TypeJudged). z.faults) e) more.faultless;
}

no_results : AreWanted (record { wanted = []; faults = [] }) []
no_results = record { wanted = refl; faultless = refl }

types_true : (w : World) {is : List (Item TypeTree)} {ts : List PlainType} → AreTypes w is ts → AreWanted (judge_types w is) ts
unfolding judge_types
types_true w no_type_left = no_results
types_true w (also_type i more) = result_before (type_true w i) (types_true w more)

pub results_true : (w : World) {r : ResultTree} {ts : List PlainType} → AreResults w r ts → AreWanted (judge_results w r) ts
unfolding judge_results
results_true w none_written = no_results
results_true w (one_written i) = result_before (type_true w i) no_results
results_true w (several_written ts) = types_true w ts

pub record AreResultsFound (R : List PlainType → Type 0) (wanted : List Target) : Type 0 where
  pub types : List PlainType
  pub typed : R types
  pub found : AreTargets wanted types

wanted_then : {o : Option PlainType} {t : PlainType} {targets : List Target} (ts : List PlainType) → o ≡ Some t → AreTargets targets ts →
    AreTargets (Wants o ∷ targets) (t ∷ ts)
wanted_then {t = t} {targets} ts e f = ap (λ z. Wants z ∷ targets) e ∙ ap (λ z. Wants (Some t) ∷ z) f

types_settled : (w : World) (is : List (Item TypeTree)) → (judge_types w is).faults ≡ [] → AreResultsFound (AreTypes w is)
    (judge_types w is).wanted ⊎ AnyIsBrokenType w is
unfolding judge_types
types_settled w [] h = inl (record { types = []; typed = no_type_left; found = refl })
types_settled w (i ∷ is) h = elim (type_or_broken w i.value (empty_first (judge_type w i.value).faults (judge_types w is).faults h)) [
  | inl t ↦ elim (types_settled w is (empty_second (judge_type w i.value).faults (judge_types w is).faults h)) [
    | inl more ↦ inl (record {
      types = t.0 ∷ more.types;
      typed = also_type (true_type w i.value t.0 t.1) more.typed;
      found = wanted_then more.types t.1 more.found;
    })
    | inr b ↦ inr (later_type b)
  ]
  | inr b ↦ inr (this_type b)
]

pub results_settled : (w : World) (r : ResultTree) → (judge_results w r).faults ≡ [] → AreResultsFound (AreResults w r)
    (judge_results w r).wanted ⊎ ResultIsExcused w r
unfolding judge_results
results_settled w tree.no_result h = inl (record { types = []; typed = none_written; found = refl })
results_settled w (tree.one_result x) h = elim (type_or_broken w x (empty_first (judge_type w x).faults [] h)) [
  | inl t ↦ inl (record { types = t.0 ∷ []; typed = one_written (true_type w x t.0 t.1); found = wanted_then [] t.1 refl })
  | inr b ↦ inr (one_broken b)
]
results_settled w (tree.results o is c) h = elim (types_settled w is h) [
  | inl f ↦ inl (record { types = f.types; typed = several_written f.typed; found = f.found })
  | inr b ↦ inr (one_of_several b)
]

-- `init`

abbrev init_test : Bool → Option ReceiverTree → List (Item ParamTree) → List Target → Bool
init_test b o ps ts = b && (is_none o && (if is_empty_list ps then (if is_empty_list ts then false else true) else true))

and_false : (b : Bool) → (b && false) ≡ false
and_false true = refl
and_false false = refl

plain_init : (b : Bool) (o : Option ReceiverTree) → init_test b o [] [] ≡ false
plain_init true None = refl
plain_init true (Some r) = refl
plain_init false o = refl

init_true : (b : Bool) (f : FuncTree) {targets : List Target} {ts : List PlainType} → AreTargets targets ts → KeepsInit b f ts → is_bad_init b f targets ≡ false
unfolding is_bad_init
init_true b f e another_name = refl
init_true b f {targets} e (a_method q) = ap (λ z. init_test b z f.params targets) q ∙ and_false b
init_true b f {targets} e (a_plain_one q) = ap (λ z. init_test b f.receiver z targets) q ∙ (ap (λ z. init_test b f.receiver [] z) e ∙ plain_init b f.receiver)

init_cases : (b : Bool) (f : FuncTree) (o : Option ReceiverTree) (ps : List (Item ParamTree)) (ts : List PlainType) → f.receiver ≡ o → f.params ≡ ps →
    init_test b o ps (map aim (map OfType ts)) ≡ false → KeepsInit b f ts
init_cases false f o ps ts e q h = another_name
init_cases true f (Some r) ps ts e q h = a_method e
init_cases true f None [] [] e q h = a_plain_one q
init_cases true f None [] (t ∷ ts) e q h = absurd (true≢false h)
init_cases true f None (p ∷ ps) ts e q h = absurd (true≢false h)

fault_none : (b : Bool) (place : ℕ) → fault_if b place ≡ [] → b ≡ false
fault_none true place h = no_fault h
fault_none false place h = refl

init_settled : (b : Bool) (f : FuncTree) (targets : List Target) (ts : List PlainType) → AreTargets targets ts →
    fault_if (is_bad_init b f targets) f.name ≡ [] → KeepsInit b f ts
unfolding is_bad_init
init_settled b f targets ts e h = init_cases b f f.receiver f.params ts refl refl (ap (λ z. init_test b f.receiver f.params z) (sym e)
    ∙ fault_none (init_test b f.receiver f.params targets) f.name h)

-- functions

abbrev entered_at : World → FoundSoFar → FuncTree → FoundSoFar
entered_at w s f = check_items (check_param w) (check_optional_receiver w s f.receiver) f.params

signature_true : (w : World) (b : Bool) (s : FoundSoFar) (f : FuncTree) {entered : Locals} {ts : List PlainType} → IsAt (entered_at w s f) entered →
    AreResults w f.result ts → KeepsInit b f ts → IsAt (check_signature w b s f) entered
unfolding check_signature
signature_true w b s f a r k = let q = results_true w r in
    reached (entered_at w s f) ((judge_results w f.result).faults ++ fault_if (is_bad_init b f (judge_results w f.result).wanted) f.name) [] a.faultless
    (empty_both (judge_results w f.result).faults (fault_if (is_bad_init b f (judge_results w f.result).wanted) f.name) q.faultless (ap
    (λ z. fault_if z f.name) (init_true b f q.wanted k))) a.locals_are

pub function_true : (w : World) (b : Bool) (s : FoundSoFar) (f : FuncTree) (after : Locals) → s.faults ≡ [] → FunctionIsTyped w b s.locals f after →
    IsAt (check_function w b s f) after
unfolding check_function
function_true w b s f after h (a_function {ts = ts} r p rs k body) =
    let a = items_true (ParamIsTyped w) (check_param w) (param_true w) p (check_optional_receiver w s f.receiver) (optional_receiver_true w s (here s h) r) in
    block_true w ts (judge_results w f.result).wanted (results_true w rs).wanted body (check_signature w b s f) (signature_true w b s f a rs k)

record IsSignatureFound (w : World) (b : Bool) (s : FoundSoFar) (f : FuncTree) : Type 0 where
  before : (entered_at w s f).faults ≡ []
  results : (judge_results w f.result).faults ≡ []
  plain : fault_if (is_bad_init b f (judge_results w f.result).wanted) f.name ≡ []

signature_parts : (w : World) (b : Bool) (s : FoundSoFar) (f : FuncTree) → (check_signature w b s f).faults ≡ [] → IsSignatureFound w b s f
unfolding check_signature
signature_parts w b s f h = let i = fault_if (is_bad_init b f (judge_results w f.result).wanted) f.name in
    let q = empty_second (entered_at w s f).faults ((judge_results w f.result).faults ++ i) h in
    record {
      before = empty_first (entered_at w s f).faults ((judge_results w f.result).faults ++ i) h;
      results = empty_first (judge_results w f.result).faults i q;
      plain = empty_second (judge_results w f.result).faults i q;
    }

signature_locals : (w : World) (b : Bool) (s : FoundSoFar) (f : FuncTree) → (check_signature w b s f).locals ≡ (entered_at w s f).locals
unfolding check_signature
signature_locals w b s f = refl

abbrev IsFunctionSettled : World → Bool → FoundSoFar → FuncTree → FoundSoFar → Type 0
IsFunctionSettled w b s f after = FunctionIsTyped w b s.locals f after.locals ⊎ FunctionIsExcused w s.locals f

with_results : (w : World) (b : Bool) (s : FoundSoFar) (f : FuncTree) → (check_block w (judge_results w f.result).wanted
    (check_signature w b s f) f.body).faults ≡ [] → IsSignatureFound w b s f →
    {received : Locals} → IfPresent ReceiverTree (ReceiverIsTyped w) s.locals f.receiver received →
    InTurn ParamTree (ParamIsTyped w) received f.params (entered_at w s f).locals →
    AreResultsFound (AreResults w f.result) (judge_results w f.result).wanted → IsFunctionSettled w b s f (check_block w (judge_results w f.result).wanted
    (check_signature w b s f) f.body)
with_results w b s f h g r p rs = let q = block_settled w rs.types (judge_results w f.result).wanted rs.found f.body (check_signature w b s f) h in
    let l = signature_locals w b s f in
    elim q.1 [
      | inl body ↦ inl (a_function r p rs.typed (init_settled b f (judge_results w f.result).wanted rs.types rs.found g.plain)
          (subst (λ z. BlockIsTyped w rs.types z f.body (check_block w (judge_results w f.result).wanted (check_signature w b s f) f.body).locals) l body))
      | inr u ↦ inr (in_body r p rs.typed (subst (λ z. BlockIsExcused w rs.types z f.body) l u))
    ]

pub function_settled : (w : World) (b : Bool) (s : FoundSoFar) (f : FuncTree) → (check_function w b s f).faults ≡ [] →
    IsSettled (FunctionIsTyped w b) (FunctionIsExcused w) s f (check_function w b s f)
unfolding check_function
function_settled w b s f h = let g = signature_parts w b s f (block_first w (judge_results w f.result).wanted f.body (check_signature w b s f) h) in
    let p = items_settled (ParamIsTyped w) (ParamIsExcused w) (check_param w) (param_settled w) f.params (check_optional_receiver w s f.receiver) g.before in
    let r = optional_receiver_settled w s f.receiver p.0 in (
      r.0,
      elim r.1 [
        | inl x ↦ elim p.1 [
          | inl y ↦ elim (results_settled w f.result g.results) [ inl z ↦ with_results w b s f h g x y z | inr e ↦ inr (in_result e) ]
          | inr e ↦ inr (in_params x e)
        ]
        | inr e ↦ inr (in_receiver e)
      ],
    )
