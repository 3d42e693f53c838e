-- Functions: the check finds a fault at exactly the tokens where a rule is broken, and the locals that the function declares.
use Rattle.std.proofs.Common.{ℕ, ◌≡◌, Bool, true, false, ◌&&◌, if◌then◌else◌, ◌⊎◌, inl, inr, List, [], ◌∷◌, ◌++◌, Option, Some, None, is_none, option_map}
use Rattle.std.proofs.Common.{refl, sym, ap, ◌∙◌, subst, true≢false}
use Rattle.go_ast.specs.Tree.{Item, TypeTree, ReceiverTree, ParamTree, ResultTree, FuncTree}
use Rattle.go_ast.specs.Tree as tree
use Rattle.types_expr.specs.declared.symbol.Symbol.{Symbol}
use Rattle.types_expr.specs.Types.{PlainType, BasicType, Defined, Pointer, Slice, Value}
use Rattle.types_expr.specs.Types.{TypeName, Function, BuiltinName, Package, Results, Broken, takes_no_methods}
use Rattle.types_expr.specs.World.{World, Locals, Bound, Local, Means, BrokenVariable, BrokenFunction, BrokenType}
use Rattle.types_expr.specs.Judge.{TypeJudged, judge_type, good_type, no_type_at, named_type}
use Rattle.types_stmt.specs.Checked.{FoundSoFar, fault_if, check_items}
use Rattle.types_stmt.specs.Sides.{Target, Wants, named as named_of, with_locals}
use Rattle.types_stmt.specs.Simple.{written_locals}
use Rattle.types_stmt.specs.Headers.{may_receive, receiver_or_fault, received, receiver_base, starred, judge_receiver, check_receiver, check_optional_receiver}
use Rattle.types_stmt.specs.Headers.{check_param, judge_types, judge_results, is_empty_list, is_bad_init, check_signature, check_function}
use Rattle.types_stmt.specs.Statements.{check_block}
use Rattle.law_typing.specs.Faults.{IsNoType}
use Rattle.law_typing.specs.Sequences.{InTurn, IfPresent}
use Rattle.law_typing.specs.Declarations.{IsBehindStar}
use Rattle.law_typing.proofs.Headers.{takes_some, takes_none, star_faults, star_found, star_true}
use Rattle.law_typing.specs.DeclaredLocals.{MayReceive, may_receive as receives_by, ReceiverTypeIs}
use Rattle.law_typing.specs.DeclaredLocals.{receives, receives_nothing, ReceiverDeclares, behind_receiver}
use Rattle.law_typing.specs.DeclaredLocals.{ParamDeclares, behind_param, BlockDeclares, FunctionDeclares, behind_function}
use Rattle.law_typing.specs.AssignmentFaults.{as_targets}
use Rattle.law_typing.specs.SequenceFaults.{BreaksInTurn, BreaksIfPresent}
use Rattle.law_typing.specs.StatementFaults.{BlockBreaksAt}
use Rattle.law_typing.specs.DeclarationFaults.{ReceiverBreaksAt, no_receiver, ParamBreaksAt, in_param}
use Rattle.law_typing.specs.DeclarationFaults.{WrittenTypesAre, no_type_left, also_written, ResultTypesAre}
use Rattle.law_typing.specs.DeclarationFaults.{none_written, one_written, several_written, AnyIsNoType, this_type, later_type, ResultBreaksAt, in_one_result}
use Rattle.law_typing.specs.DeclarationFaults.{in_results, FunctionBreaksAt, in_receiver, in_params, in_result, no_init, in_body}
use Rattle.law_typing.proofs.FaultLists.{HasToken, holds_left, holds_right, holds_cases, AreExactly, none_told}
use Rattle.law_typing.proofs.FaultLists.{both_told, told_as, At, at_place, nothing_at, fault_at}
use Rattle.law_typing.proofs.FaultLists.{none_some}
use Rattle.law_typing.proofs.DeclaredLocals.{written_found, written_only, single_found, single_only, type_found, type_only}
use Rattle.law_typing.proofs.TypeFaults.{type_told}
use Rattle.law_typing.proofs.SequenceFaults.{IsExact, items_told, check_present, present_told}
use Rattle.law_typing.proofs.SimpleFaults.{told_of}
use Rattle.law_typing.proofs.StatementFaults.{told_by, block_leads, block_only, block_stays, block_found, block_stands}

-- receivers

-- the judgement j of the type that a receiver names: a definition that may have methods; a broken type; a fault
data Base (w : World) (place : ℕ) (j : TypeJudged) : Type 0 where
  good_base : {s : Symbol} → MayReceive w place s → j ≡ good_type (Defined s) → Base w place j
  broken_base : w.bound place ≡ BrokenType → j ≡ record { type_of = None; faults = [] } → Base w place j
  wrong_base : ((s : Symbol) → MayReceive w place s → ⊥) → (w.bound place ≡ BrokenType → ⊥) → j ≡ no_type_at place → Base w place j

abbrev NoneReceives : World → ℕ → Type 0
NoneReceives w place = (s : Symbol) → MayReceive w place s → ⊥

-- the bindings of a name that is no definition
abbrev IsDefined : Bound → Type 0
IsDefined (Means (TypeName (Defined s))) = Unit {0}
IsDefined b = ⊥

abbrev IsBrokenBound : Bound → Type 0
IsBrokenBound BrokenType = Unit {0}
IsBrokenBound b = ⊥

not_defined : (w : World) (place : ℕ) (b : Bound) → w.bound place ≡ b → (IsDefined b → ⊥) → NoneReceives w place
not_defined w place b e n s (receives_by h k) = n (subst (λ z. IsDefined z) (sym h ∙ e) tt)

not_broken : (w : World) (place : ℕ) (b : Bound) → w.bound place ≡ b → (IsBrokenBound b → ⊥) → w.bound place ≡ BrokenType → ⊥
not_broken w place b e n h = n (subst (λ z. IsBrokenBound z) (sym h ∙ e) tt)

wrong_by : (w : World) (place : ℕ) (b : Bound) {j : TypeJudged} → w.bound place ≡ b → (IsDefined b → ⊥) → (IsBrokenBound b → ⊥) → j ≡ no_type_at place →
    Base w place j
wrong_by w place b e n m h = wrong_base (not_defined w place b e n) (not_broken w place b e m) h

symbol_same : {s t : Symbol} → Means (TypeName (Defined s)) ≡ Means (TypeName (Defined t)) → s ≡ t
symbol_same e = cc

pointer_receives : (w : World) (place : ℕ) (s : Symbol) → w.bound place ≡ Means (TypeName (Defined s)) → takes_no_methods (w.definition s) ≡ true →
    NoneReceives w place
pointer_receives w place s e h t (receives_by f n) = let same : t ≡ s = symbol_same (sym f ∙ e) in
    true≢false (sym h ∙ (ap (λ z. takes_no_methods (w.definition z)) (sym same) ∙ takes_some (w.definition t) n))

abbrev received_when : ℕ → Symbol → Bool → TypeJudged
received_when place s c = record {
  type_of = (if (if c then false else true) then good_type (Defined s) else no_type_at place).type_of;
  faults = [] ++ (if (if c then false else true) then good_type (Defined s) else no_type_at place).faults;
}

defined_base : (w : World) (place : ℕ) (s : Symbol) (c : Bool) → takes_no_methods (w.definition s) ≡ c → w.bound place ≡ Means (TypeName (Defined s)) →
    Base w place (received_when place s c)
defined_base w place s true d e = wrong_base (pointer_receives w place s e d) (not_broken w place (Means (TypeName (Defined s))) e (λ n. n)) refl
defined_base w place s false d e = good_base (receives_by e (takes_none (w.definition s) d)) refl

base_by : (w : World) (place : ℕ) (b : Bound) → w.bound place ≡ b → Base w place (received w place (named_type b place))
unfolding named_type receiver_or_fault may_receive
base_by w place (Means (TypeName (Defined s))) e = defined_base w place s (takes_no_methods (w.definition s)) refl e
base_by w place (Means (TypeName (BasicType b))) e = wrong_by w place (Means (TypeName (BasicType b))) e (λ n. n) (λ n. n) refl
base_by w place (Means (TypeName (Pointer t))) e = wrong_by w place (Means (TypeName (Pointer t))) e (λ n. n) (λ n. n) refl
base_by w place (Means (TypeName (Slice t))) e = wrong_by w place (Means (TypeName (Slice t))) e (λ n. n) (λ n. n) refl
base_by w place BrokenType e = broken_base e refl
base_by w place (Means (Value k a)) e = wrong_by w place (Means (Value k a)) e (λ n. n) (λ n. n) refl
base_by w place (Means (Function s)) e = wrong_by w place (Means (Function s)) e (λ n. n) (λ n. n) refl
base_by w place (Means (BuiltinName b)) e = wrong_by w place (Means (BuiltinName b)) e (λ n. n) (λ n. n) refl
base_by w place (Means Package) e = wrong_by w place (Means Package) e (λ n. n) (λ n. n) refl
base_by w place (Means (Results ts)) e = wrong_by w place (Means (Results ts)) e (λ n. n) (λ n. n) refl
base_by w place (Means Broken) e = wrong_by w place (Means Broken) e (λ n. n) (λ n. n) refl
base_by w place (Local d) e = wrong_by w place (Local d) e (λ n. n) (λ n. n) refl
base_by w place BrokenVariable e = wrong_by w place BrokenVariable e (λ n. n) (λ n. n) refl
base_by w place BrokenFunction e = wrong_by w place BrokenFunction e (λ n. n) (λ n. n) refl

base_of : (w : World) (place : ℕ) → Base w place (receiver_base w place)
unfolding receiver_base
base_of w place = base_by w place (w.bound place) refl

-- a name denotes at most one definition that may have methods
one_receiver : {w : World} {place : ℕ} {s t : Symbol} → MayReceive w place s → MayReceive w place t → s ≡ t
one_receiver (receives_by e n) (receives_by f m) = symbol_same (sym e ∙ f)

receives_unbroken : {w : World} {place : ℕ} {s : Symbol} → w.bound place ≡ BrokenType → MayReceive w place s → ⊥
receives_unbroken e (receives_by f m) = let c = sym e ∙ f in cc

nothing_receives : {A : Type 0} {w : World} {place : ℕ} {s : Symbol} → NoneReceives w place → MayReceive w place s → A
nothing_receives {s = s} n m = absurd (n s m)

faults_as : (w : World) (place : ℕ) {j k : TypeJudged} → j ≡ k → AreExactly k.faults (At place (NoneReceives w place × (w.bound place ≡ BrokenType → ⊥))) →
    AreExactly j.faults (At place (NoneReceives w place × (w.bound place ≡ BrokenType → ⊥)))
faults_as w place e t = subst (λ (z : TypeJudged). AreExactly z.faults (At place (NoneReceives w place × (w.bound place ≡ BrokenType → ⊥)))) (sym e) t

base_told : (w : World) (place : ℕ) → AreExactly (receiver_base w place).faults (At place (NoneReceives w place × (w.bound place ≡ BrokenType → ⊥)))
base_told w place = elim (base_of w place) [
  | good_base {s} m e ↦ faults_as w place e (nothing_at place (λ c. c.0 s m))
  | broken_base h e ↦ faults_as w place e (nothing_at place (λ c. c.1 h))
  | wrong_base n m e ↦ faults_as w place e (fault_at place (n, m))
]

judged_faults : (w : World) (r : ReceiverTree) → (judge_receiver w r).faults ≡ (receiver_base w r.type_name).faults
unfolding judge_receiver
judged_faults w r = star_faults r.star (receiver_base w r.type_name)

receiver_breaks : {w : World} {locals : Locals} {r : ReceiverTree} {p : ℕ} → ReceiverBreaksAt w locals r p → At r.type_name (NoneReceives w r.type_name ×
    (w.bound r.type_name ≡ BrokenType → ⊥)) p
receiver_breaks (no_receiver n m) = (refl, (n, m))

receiver_places : (w : World) (locals : Locals) (r : ReceiverTree) → AreExactly (judge_receiver w r).faults (ReceiverBreaksAt w locals r)
receiver_places w locals r = subst (λ z. AreExactly z (ReceiverBreaksAt w locals r)) (sym (judged_faults w r)) (told_as (base_told w r.type_name)
    (at_place (ReceiverBreaksAt w locals r) (λ c. no_receiver c.0 c.1)) (λ p b. receiver_breaks b))

-- the type of a receiver
no_star : (o : Option ℕ) (j : TypeJudged) → j.type_of ≡ None → (starred o j).type_of ≡ None
no_star None j e = e
no_star (Some p) j e = ap (option_map Pointer) e

star_of : (w : World) (r : ReceiverTree) (j : TypeJudged) {s : Symbol} → MayReceive w r.type_name s → j ≡ good_type (Defined s) →
    ReceiverTypeIs w r (starred r.star j).type_of
star_of w r j {s} m e = let q = star_found r.star j s (ap (λ (z : TypeJudged). z.type_of) e) in subst (λ z. ReceiverTypeIs w r z) (sym q.2) (receives m q.1)

none_of : (w : World) (r : ReceiverTree) (j : TypeJudged) → NoneReceives w r.type_name → j.type_of ≡ None → ReceiverTypeIs w r (starred r.star j).type_of
none_of w r j n e = subst (λ z. ReceiverTypeIs w r z) (sym (no_star r.star j e)) (receives_nothing n)

receiver_type : (w : World) (r : ReceiverTree) → ReceiverTypeIs w r (judge_receiver w r).type_of
unfolding judge_receiver
receiver_type w r = elim (base_of w r.type_name) [
  | good_base m e ↦ star_of w r (receiver_base w r.type_name) m e
  | broken_base h e ↦ none_of w r (receiver_base w r.type_name) (λ s m. receives_unbroken h m) (ap (λ (z : TypeJudged). z.type_of) e)
  | wrong_base n m e ↦ none_of w r (receiver_base w r.type_name) n (ap (λ (z : TypeJudged). z.type_of) e)
]

starred_as : (o : Option ℕ) {j : TypeJudged} {s t : Symbol} {u : PlainType} → j ≡ good_type (Defined s) → s ≡ t → IsBehindStar o (Defined t) u →
    (starred o j).type_of ≡ Some u
starred_as o {j} {s} {t} {u} e f b = ap (λ (z : TypeJudged). (starred o z).type_of) (e ∙ ap (λ z. good_type (Defined z)) f) ∙ ap (λ (z : TypeJudged). z.type_of)
    (star_true b)

receiver_type_only : (w : World) (r : ReceiverTree) {t : Option PlainType} → ReceiverTypeIs w r t → (judge_receiver w r).type_of ≡ t
unfolding judge_receiver
receiver_type_only w r (receives m b) = elim (base_of w r.type_name) [
  | good_base k e ↦ starred_as r.star e (one_receiver k m) b
  | broken_base h e ↦ absurd (receives_unbroken h m)
  | wrong_base n k e ↦ nothing_receives n m
]
receiver_type_only w r (receives_nothing n) = elim (base_of w r.type_name) [
  | good_base {s} k e ↦ absurd (n s k)
  | broken_base h e ↦ no_star r.star (receiver_base w r.type_name) (ap (λ (z : TypeJudged). z.type_of) e)
  | wrong_base k m e ↦ no_star r.star (receiver_base w r.type_name) (ap (λ (z : TypeJudged). z.type_of) e)
]

abbrev receiver_added : World → Locals → ReceiverTree → List ℕ
receiver_added w locals r = (judge_receiver w r).faults

receiver_faults_are : (w : World) (s : FoundSoFar) (r : ReceiverTree) → (check_receiver w s r).faults ≡ s.faults ++ receiver_added w s.locals r
unfolding check_receiver
receiver_faults_are w s r = refl

receiver_leads : (w : World) (s : FoundSoFar) (r : ReceiverTree) → ReceiverDeclares w s.locals r (check_receiver w s r).locals
unfolding check_receiver
receiver_leads w s r = behind_receiver (receiver_type w r) (single_found r.name (judge_receiver w r).type_of s.locals)

receiver_only : (w : World) (s : FoundSoFar) (r : ReceiverTree) (after : Locals) → ReceiverDeclares w s.locals r after → (check_receiver w s r).locals ≡ after
unfolding check_receiver
receiver_only w s r after (behind_receiver i d) = ap (λ z. with_locals s.locals (named_of r.name ∷ []) (z ∷ [])) (receiver_type_only w r i)
    ∙ single_only r.name d

receiver_told : (w : World) → IsExact ReceiverTree (ReceiverDeclares w) (ReceiverBreaksAt w) (check_receiver w)
receiver_told w = told_of ReceiverTree (ReceiverDeclares w) (ReceiverBreaksAt w) (check_receiver w) (receiver_added w) (receiver_leads w) (receiver_only w)
    (receiver_faults_are w) (receiver_places w)

receiver_same : (w : World) (s : FoundSoFar) (o : Option ReceiverTree) → check_optional_receiver w s o ≡ check_present (check_receiver w) s o
receiver_same w s None = refl
receiver_same w s (Some r) = refl

optional_receiver_told : (w : World) → IsExact (Option ReceiverTree) (IfPresent ReceiverTree (ReceiverDeclares w)) (BreaksIfPresent ReceiverTree
    (ReceiverBreaksAt w))
    (check_optional_receiver w)
optional_receiver_told w = told_by (check_optional_receiver w) (receiver_same w) (present_told (receiver_told w))

-- parameters

abbrev param_added : World → Locals → ParamTree → List ℕ
param_added w locals p = (judge_type w p.type_use).faults

param_breaks : {w : World} {locals : Locals} {x : ParamTree} {p : ℕ} → ParamBreaksAt w locals x p → IsNoType w x.type_use p
param_breaks (in_param b) = b

param_places : (w : World) (locals : Locals) (x : ParamTree) → AreExactly (param_added w locals x) (ParamBreaksAt w locals x)
param_places w locals x = told_as (type_told w x.type_use) (λ p b. in_param b) (λ p b. param_breaks b)

param_faults_are : (w : World) (s : FoundSoFar) (x : ParamTree) → (check_param w s x).faults ≡ s.faults ++ param_added w s.locals x
unfolding check_param
param_faults_are w s x = refl

param_leads : (w : World) (s : FoundSoFar) (x : ParamTree) → ParamDeclares w s.locals x (check_param w s x).locals
unfolding check_param
param_leads w s x = behind_param (type_found w x.type_use) (written_found x.names (judge_type w x.type_use).type_of s.locals)

param_only : (w : World) (s : FoundSoFar) (x : ParamTree) (after : Locals) → ParamDeclares w s.locals x after → (check_param w s x).locals ≡ after
unfolding check_param
param_only w s x after (behind_param i d) = ap (λ z. written_locals s.locals x.names z) (type_only w i) ∙ written_only x.names d

param_told : (w : World) → IsExact ParamTree (ParamDeclares w) (ParamBreaksAt w) (check_param w)
param_told w = told_of ParamTree (ParamDeclares w) (ParamBreaksAt w) (check_param w) (param_added w) (param_leads w) (param_only w) (param_faults_are w)
    (param_places w)

-- results

record AreResults (R : List (Option PlainType) → Type 0) (targets : List Target) : Type 0 where
  types : List (Option PlainType)
  are : R types
  found : targets ≡ as_targets types

types_found : (w : World) (is : List (Item TypeTree)) → AreResults (WrittenTypesAre w is) (judge_types w is).wanted
unfolding judge_types
types_found w [] = record { types = []; are = no_type_left; found = refl }
types_found w (i ∷ is) = let more = types_found w is in record {
  types = (judge_type w i.value).type_of ∷ more.types;
  are = also_written (type_found w i.value) more.are;
  found = ap (λ z. Wants (judge_type w i.value).type_of ∷ z) more.found;
}

results_found : (w : World) (r : ResultTree) → AreResults (ResultTypesAre w r) (judge_results w r).wanted
unfolding judge_results
results_found w tree.no_result = record { types = []; are = none_written; found = refl }
results_found w (tree.one_result x) = record { types = (judge_type w x).type_of ∷ []; are = one_written (type_found w x); found = refl }
results_found w (tree.results o is c) = let f = types_found w is in record { types = f.types; are = several_written f.are; found = f.found }

types_only : (w : World) {is : List (Item TypeTree)} {ts : List (Option PlainType)} → WrittenTypesAre w is ts → (judge_types w is).wanted ≡ as_targets ts
unfolding judge_types
types_only w no_type_left = refl
types_only w (also_written {i} {is} {t} {ts} h more) = ap (λ z. Wants z ∷ (judge_types w is).wanted) (type_only w h) ∙ ap (λ z. Wants t ∷ z) (types_only w more)

results_only : (w : World) {r : ResultTree} {ts : List (Option PlainType)} → ResultTypesAre w r ts → (judge_results w r).wanted ≡ as_targets ts
unfolding judge_results
results_only w none_written = refl
results_only w (one_written h) = ap (λ z. Wants z ∷ []) (type_only w h)
results_only w (several_written h) = types_only w h

any_cases : {w : World} {i : Item TypeTree} {is : List (Item TypeTree)} {p : ℕ} → AnyIsNoType w (i ∷ is) p → IsNoType w i.value p ⊎ AnyIsNoType w is p
any_cases (this_type b) = inl b
any_cases (later_type b) = inr b

types_told : (w : World) (is : List (Item TypeTree)) → AreExactly (judge_types w is).faults (AnyIsNoType w is)
unfolding judge_types
types_told w [] = none_told (λ p b. elim b [ ])
types_told w (i ∷ is) = both_told (judge_type w i.value).faults (judge_types w is).faults (type_told w i.value) (types_told w is) (λ p b. this_type b)
    (λ p b. later_type b) (λ p b. any_cases b)

one_breaks : {w : World} {x : TypeTree} {p : ℕ} → ResultBreaksAt w (tree.one_result x) p → IsNoType w x p
one_breaks (in_one_result b) = b

several_break : {w : World} {o c p : ℕ} {is : List (Item TypeTree)} → ResultBreaksAt w (tree.results o is c) p → AnyIsNoType w is p
several_break (in_results b) = b

pub results_told : (w : World) (r : ResultTree) → AreExactly (judge_results w r).faults (ResultBreaksAt w r)
unfolding judge_results
results_told w tree.no_result = none_told (λ p b. elim b [ ])
results_told w (tree.one_result x) = both_told (judge_type w x).faults [] {C = λ p. ⊥} (type_told w x) (none_told (λ p n. n)) (λ p b. in_one_result b)
    (λ p n. absurd n)
    (λ p b. inl (one_breaks b))
results_told w (tree.results o is c) = told_as (types_told w is) (λ p b. in_results b) (λ p b. several_break b)

-- `init`

abbrev IsBadInit : World → Bool → FuncTree → Type 0
IsBadInit w b f = (b ≡ true) × (f.receiver ≡ None) × (f.params ≡ [] → ResultTypesAre w f.result [] → ⊥)

abbrev init_test : Bool → Option ReceiverTree → List (Item ParamTree) → List Target → Bool
init_test b o ps ts = b && (is_none o && (if is_empty_list ps then (if is_empty_list ts then false else true) else true))

empty_wants : (ts : List (Option PlainType)) → [] ≡ as_targets ts → ts ≡ []
empty_wants [] e = refl
empty_wants (t ∷ ts) e = let c : [] ≡ Wants t ∷ as_targets ts = e in cc

init_by : (w : World) (b : Bool) (f : FuncTree) (o : Option ReceiverTree) (ps : List (Item ParamTree)) (targets : List Target) → f.receiver ≡ o →
    f.params ≡ ps →
    (judge_results w f.result).wanted ≡ targets → AreExactly (fault_if (init_test b o ps targets) f.name) (At f.name (IsBadInit w b f))
init_by w false f o ps targets e g h = nothing_at f.name (λ c. true≢false (sym c.0))
init_by w true f (Some r) ps targets e g h = nothing_at f.name (λ c. none_some c.1 e)
init_by w true f None (p ∷ ps) targets e g h = fault_at f.name (refl, e, λ k r. let c = sym g ∙ k in cc)
init_by w true f None [] [] e g h = let q = results_found w f.result in
    nothing_at f.name (λ c. c.2 g (subst (λ z. ResultTypesAre w f.result z) (empty_wants q.types (sym h ∙ q.found)) q.are))
init_by w true f None [] (t ∷ ts) e g h = fault_at f.name (refl, e, λ k r. let c : t ∷ ts ≡ [] = sym h ∙ results_only w r in cc)

init_told : (w : World) (b : Bool) (f : FuncTree) → AreExactly (fault_if (is_bad_init b f (judge_results w f.result).wanted) f.name) (At f.name (IsBadInit w
    b f))
unfolding is_bad_init
init_told w b f = init_by w b f f.receiver f.params (judge_results w f.result).wanted refl refl refl

-- functions

abbrev entered_at : World → FoundSoFar → FuncTree → FoundSoFar
entered_at w s f = check_items (check_param w) (check_optional_receiver w s f.receiver) f.params

abbrev header_added : World → Bool → FuncTree → List ℕ
header_added w b f = (judge_results w f.result).faults ++ fault_if (is_bad_init b f (judge_results w f.result).wanted) f.name

header_places : (w : World) (b : Bool) (f : FuncTree) → AreExactly (header_added w b f) (λ p. ResultBreaksAt w f.result p ⊎ At f.name (IsBadInit w b f) p)
header_places w b f = both_told (judge_results w f.result).faults (fault_if (is_bad_init b f (judge_results w f.result).wanted) f.name)
    (results_told w f.result)
    (init_told w b f) (λ p x. inl x) (λ p x. inr x) (λ p x. x)

signature_faults_are : (w : World) (b : Bool) (s : FoundSoFar) (f : FuncTree) → (check_signature w b s f).faults ≡ (entered_at w s f).faults ++ header_added
    w b f
unfolding check_signature
signature_faults_are w b s f = refl

signature_locals : (w : World) (b : Bool) (s : FoundSoFar) (f : FuncTree) → (check_signature w b s f).locals ≡ (entered_at w s f).locals
unfolding check_signature
signature_locals w b s f = refl

entered_stays : (w : World) (s : FoundSoFar) (f : FuncTree) (p : ℕ) → HasToken s.faults p → HasToken (entered_at w s f).faults p
entered_stays w s f p h = let o = optional_receiver_told w in
    let i = items_told (param_told w) in
    i.stays (check_optional_receiver w s f.receiver) f.params p (o.stays s f.receiver p h)

signature_stays : (w : World) (b : Bool) (s : FoundSoFar) (f : FuncTree) (p : ℕ) → HasToken (entered_at w s f).faults p →
    HasToken (check_signature w b s f).faults p
signature_stays w b s f p h = subst (λ z. HasToken z p) (sym (signature_faults_are w b s f)) (holds_left (entered_at w s f).faults (header_added w b f) p h)

function_stays : (w : World) (b : Bool) (s : FoundSoFar) (f : FuncTree) (p : ℕ) → HasToken s.faults p → HasToken (check_function w b s f).faults p
unfolding check_function
function_stays w b s f p h = block_stays w (judge_results w f.result).wanted (check_signature w b s f) f.body p (signature_stays w b s f p
    (entered_stays w s f p h))

function_leads : (w : World) (b : Bool) (s : FoundSoFar) (f : FuncTree) → FunctionDeclares w s.locals f (check_function w b s f).locals
unfolding check_function
function_leads w b s f = let o = optional_receiver_told w in
    let i = items_told (param_told w) in
    behind_function (o.leads s f.receiver) (i.leads (check_optional_receiver w s f.receiver) f.params) (subst (λ z. BlockDeclares w z f.body (check_block w
    (judge_results w f.result).wanted (check_signature w b s f) f.body).locals) (signature_locals w b s f) (block_leads w (judge_results w f.result).wanted
    (check_signature w b s f) f.body))

-- the locals before the body of a function
entered_only : (w : World) (s : FoundSoFar) (f : FuncTree) {received entered : Locals} → IfPresent ReceiverTree (ReceiverDeclares w) s.locals f.receiver
    received →
    InTurn ParamTree (ParamDeclares w) received f.params entered → (entered_at w s f).locals ≡ entered
entered_only w s f {received} {entered} r q = let o = optional_receiver_told w in
    let i = items_told (param_told w) in
    i.only (check_optional_receiver w s f.receiver) f.params entered (subst (λ z. InTurn ParamTree (ParamDeclares w) z f.params entered)
    (sym (o.only s f.receiver received r)) q)

function_only : (w : World) (b : Bool) (s : FoundSoFar) (f : FuncTree) (after : Locals) → FunctionDeclares w s.locals f after →
    (check_function w b s f).locals ≡ after
unfolding check_function
function_only w b s f after (behind_function r q body) = block_only w (judge_results w f.result).wanted (check_signature w b s f) f.body after (subst
    (λ z. BlockDeclares w z f.body after) (sym (signature_locals w b s f ∙ entered_only w s f r q)) body)

entered_found : (w : World) (b : Bool) (s : FoundSoFar) (f : FuncTree) (p : ℕ) → HasToken (entered_at w s f).faults p →
    HasToken s.faults p ⊎ FunctionBreaksAt w b s.locals f p
entered_found w b s f p h = let o = optional_receiver_told w in
    let i = items_told (param_told w) in
    elim (i.found (check_optional_receiver w s f.receiver) f.params p h) [
      | inl x ↦ elim (o.found s f.receiver p x) [ inl a ↦ inl a | inr c ↦ inr (in_receiver c) ]
      | inr c ↦ inr (in_params (o.leads s f.receiver) c)
    ]

header_found : (w : World) (b : Bool) (locals : Locals) (f : FuncTree) (p : ℕ) → HasToken (header_added w b f) p → FunctionBreaksAt w b locals f p
header_found w b locals f p h = let t = header_places w b f in elim (t.found p h) [
  | inl r ↦ in_result r
  | inr a ↦ at_place (FunctionBreaksAt w b locals f) (λ c. no_init c.0 c.1 c.2) p a
]

signature_found : (w : World) (b : Bool) (s : FoundSoFar) (f : FuncTree) (p : ℕ) → HasToken (check_signature w b s f).faults p → HasToken s.faults p ⊎
    FunctionBreaksAt w b s.locals f p
signature_found w b s f p h = elim (holds_cases (entered_at w s f).faults (header_added w b f) p (subst (λ z. HasToken z p) (signature_faults_are w b s f) h)) [
  | inl x ↦ entered_found w b s f p x
  | inr y ↦ inr (header_found w b s.locals f p y)
]

function_found : (w : World) (b : Bool) (s : FoundSoFar) (f : FuncTree) (p : ℕ) → HasToken (check_function w b s f).faults p → HasToken s.faults p ⊎
    FunctionBreaksAt w b s.locals f p
unfolding check_function
function_found w b s f p h = let q = results_found w f.result in
    let o = optional_receiver_told w in
    let i = items_told (param_told w) in
    elim (block_found w q.types (check_signature w b s f) f.body p (subst (λ z. HasToken (check_block w z (check_signature w b s f) f.body).faults p)
    q.found h)) [
      | inl x ↦ signature_found w b s f p x
      | inr y ↦ inr (in_body (o.leads s f.receiver) (i.leads (check_optional_receiver w s f.receiver) f.params) q.are (subst
          (λ z. BlockBreaksAt w q.types z f.body p) (signature_locals w b s f) y))
    ]

signature_stands : (w : World) (b : Bool) (s : FoundSoFar) (f : FuncTree) (p : ℕ) → HasToken (check_signature w b s f).faults p →
    HasToken (check_function w b s f).faults p
unfolding check_function
signature_stands w b s f p h = block_stays w (judge_results w f.result).wanted (check_signature w b s f) f.body p h

header_stands : (w : World) (b : Bool) (s : FoundSoFar) (f : FuncTree) (p : ℕ) → (ResultBreaksAt w f.result p ⊎ At f.name (IsBadInit w b f) p) →
    HasToken (check_signature w b s f).faults p
header_stands w b s f p h = let t = header_places w b f in subst (λ z. HasToken z p) (sym (signature_faults_are w b s f)) (holds_right (entered_at w s f).faults
    (header_added w b f) p (t.stands p h))

function_stands : (w : World) (b : Bool) (s : FoundSoFar) (f : FuncTree) (p : ℕ) → FunctionBreaksAt w b s.locals f p →
    HasToken (check_function w b s f).faults p
unfolding check_function
function_stands w b s f p (in_receiver c) = let o = optional_receiver_told w in
    let i = items_told (param_told w) in
    signature_stands w b s f p (signature_stays w b s f p (i.stays (check_optional_receiver w s f.receiver) f.params p (o.stands s f.receiver p c)))
function_stands w b s f p (in_params {received = received} r c) = let o = optional_receiver_told w in
    let i = items_told (param_told w) in
    signature_stands w b s f p (signature_stays w b s f p (i.stands (check_optional_receiver w s f.receiver) f.params p (subst
    (λ z. BreaksInTurn ParamTree (ParamDeclares w) (ParamBreaksAt w) z f.params p) (sym (o.only s f.receiver received r)) c)))
function_stands w b s f p (in_result c) = signature_stands w b s f p (header_stands w b s f p (inl c))
function_stands w b s f p (no_init e g n) = signature_stands w b s f f.name (header_stands w b s f f.name (inr (refl, (e, g, n))))
function_stands w b s f p (in_body {ts = ts} r q us c) = subst (λ z. HasToken (check_block w z (check_signature w b s f) f.body).faults p) (sym
    (results_only w us))
    (block_stands w ts (check_signature w b s f) f.body p (subst (λ z. BlockBreaksAt w ts z f.body p) (sym (signature_locals w b s f
    ∙ entered_only w s f r q)) c))

pub function_told : (w : World) (b : Bool) → IsExact FuncTree (FunctionDeclares w) (FunctionBreaksAt w b) (check_function w b)
function_told w b = record {
  leads = function_leads w b;
  only = function_only w b;
  stays = function_stays w b;
  found = function_found w b;
  stands = function_stands w b;
}
