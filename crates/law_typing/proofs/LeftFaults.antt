-- Left sides as the check finds them: their targets, and the tokens where they have faults.
use Rattle.std.proofs.Common.{ℕ, ◌≡◌, Bool, true, false, if◌then◌else◌, ◌⊎◌, inl, inr, List, [], ◌∷◌, ◌++◌, map, Option, Some, None, refl, sym, ap, ◌∙◌, subst}
use Rattle.go_ast.specs.Tree.{Item, ExprTree}
use Rattle.go_ast.specs.Tree as tree
use Rattle.types_expr.specs.Places.{place_of}
use Rattle.types_expr.specs.Types.{PlainType, ValueKind, Typed, Untyped, Nil, Meaning, Value, TypeName, Function, BuiltinName, Package, Results, Broken}
use Rattle.types_expr.specs.World.{World, Locals, Local}
use Rattle.types_expr.specs.Judge.{Judged, judge, judge_value, as_value, followed}
use Rattle.types_stmt.specs.Sides.{Target, Wants, Lefts, left_side, own_type, assignable, judge_operand, assigned_one, assigned, declares}
use Rattle.types_stmt.specs.Sides.{no_name as judged_name, reassigned, defined_one, defined, defined_name, defined_names}
use Rattle.types_stmt.specs.Sides as sides
use Rattle.law_typing.specs.Meanings.{HasMeaning}
use Rattle.law_typing.proofs.Tests.{none_is_some}
use Rattle.law_typing.proofs.Completeness.{complete, has_value}
use Rattle.law_typing.specs.Assignments.{Taker, Fresh, OfType}
use Rattle.law_typing.specs.Excused.{IsBlank, underscored, IsDeclaredName, bound_to_itself}
use Rattle.law_typing.proofs.Values.{value_true, operand_true}
use Rattle.law_typing.proofs.Lefts.{assigned_cases, own_test, test_own, own_not}
use Rattle.law_typing.specs.ExpressionFaults.{ValueBreaksAt}
use Rattle.law_typing.specs.AssignmentFaults.{AssignedTakes, a_blank, a_variable, no_variable}
use Rattle.law_typing.specs.AssignmentFaults.{NamesValueOf, an_old_name, DefinedTakes, an_underscore, a_new_name}
use Rattle.law_typing.specs.AssignmentFaults.{a_known_name, no_name, EachTakes, no_side, one_side}
use Rattle.law_typing.specs.DeclaredLocals.{DeclaresNames, no_names, no_new_name}
use Rattle.law_typing.specs.DeclaredLocals as lead
use Rattle.law_typing.specs.SimpleFaults.{OperandBreaksAt, AnyBreaksAt, DefinedBreaksAt, in_old_name, defines_no_name}
use Rattle.law_typing.proofs.FaultLists.{AreExactly, none_told, both_told, told_as, At, at_place, nothing_at, fault_at, some_same}
use Rattle.law_typing.proofs.ValueFaults.{meaning_is}
use Rattle.law_typing.proofs.ExpressionFaults.{value_told, operand_told}
use Rattle.law_typing.proofs.AssignmentFaults.{any_told, no_expression, aim_of}

-- the left side e is judged to be the target that the rules give
pub record IsTaking (R : ExprTree → Option Taker → Type 0) (e : ExprTree) (targets : List Target) : Type 0 where
  pub taker : Option Taker
  pub takes : R e taker
  pub found : targets ≡ aim_of taker ∷ []

-- the left sides xs are judged to be the targets that the rules give
pub record AreTaking (R : ExprTree → Option Taker → Type 0) (xs : List (Item ExprTree)) (targets : List Target) : Type 0 where
  pub takers : List (Option Taker)
  pub take : EachTakes R xs takers
  pub found : targets ≡ map aim_of takers

taking_then : (R : ExprTree → Option Taker → Type 0) (i : Item ExprTree) (is : List (Item ExprTree)) {a b : List Target} → IsTaking R i.value a →
    AreTaking R is b → AreTaking R (i ∷ is) (a ++ b)
taking_then R i is {a} {b} f more = record {
  takers = f.taker ∷ more.takers;
  take = one_side f.takes more.take;
  found = ap (λ z. z ++ b) f.found ∙ ap (λ z. aim_of f.taker ∷ z) more.found;
}

targets_then : {a b : List Target} (t : Option Taker) (ts : List (Option Taker)) → a ≡ aim_of t ∷ [] → b ≡ map aim_of ts → a ++ b ≡ map aim_of (t ∷ ts)
targets_then {a} {b} t ts e f = ap (λ z. z ++ b) e ∙ ap (λ z. aim_of t ∷ z) f

-- left sides of `=`

assigned_type : (place : ℕ) (m : Meaning) (t : PlainType) → own_type (assignable place m).meaning ≡ Some t → m ≡ Value (Typed t) true
unfolding own_type assignable
assigned_type place (Value (Typed u) true) t h = ap (λ z. Value (Typed z) true) (some_same h)
assigned_type place (Value (Untyped b) true) t h = none_is_some t h
assigned_type place (Value Nil true) t h = none_is_some t h
assigned_type place (Value k false) t h = none_is_some t h
assigned_type place (TypeName u) t h = none_is_some t h
assigned_type place (Function s) t h = none_is_some t h
assigned_type place (BuiltinName b) t h = none_is_some t h
assigned_type place Package t h = none_is_some t h
assigned_type place (Results ts) t h = none_is_some t h
assigned_type place Broken t h = none_is_some t h

operand_type : (w : World) (locals : Locals) (e : ExprTree) (t : PlainType) → own_type (judge_operand w locals e).meaning ≡ Some t →
    HasMeaning w locals e (Value (Typed t) true)
operand_type w locals e t h = has_value (λ q. complete w locals e q) (assigned_type (place_of e) (judge w locals e).meaning t h)

type_of_operand : (w : World) (locals : Locals) {e : ExprTree} {t : PlainType} → HasMeaning w locals e (Value (Typed t) true) →
    own_type (judge_operand w locals e).meaning ≡ Some t
unfolding own_type
type_of_operand w locals {e} h = let a = operand_true w locals e h in ap own_type a.meaning

assigned_by : (w : World) (locals : Locals) (e : ExprTree) → (IsBlank e → ⊥) → (o : Option PlainType) → own_type (judge_operand w locals e).meaning ≡ o →
    IsTaking (AssignedTakes w locals) e (Wants o ∷ [])
assigned_by w locals e n None h = record { taker = None; takes = no_variable n (λ t v. none_is_some t (sym h ∙ type_of_operand w locals v)); found = refl }
assigned_by w locals e n (Some t) h = record { taker = Some (OfType t); takes = a_variable (operand_type w locals e t h); found = refl }

blank_targets : (w : World) (locals : Locals) {e : ExprTree} {p : ℕ} → e ≡ tree.Blank p → (assigned_one w locals e).targets ≡ sides.Takes ∷ []
unfolding assigned_one
blank_targets w locals e = ap (λ z. (assigned_one w locals z).targets) e

is_blank : {e : ExprTree} {p : ℕ} → e ≡ tree.Blank p → IsBlank e
is_blank e = subst (λ z. IsBlank z) (sym e) underscored

assigned_taking : (w : World) (locals : Locals) (e : ExprTree) → IsTaking (AssignedTakes w locals) e (assigned_one w locals e).targets
assigned_taking w locals e = elim (assigned_cases w locals e) [
  | inl b ↦ record { taker = Some Fresh; takes = a_blank (is_blank b.1); found = blank_targets w locals b.1 }
  | inr c ↦ subst (λ (z : Lefts). IsTaking (AssignedTakes w locals) e z.targets) (sym c.1)
      (assigned_by w locals e c.0 (own_type (judge_operand w locals e).meaning) refl)
]

pub assigned_take : (w : World) (locals : Locals) (xs : List (Item ExprTree)) → AreTaking (AssignedTakes w locals) xs (assigned w locals xs).targets
unfolding assigned
assigned_take w locals [] = record { takers = []; take = no_side; found = refl }
assigned_take w locals (i ∷ is) = taking_then (AssignedTakes w locals) i is (assigned_taking w locals i.value) (assigned_take w locals is)

no_blank : (w : World) (locals : Locals) {e : ExprTree} {m : Meaning} {p : ℕ} → e ≡ tree.Blank p → HasMeaning w locals e m → ⊥
no_blank w locals {m = m} e h = elim (subst (λ z. HasMeaning w locals z m) e h) [ ]

no_own_type : (w : World) (locals : Locals) (e : ExprTree) (o : Option PlainType) → own_type (judge_operand w locals e).meaning ≡ o → ((t : PlainType) →
    HasMeaning w locals e (Value (Typed t) true) → ⊥) → own_type (judge_operand w locals e).meaning ≡ None
no_own_type w locals e None h n = h
no_own_type w locals e (Some t) h n = absurd (n t (operand_type w locals e t h))

wanted_target : (w : World) (locals : Locals) (e : ExprTree) {o : Option PlainType} → assigned_one w locals e ≡ left_side (Wants (own_type
    (judge_operand w locals e).meaning)) (judge_operand w locals e) → own_type (judge_operand w locals e).meaning ≡ o →
    (assigned_one w locals e).targets ≡ Wants o ∷ []
wanted_target w locals e c h = ap (λ (z : Lefts). z.targets) c ∙ ap (λ z. Wants z ∷ []) h

assigned_only : (w : World) (locals : Locals) {e : ExprTree} {t : Option Taker} → AssignedTakes w locals e t → (assigned_one w locals e).targets ≡ aim_of t ∷ []
assigned_only w locals {e} (a_blank b) = elim (assigned_cases w locals e) [ inl q ↦ blank_targets w locals q.1 | inr c ↦ absurd (c.0 b) ]
assigned_only w locals {e} (a_variable h) = elim (assigned_cases w locals e) [
  | inl q ↦ absurd (no_blank w locals q.1 h)
  | inr c ↦ wanted_target w locals e c.1 (type_of_operand w locals h)
]
assigned_only w locals {e} (no_variable n v) = elim (assigned_cases w locals e) [
  | inl q ↦ absurd (n (is_blank q.1))
  | inr c ↦ wanted_target w locals e c.1 (no_own_type w locals e (own_type (judge_operand w locals e).meaning) refl v)
]

pub assigned_targets : (w : World) (locals : Locals) {xs : List (Item ExprTree)} {ts : List (Option Taker)} → EachTakes (AssignedTakes w locals) xs ts →
    (assigned w locals xs).targets ≡ map aim_of ts
unfolding assigned
assigned_targets w locals no_side = refl
assigned_targets w locals (one_side {t = t} {ts = ts} r more) = targets_then t ts (assigned_only w locals r) (assigned_targets w locals more)

assigned_one_told : (w : World) (locals : Locals) (e : ExprTree) → AreExactly (assigned_one w locals e).faults (OperandBreaksAt w locals e)
unfolding assigned_one judge assignable
assigned_one_told w locals (tree.Blank p) = operand_told w locals (tree.Blank p)
assigned_one_told w locals e = operand_told w locals e

pub assigned_told : (w : World) (locals : Locals) (xs : List (Item ExprTree)) → AreExactly (assigned w locals xs).faults (AnyBreaksAt (OperandBreaksAt w
    locals) xs)
unfolding assigned
assigned_told w locals [] = no_expression (OperandBreaksAt w locals)
assigned_told w locals (i ∷ is) = any_told (OperandBreaksAt w locals) i is (assigned_one_told w locals i.value) (assigned_told w locals is)

-- left sides of `:=`

abbrev no_judged : Judged
no_judged = record { meaning = Broken; faults = []; uses = [] }

-- a left side is `_`, a name, or neither
data Sort (w : World) (locals : Locals) (e : ExprTree) : Type 0 where
  blank_sort : {p : ℕ} → e ≡ tree.Blank p → Sort w locals e
  name_sort : {p : ℕ} → e ≡ tree.Name p → Sort w locals e
  other_sort : (IsBlank e → ⊥) → ((p : ℕ) → e ≡ tree.Name p → ⊥) → defined_one w locals e ≡ left_side (Wants None) (followed (judge_value w locals e)
      (judged_name (place_of e))) → defined_name w e ≡ None → Sort w locals e

sort_of : (w : World) (locals : Locals) (e : ExprTree) → Sort w locals e
unfolding defined_one defined_name
sort_of w locals (tree.Blank p) = blank_sort refl
sort_of w locals (tree.Name p) = name_sort refl
sort_of w locals e = other_sort (λ b. elim b [ ]) (λ p h. cc) refl refl

new_bound : {w : World} {p : ℕ} → IsDeclaredName w (tree.Name p) → w.bound p ≡ Local p
new_bound (bound_to_itself b) = b

new_name_at : {w : World} {e : ExprTree} → IsDeclaredName w e → (p : ℕ) × (e ≡ tree.Name p)
new_name_at (bound_to_itself {p = p} b) = (p, refl)

-- a name that declares, and one that does not
declares_new : (w : World) (p : ℕ) → declares w p ≡ true → IsDeclaredName w (tree.Name p)
declares_new w p h = bound_to_itself (test_own (w.bound p) p h)

declares_none : (w : World) (p : ℕ) → declares w p ≡ false → IsDeclaredName w (tree.Name p) → ⊥
declares_none w p h n = own_not w p h (new_bound n)

new_declares : (w : World) (p : ℕ) (b : Bool) → declares w p ≡ b → IsDeclaredName w (tree.Name p) → b ≡ true
new_declares w p true h n = refl
new_declares w p false h n = absurd (declares_none w p h n)

none_declares : (w : World) (p : ℕ) (b : Bool) → declares w p ≡ b → (IsDeclaredName w (tree.Name p) → ⊥) → b ≡ false
none_declares w p true h n = absurd (n (declares_new w p h))
none_declares w p false h n = refl

-- the type of a name's value
value_type : (place : ℕ) (m : Meaning) (t : PlainType) → own_type (as_value place m).meaning ≡ Some t → (a : Bool) × (m ≡ Value (Typed t) a)
unfolding own_type as_value
value_type place (Value (Typed u) a) t h = (a, ap (λ z. Value (Typed z) a) (some_same h))
value_type place (Value (Untyped b) a) t h = none_is_some t h
value_type place (Value Nil a) t h = none_is_some t h
value_type place (TypeName u) t h = none_is_some t h
value_type place (Function s) t h = none_is_some t h
value_type place (BuiltinName b) t h = none_is_some t h
value_type place Package t h = none_is_some t h
value_type place (Results ts) t h = none_is_some t h
value_type place Broken t h = none_is_some t h

names_value : (w : World) (locals : Locals) (p : ℕ) (t : PlainType) → own_type (judge_value w locals (tree.Name p)).meaning ≡ Some t →
    NamesValueOf w locals (tree.Name p) t
names_value w locals p t h = let v = value_type (place_of (tree.Name p)) (judge w locals (tree.Name p)).meaning t h in
    an_old_name (has_value (λ q. complete w locals (tree.Name p) q) v.1)

value_named : (w : World) (locals : Locals) {p : ℕ} {t : PlainType} → NamesValueOf w locals (tree.Name p) t → own_type (judge_value w locals
    (tree.Name p)).meaning ≡ Some t
unfolding own_type
value_named w locals {p} (an_old_name h) = let a = value_true w locals (tree.Name p) h in ap own_type a.meaning

names_none : (w : World) (locals : Locals) (p : ℕ) (o : Option PlainType) → own_type (judge_value w locals (tree.Name p)).meaning ≡ o → ((t : PlainType) →
    NamesValueOf w locals (tree.Name p) t → ⊥) → own_type (judge_value w locals (tree.Name p)).meaning ≡ None
names_none w locals p None h n = h
names_none w locals p (Some t) h n = absurd (n t (names_value w locals p t h))

value_name_at : {w : World} {locals : Locals} {e : ExprTree} {t : PlainType} → NamesValueOf w locals e t → (p : ℕ) × (e ≡ tree.Name p)
value_name_at (an_old_name {p = p} h) = (p, refl)

renewed_by : (w : World) (locals : Locals) (p : ℕ) → (IsDeclaredName w (tree.Name p) → ⊥) → (o : Option PlainType) → own_type (judge_value w locals
    (tree.Name p)).meaning ≡ o → IsTaking (DefinedTakes w locals) (tree.Name p) (Wants o ∷ [])
renewed_by w locals p n None h = record {
  taker = None;
  takes = no_name (λ b. elim b [ ]) n (λ t v. none_is_some t (sym h ∙ value_named w locals v));
  found = refl;
}
renewed_by w locals p n (Some t) h = record { taker = Some (OfType t); takes = a_known_name n (names_value w locals p t h); found = refl }

name_taking : (w : World) (locals : Locals) (p : ℕ) (b : Bool) → declares w p ≡ b → IsTaking (DefinedTakes w locals) (tree.Name p)
    (if b then left_side sides.Takes no_judged else reassigned w locals p).targets
name_taking w locals p true h = record { taker = Some Fresh; takes = a_new_name (declares_new w p h); found = refl }
name_taking w locals p false h = renewed_by w locals p (declares_none w p h) (own_type (judge_value w locals (tree.Name p)).meaning) refl

named_taking : (w : World) (locals : Locals) (p : ℕ) → IsTaking (DefinedTakes w locals) (tree.Name p) (defined_one w locals (tree.Name p)).targets
unfolding defined_one
named_taking w locals p = name_taking w locals p (declares w p) refl

blank_defined : (w : World) (locals : Locals) (p : ℕ) → (defined_one w locals (tree.Blank p)).targets ≡ sides.Takes ∷ []
unfolding defined_one
blank_defined w locals p = refl

defined_taking : (w : World) (locals : Locals) (e : ExprTree) → IsTaking (DefinedTakes w locals) e (defined_one w locals e).targets
defined_taking w locals e = elim (sort_of w locals e) [
  | blank_sort {p} h ↦ subst (λ z. IsTaking (DefinedTakes w locals) z (defined_one w locals z).targets) (sym h) (record {
    taker = Some Fresh;
    takes = an_underscore underscored;
    found = blank_defined w locals p;
  })
  | name_sort {p} h ↦ subst (λ z. IsTaking (DefinedTakes w locals) z (defined_one w locals z).targets) (sym h) (named_taking w locals p)
  | other_sort n m d c ↦ subst (λ (z : Lefts). IsTaking (DefinedTakes w locals) e z.targets) (sym d) (record {
    taker = None;
    takes = no_name n (λ h. let q = new_name_at h in m q.0 q.1) (λ t v. let q = value_name_at v in m q.0 q.1);
    found = refl;
  })
]

pub defined_take : (w : World) (locals : Locals) (xs : List (Item ExprTree)) → AreTaking (DefinedTakes w locals) xs (defined w locals xs).targets
unfolding defined
defined_take w locals [] = record { takers = []; take = no_side; found = refl }
defined_take w locals (i ∷ is) = taking_then (DefinedTakes w locals) i is (defined_taking w locals i.value) (defined_take w locals is)

-- from the judgement to the rules
name_targets : (w : World) (locals : Locals) (p : ℕ) {b : Bool} {o : Option PlainType} → declares w p ≡ b →
    own_type (judge_value w locals (tree.Name p)).meaning ≡ o →
    (defined_one w locals (tree.Name p)).targets ≡ (if b then sides.Takes ∷ [] else (Wants o ∷ []))
unfolding defined_one
name_targets w locals p {b} {o} h e = ap (λ c. (if c then left_side sides.Takes no_judged else reassigned w locals p).targets) h ∙ chosen b
  where
    chosen : (c : Bool) → (if c then left_side sides.Takes no_judged else reassigned w locals p).targets ≡ (if c then sides.Takes ∷ [] else (Wants o ∷ []))
    chosen true = refl
    chosen false = ap (λ z. Wants z ∷ []) e

blank_only : (w : World) (locals : Locals) {p : ℕ} {t : Option Taker} → DefinedTakes w locals (tree.Blank p) t → t ≡ Some Fresh
blank_only w locals (an_underscore b) = refl
blank_only w locals (a_new_name n) = elim n [ ]
blank_only w locals (a_known_name n v) = elim v [ ]
blank_only w locals (no_name n m v) = absurd (n underscored)

name_only : (w : World) (locals : Locals) (p : ℕ) {t : Option Taker} → DefinedTakes w locals (tree.Name p) t → (defined_one w locals (tree.Name p)).targets ≡
    aim_of t ∷ []
name_only w locals p (an_underscore b) = elim b [ ]
name_only w locals p (a_new_name n) = name_targets w locals p (new_declares w p (declares w p) refl n) refl
name_only w locals p (a_known_name n v) = name_targets w locals p (none_declares w p (declares w p) refl n) (value_named w locals v)
name_only w locals p (no_name b n v) = name_targets w locals p (none_declares w p (declares w p) refl n) (names_none w locals p (own_type (judge_value w locals
    (tree.Name p)).meaning) refl v)

other_only : (w : World) (locals : Locals) {e : ExprTree} {t : Option Taker} → (IsBlank e → ⊥) → ((p : ℕ) → e ≡ tree.Name p → ⊥) →
    DefinedTakes w locals e t → t ≡ None
other_only w locals n m (an_underscore b) = absurd (n b)
other_only w locals n m (a_new_name h) = let q = new_name_at h in absurd (m q.0 q.1)
other_only w locals n m (a_known_name h v) = let q = value_name_at v in absurd (m q.0 q.1)
other_only w locals n m (no_name b h v) = refl

defined_only : (w : World) (locals : Locals) {e : ExprTree} {t : Option Taker} → DefinedTakes w locals e t → (defined_one w locals e).targets ≡ aim_of t ∷ []
defined_only w locals {e} {t} d = elim (sort_of w locals e) [
  | blank_sort {p} h ↦ ap (λ z. (defined_one w locals z).targets) h ∙ (blank_defined w locals p ∙ ap (λ z. aim_of z ∷ []) (sym (blank_only w locals (subst
      (λ z. DefinedTakes w locals z t) h d))))
  | name_sort {p} h ↦ ap (λ z. (defined_one w locals z).targets) h ∙ name_only w locals p (subst (λ z. DefinedTakes w locals z t) h d)
  | other_sort n m c k ↦ ap (λ (z : Lefts). z.targets) c ∙ ap (λ z. aim_of z ∷ []) (sym (other_only w locals n m d))
]

pub defined_targets : (w : World) (locals : Locals) {xs : List (Item ExprTree)} {ts : List (Option Taker)} → EachTakes (DefinedTakes w locals) xs ts →
    (defined w locals xs).targets ≡ map aim_of ts
unfolding defined
defined_targets w locals no_side = refl
defined_targets w locals (one_side {t = t} {ts = ts} r more) = targets_then t ts (defined_only w locals r) (defined_targets w locals more)

-- faults
no_blank_fault : (w : World) (locals : Locals) {p q : ℕ} → ValueBreaksAt w locals (tree.Blank p) q → ⊥
unfolding judge as_value
no_blank_fault w locals {p} {q} b = let t = value_told w locals (tree.Blank p) in t.stands q b

blank_breaks : (w : World) (locals : Locals) {p q : ℕ} → DefinedBreaksAt w locals (tree.Blank p) q → ⊥
blank_breaks w locals (in_old_name n b) = no_blank_fault w locals b
blank_breaks w locals (defines_no_name n h) = elim h [ ]

blank_told : (w : World) (locals : Locals) (p : ℕ) → AreExactly (defined_one w locals (tree.Blank p)).faults (DefinedBreaksAt w locals (tree.Blank p))
unfolding defined_one
blank_told w locals p = none_told (λ q b. blank_breaks w locals b)

name_breaks : {w : World} {locals : Locals} {p q : ℕ} → DefinedBreaksAt w locals (tree.Name p) q → (IsDeclaredName w (tree.Name p) →
    ⊥) × ValueBreaksAt w locals (tree.Name p) q
name_breaks (in_old_name n b) = (n, b)
name_breaks {p = p} (defines_no_name n h) = absurd (n p refl)

name_by : (w : World) (locals : Locals) (p : ℕ) (b : Bool) → declares w p ≡ b → AreExactly (if b then left_side sides.Takes no_judged else reassigned w
    locals p).faults
    (DefinedBreaksAt w locals (tree.Name p))
name_by w locals p true h = none_told (λ q b. let n = name_breaks b in n.0 (declares_new w p h))
name_by w locals p false h = told_as (value_told w locals (tree.Name p)) (λ q b. in_old_name (declares_none w p h) b) (λ q b. let n = name_breaks b in n.1)

name_told : (w : World) (locals : Locals) (p : ℕ) → AreExactly (defined_one w locals (tree.Name p)).faults (DefinedBreaksAt w locals (tree.Name p))
unfolding defined_one
name_told w locals p = name_by w locals p (declares w p) refl

record IsValueHere (w : World) (locals : Locals) (e : ExprTree) : Type 0 where
  kind : ValueKind
  addressable : Bool
  means : HasMeaning w locals e (Value kind addressable)

value_here : (place here : ℕ) (m : Meaning) {C : Type 0} → ((k : ValueKind) (a : Bool) → m ≡ Value k a → C) → (C →
    (k : ValueKind) × (a : Bool) × (m ≡ Value k a)) →
    AreExactly (judged_name place (as_value here m).meaning).faults (At place C)
unfolding judged_name as_value
value_here place here (Value k a) f g = fault_at place (f k a refl)
value_here place here (TypeName t) f g = nothing_at place (λ c. let q = g c in let z : TypeName t ≡ Value q.0 q.1 = q.2 in cc)
value_here place here (Function s) f g = nothing_at place (λ c. let q = g c in let z : Function s ≡ Value q.0 q.1 = q.2 in cc)
value_here place here (BuiltinName b) f g = nothing_at place (λ c. let q = g c in let z : BuiltinName b ≡ Value q.0 q.1 = q.2 in cc)
value_here place here Package f g = nothing_at place (λ c. let q = g c in let z : Package ≡ Value q.0 q.1 = q.2 in cc)
value_here place here (Results ts) f g = nothing_at place (λ c. let q = g c in let z : Results ts ≡ Value q.0 q.1 = q.2 in cc)
value_here place here Broken f g = nothing_at place (λ c. let q = g c in let z : Broken ≡ Value q.0 q.1 = q.2 in cc)

other_breaks : {w : World} {locals : Locals} {e : ExprTree} {p : ℕ} → DefinedBreaksAt w locals e p →
    ValueBreaksAt w locals e p ⊎ At (place_of e) (IsValueHere w locals e) p
other_breaks (in_old_name n b) = inl b
other_breaks (defines_no_name {k = k} {a = a} n h) = inr (refl, record { kind = k; addressable = a; means = h })

other_told : (w : World) (locals : Locals) (e : ExprTree) → ((p : ℕ) → e ≡ tree.Name p → ⊥) →
    AreExactly ((judge_value w locals e).faults ++ (judged_name (place_of e) (judge_value w locals e).meaning).faults) (DefinedBreaksAt w locals e)
other_told w locals e m = both_told (judge_value w locals e).faults (judged_name (place_of e) (judge_value w locals e).meaning).faults (value_told w locals e)
    (value_here (place_of e) (place_of e) (judge w locals e).meaning {C = IsValueHere w locals e} (λ k a h. record {
      kind = k;
      addressable = a;
      means = has_value (λ q. complete w locals e q) h;
    }) (λ c. (c.kind, c.addressable, meaning_is w locals c.means))) (λ p b. in_old_name (λ h. let q = new_name_at h in m q.0 q.1) b)
    (at_place (DefinedBreaksAt w locals e) (λ c. defines_no_name m c.means)) (λ p b. other_breaks b)

defined_one_told : (w : World) (locals : Locals) (e : ExprTree) → AreExactly (defined_one w locals e).faults (DefinedBreaksAt w locals e)
defined_one_told w locals e = elim (sort_of w locals e) [
  | blank_sort {p} h ↦ subst (λ z. AreExactly (defined_one w locals z).faults (DefinedBreaksAt w locals z)) (sym h) (blank_told w locals p)
  | name_sort {p} h ↦ subst (λ z. AreExactly (defined_one w locals z).faults (DefinedBreaksAt w locals z)) (sym h) (name_told w locals p)
  | other_sort n m d c ↦ subst (λ (z : Lefts). AreExactly z.faults (DefinedBreaksAt w locals e)) (sym d) (other_told w locals e m)
]

pub defined_told : (w : World) (locals : Locals) (xs : List (Item ExprTree)) → AreExactly (defined w locals xs).faults (AnyBreaksAt (DefinedBreaksAt w
    locals) xs)
unfolding defined
defined_told w locals [] = no_expression (DefinedBreaksAt w locals)
defined_told w locals (i ∷ is) = any_told (DefinedBreaksAt w locals) i is (defined_one_told w locals i.value) (defined_told w locals is)

-- which names declare

not_new : {w : World} {e : ExprTree} {p : ℕ} → e ≡ tree.Name p → (IsDeclaredName w (tree.Name p) → ⊥) → IsDeclaredName w e → ⊥
not_new {w} e n h = n (subst (λ z. IsDeclaredName w z) e h)

named_as : (w : World) (i : Item ExprTree) (is : List (Item ExprTree)) (ns : List (Option ℕ)) (p : ℕ) → i.value ≡ tree.Name p → DeclaresNames w is ns →
    (b : Bool) →
    declares w p ≡ b → DeclaresNames w (i ∷ is) ((if b then Some p else None) ∷ ns)
named_as w i is ns p e more true h = lead.a_new_name e (test_own (w.bound p) p h) more
named_as w i is ns p e more false h = no_new_name (not_new e (declares_none w p h)) more

name_of : (w : World) {e : ExprTree} {p : ℕ} → e ≡ tree.Name p → defined_name w e ≡ (if declares w p then Some p else None)
unfolding defined_name
name_of w e = ap (defined_name w) e

blank_name : (w : World) {e : ExprTree} {p : ℕ} → e ≡ tree.Blank p → defined_name w e ≡ None
unfolding defined_name
blank_name w e = ap (defined_name w) e

name_found : (w : World) (locals : Locals) (i : Item ExprTree) (is : List (Item ExprTree)) (ns : List (Option ℕ)) → DeclaresNames w is ns →
    DeclaresNames w (i ∷ is) (defined_name w i.value ∷ ns)
name_found w locals i is ns more = elim (sort_of w locals i.value) [
  | blank_sort {p} h ↦ subst (λ z. DeclaresNames w (i ∷ is) (z ∷ ns)) (sym (blank_name w h)) (no_new_name (λ n. let q = new_name_at n in
      let c : tree.Blank p ≡ tree.Name q.0 = sym h ∙ q.1 in cc) more)
  | name_sort {p} h ↦ subst (λ z. DeclaresNames w (i ∷ is) (z ∷ ns)) (sym (name_of w h)) (named_as w i is ns p h more (declares w p) refl)
  | other_sort n m d c ↦ subst (λ z. DeclaresNames w (i ∷ is) (z ∷ ns)) (sym c) (no_new_name (λ h. let q = new_name_at h in m q.0 q.1) more)
]

pub names_found : (w : World) (locals : Locals) (xs : List (Item ExprTree)) → DeclaresNames w xs (defined_names w xs)
names_found w locals [] = no_names
names_found w locals (i ∷ is) = name_found w locals i is (defined_names w is) (names_found w locals is)

new_name_is : (w : World) {e : ExprTree} {p : ℕ} → e ≡ tree.Name p → w.bound p ≡ Local p → defined_name w e ≡ Some p
new_name_is w {p = p} e h = name_of w e ∙ ap (λ c. if c then Some p else None) (own_test (w.bound p) p h)

other_name_is : (w : World) (locals : Locals) (e : ExprTree) → (IsDeclaredName w e → ⊥) → defined_name w e ≡ None
other_name_is w locals e n = elim (sort_of w locals e) [
  | blank_sort h ↦ blank_name w h
  | name_sort {p} h ↦ name_of w h ∙ ap (λ c. if c then Some p else None) (none_declares w p (declares w p) refl (λ q. n (subst (λ z. IsDeclaredName w z)
      (sym h) q)))
  | other_sort k m d c ↦ c
]

pub names_only : (w : World) (locals : Locals) {xs : List (Item ExprTree)} {ns : List (Option ℕ)} → DeclaresNames w xs ns → defined_names w xs ≡ ns
names_only w locals no_names = refl
names_only w locals (lead.a_new_name {is = is} {p = p} e h more) = ap (λ z. z ∷ defined_names w is) (new_name_is w e h) ∙ ap (λ z. Some p ∷ z)
    (names_only w locals more)
names_only w locals (no_new_name {i} {is} n more) = ap (λ z. z ∷ defined_names w is) (other_name_is w locals i.value n) ∙ ap (λ z. None ∷ z)
    (names_only w locals more)
