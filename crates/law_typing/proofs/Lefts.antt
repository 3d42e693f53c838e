-- Left sides as the check finds them: they have no fault exactly where each can take a value.
use Rattle.std.proofs.Common.{ℕ, ◌≡◌, Bool, true, false, if◌then◌else◌, List, [], ◌∷◌, ◌++◌, map, Option, Some, None, refl, sym, ap, ◌∙◌, subst, true≢false}
use Rattle.std.proofs.Common.{◌⊎◌, inl, inr, eq-eqb, eqb-true}
use Rattle.go_ast.specs.Tree.{Item, ExprTree}
use Rattle.go_ast.specs.Tree as tree
use Rattle.types_expr.specs.Places.{place_of}
use Rattle.types_expr.specs.Types.{PlainType, ValueKind, Typed, Untyped, Nil, Meaning, Value, Broken}
use Rattle.types_expr.specs.World.{World, Locals, Bound, Local, Means, BrokenVariable, BrokenFunction, BrokenType}
use Rattle.types_expr.specs.Judge.{Judged, judge, judge_value}
use Rattle.types_stmt.specs.Sides.{Target, Wants, Lefts, left_side, join_lefts, own_type, judge_operand, assigned_one, assigned, is_own, declares, no_name}
use Rattle.types_stmt.specs.Sides.{reassigned, defined_one, defined, defined_name, defined_names}
use Rattle.types_stmt.specs.Sides as sides
use Rattle.law_typing.specs.Names.{IsNotBroken}
use Rattle.law_typing.specs.Operators.{IsUntyped, a_constant, a_nil}
use Rattle.law_typing.specs.Meanings.{HasMeaning}
use Rattle.law_typing.specs.BrokenUses.{UsesBroken}
use Rattle.law_typing.proofs.Judgements.{empty_first, empty_second, empty_both}
use Rattle.law_typing.proofs.BrokenRules.{no_fault}
use Rattle.law_typing.proofs.Soundness.{sound}
use Rattle.law_typing.specs.Assignments.{Taker, Fresh, OfType}
use Rattle.law_typing.specs.Simple.{AreAssigned, no_left, a_blank, an_operand, AreDefined, no_definition, an_underscore, a_new_name, an_old_name}
use Rattle.law_typing.specs.Excused.{without_type, constant, IsBlank, IsDeclaredName, bound_to_itself, AssignedIsExcused, assigned_uses}
use Rattle.law_typing.specs.Excused.{assigned_without_type, later_assigned, DefinedIsExcused, defined_uses, defined_no_variable, later_defined}
use Rattle.law_typing.proofs.Values.{value_true, value_settled, IsOperandFound, operand_true, operand_settled}
use Rattle.law_typing.proofs.Assignments.{aim, AreNew}

-- the left sides l are judged to be these targets, without a fault
pub record AreLefts (l : Lefts) (ts : List Taker) : Type 0 where
  pub targets : l.targets ≡ map aim ts
  pub faultless : l.faults ≡ []

-- the left side l is judged to be this target, without a fault
record IsLeft (l : Lefts) (t : Taker) : Type 0 where
  target : l.targets ≡ aim t ∷ []
  faultless : l.faults ≡ []

left_then : {a b : Lefts} {t : Taker} {ts : List Taker} → IsLeft a t → AreLefts b ts → AreLefts (join_lefts a b) (t ∷ ts)
left_then {a} {b} {t} {ts} h more = record {
  targets = ap (λ z. z ++ b.targets) h.target ∙ ap (λ z. aim t ∷ z) more.targets;
  faultless = empty_both a.faults b.faults h.faultless more.faultless;
}

typed_or_not : (k : ValueKind) → ((t : PlainType) × (k ≡ Typed t)) ⊎ IsUntyped k
typed_or_not (Typed t) = inl (t, refl)
typed_or_not (Untyped b) = inr a_constant
typed_or_not Nil = inr a_nil

typed_target : {j : Judged} {t : PlainType} {a : Bool} → j.meaning ≡ Value (Typed t) a → j.faults ≡ [] →
    IsLeft (left_side (Wants (own_type j.meaning)) j) (OfType t)
unfolding own_type
typed_target e f = record { target = ap (λ m. Wants (own_type m) ∷ []) e; faultless = f }

-- left sides of `=`

fresh_left : IsLeft (left_side sides.Takes (record { meaning = Broken; faults = []; uses = [] })) Fresh
fresh_left = record { target = refl; faultless = refl }

blank_left : (w : World) (locals : Locals) (p : ℕ) → IsLeft (assigned_one w locals (tree.Blank p)) Fresh
unfolding assigned_one
blank_left w locals p = fresh_left

other_left : (w : World) (locals : Locals) (e : ExprTree) → IsNotBroken (judge w locals e).meaning →
    assigned_one w locals e ≡ left_side (Wants (own_type (judge_operand w locals e).meaning)) (judge_operand w locals e)
unfolding assigned_one judge
other_left w locals (tree.Blank p) n = absurd (n refl)
other_left w locals e n = refl

operand_left : (w : World) (locals : Locals) (e : ExprTree) {t : PlainType} → HasMeaning w locals e (Value (Typed t) true) →
    IsLeft (assigned_one w locals e) (OfType t)
operand_left w locals e {t} h = let s = sound w locals h in let a = operand_true w locals e h in
    subst (λ z. IsLeft z (OfType t)) (sym (other_left w locals e (λ b. s.whole (sym s.meaning ∙ b)))) (typed_target a.meaning a.faultless)

pub assigned_true : (w : World) (locals : Locals) {xs : List (Item ExprTree)} {ts : List Taker} → AreAssigned w locals xs ts →
    AreLefts (assigned w locals xs) ts
unfolding assigned
assigned_true w locals no_left = record { targets = refl; faultless = refl }
assigned_true w locals (a_blank {i} {p = p} e more) = left_then (subst (λ z. IsLeft (assigned_one w locals z) Fresh) (sym e) (blank_left w locals p))
    (assigned_true w locals more)
assigned_true w locals (an_operand {i} h more) = left_then (operand_left w locals i.value h) (assigned_true w locals more)

-- one left side of `=` without a fault, or excused
record IsAssignedFound (w : World) (locals : Locals) (i : Item ExprTree) (targets : List Target) : Type 0 where
  taker : Taker
  found : targets ≡ aim taker ∷ []
  before : {is : List (Item ExprTree)} {ts : List Taker} → AreAssigned w locals is ts → AreAssigned w locals (i ∷ is) (taker ∷ ts)

abbrev IsAssignedExcused : World → Locals → Item ExprTree → Type 0
IsAssignedExcused w locals i = (is : List (Item ExprTree)) → AssignedIsExcused w locals (i ∷ is)

abbrev IsDefinedExcused : World → Locals → Item ExprTree → Type 0
IsDefinedExcused w locals i = (is : List (Item ExprTree)) → DefinedIsExcused w locals (i ∷ is)

operand_found : (w : World) (locals : Locals) (i : Item ExprTree) → IsOperandFound w locals i.value (judge_operand w locals i.value).meaning →
    IsAssignedFound w locals i (Wants (own_type (judge_operand w locals i.value).meaning) ∷ []) ⊎ IsAssignedExcused w locals i
unfolding own_type
operand_found w locals i o = elim (typed_or_not o.kind) [
  | inl t ↦ inl (record {
    taker = OfType t.0;
    found = ap (λ m. Wants (own_type m) ∷ []) (o.found
        ∙ ap (λ k. Value k true) t.1);
    before = λ more. an_operand (subst (λ k. HasMeaning w locals i.value (Value k true)) t.1 o.means) more;
  })
  | inr u ↦ inr (λ is. assigned_without_type o.means u)
]

operand_or_excused : (w : World) (locals : Locals) (i : Item ExprTree) → (IsBlank i.value → ⊥) → (judge_operand w locals i.value).faults ≡ [] →
    IsAssignedFound w locals i (Wants (own_type (judge_operand w locals i.value).meaning) ∷ []) ⊎ IsAssignedExcused w locals i
operand_or_excused w locals i n h = elim (operand_settled w locals i.value h) [ inl o ↦ operand_found w locals i o | inr u ↦ inr (λ is. assigned_uses n u) ]

-- a left side is `_`, or it is found as an operand
pub assigned_cases : (w : World) (locals : Locals) (e : ExprTree) → ((p : ℕ) × (e ≡ tree.Blank p)) ⊎ ((IsBlank e → ⊥) × (assigned_one w locals e ≡
    left_side (Wants (own_type (judge_operand w locals e).meaning)) (judge_operand w locals e)))
unfolding assigned_one
assigned_cases w locals (tree.Blank p) = inl (p, refl)
assigned_cases w locals e = inr (λ b. elim b [ ], refl)

blank_target : (w : World) (locals : Locals) {e : ExprTree} {p : ℕ} → e ≡ tree.Blank p → (assigned_one w locals e).targets ≡ sides.Takes ∷ []
unfolding assigned_one
blank_target w locals e = ap (λ z. (assigned_one w locals z).targets) e

assigned_one_settled : (w : World) (locals : Locals) (i : Item ExprTree) → (assigned_one w locals i.value).faults ≡ [] →
    IsAssignedFound w locals i (assigned_one w locals i.value).targets ⊎ IsAssignedExcused w locals i
assigned_one_settled w locals i h = elim (assigned_cases w locals i.value) [
  | inl b ↦ inl (record { taker = Fresh; found = blank_target w locals b.1; before = λ more. a_blank b.1 more })
  | inr e ↦ subst (λ (z : Lefts). IsAssignedFound w locals i z.targets ⊎ IsAssignedExcused w locals i) (sym e.1) (operand_or_excused w locals i e.0 (ap (λ
      (z : Lefts). z.faults) (sym e.1) ∙ h))
]

-- left sides of `=` without a fault
pub record AreAssignedFound (w : World) (locals : Locals) (xs : List (Item ExprTree)) (targets : List Target) : Type 0 where
  pub takers : List Taker
  pub found : targets ≡ map aim takers
  pub assigned : AreAssigned w locals xs takers

assigned_then : (w : World) (locals : Locals) (i : Item ExprTree) (is : List (Item ExprTree)) {a b : List Target} → IsAssignedFound w locals i a →
    AreAssignedFound w locals is b → AreAssignedFound w locals (i ∷ is) (a ++ b)
assigned_then w locals i is {a} {b} f more = record {
  takers = f.taker ∷ more.takers;
  found = ap (λ z. z ++ b) f.found
      ∙ ap (λ z. aim f.taker ∷ z) more.found;
  assigned = f.before more.assigned;
}

pub assigned_settled : (w : World) (locals : Locals) (xs : List (Item ExprTree)) → (assigned w locals xs).faults ≡ [] →
    AreAssignedFound w locals xs (assigned w locals xs).targets ⊎ AssignedIsExcused w locals xs
unfolding assigned
assigned_settled w locals [] h = inl (record { takers = []; found = refl; assigned = no_left })
assigned_settled w locals (i ∷ is) h = elim (assigned_one_settled w locals i (empty_first (assigned_one w locals i.value).faults
    (assigned w locals is).faults h)) [
      | inl f ↦ elim (assigned_settled w locals is (empty_second (assigned_one w locals i.value).faults (assigned w locals is).faults h)) [
        | inl more ↦ inl
            (assigned_then w locals i is f more)
        | inr u ↦ inr (later_assigned u)
      ]
      | inr u ↦ inr (u is)
    ]

-- left sides of `:=`

pub own_test : (b : Bound) (p : ℕ) → b ≡ Local p → is_own p b ≡ true
own_test b p e = ap (is_own p) e ∙ eq-eqb p p refl

pub test_own : (b : Bound) (p : ℕ) → is_own p b ≡ true → b ≡ Local p
test_own (Local d) p h = ap Local (eqb-true d p h)
test_own (Means m) p h = absurd (true≢false (sym h))
test_own BrokenVariable p h = absurd (true≢false (sym h))
test_own BrokenFunction p h = absurd (true≢false (sym h))
test_own BrokenType p h = absurd (true≢false (sym h))

not_own : (w : World) (p : ℕ) → (w.bound p ≡ Local p → ⊥) → (b : Bool) → declares w p ≡ b → b ≡ false
not_own w p n true e = absurd (n (test_own (w.bound p) p e))
not_own w p n false e = refl

record IsName (l : Lefts) (name : Option ℕ) (t : Taker) (n : Option ℕ) : Type 0 where
  left : IsLeft l t
  name_is : name ≡ n

underscore_name : (w : World) (locals : Locals) (p : ℕ) → IsName (defined_one w locals (tree.Blank p)) (defined_name w (tree.Blank p)) Fresh None
unfolding defined_one defined_name
underscore_name w locals p = record { left = fresh_left; name_is = refl }

new_name : (w : World) (locals : Locals) (p : ℕ) → w.bound p ≡ Local p → IsName (defined_one w locals (tree.Name p)) (defined_name w (tree.Name p)) Fresh
    (Some p)
unfolding defined_one defined_name
new_name w locals p e = let d = own_test (w.bound p) p e in record {
  left = subst (λ c. IsLeft (if c then left_side sides.Takes (record { meaning = Broken; faults = []; uses = [] }) else reassigned w locals p) Fresh)
      (sym d) fresh_left;
  name_is = ap (λ c. if c then Some p else None) d;
}

old_name : (w : World) (locals : Locals) (p : ℕ) {t : PlainType} → (w.bound p ≡ Local p → ⊥) → HasMeaning w locals (tree.Name p) (Value (Typed t) true) →
    IsName (defined_one w locals (tree.Name p)) (defined_name w (tree.Name p)) (OfType t) None
unfolding defined_one defined_name
old_name w locals p {t} n h = let d = not_own w p n (declares w p) refl in let a = value_true w locals (tree.Name p) h in record {
  left = subst (λ c. IsLeft (if c then left_side sides.Takes (record { meaning = Broken; faults = []; uses = [] }) else reassigned w locals p) (OfType t))
      (sym d) (typed_target a.meaning a.faultless);
  name_is = ap (λ c. if c then Some p else None) d;
}

pub record AreNames (w : World) (locals : Locals) (xs : List (Item ExprTree)) (ts : List Taker) (ns : List (Option ℕ)) : Type 0 where
  pub lefts : AreLefts (defined w locals xs) ts
  pub names : defined_names w xs ≡ ns

name_then : (w : World) (locals : Locals) (i : Item ExprTree) (is : List (Item ExprTree)) {t : Taker} {n : Option ℕ} {ts : List Taker} {ns : List
    (Option ℕ)} → IsName (defined_one w locals i.value) (defined_name w i.value) t n →
    AreNames w locals is ts ns → AreNames w locals (i ∷ is) (t ∷ ts) (n ∷ ns)
unfolding defined
name_then w locals i is {n = n} f more = record {
  lefts = left_then f.left more.lefts;
  names = ap (λ z. z ∷ defined_names w is) f.name_is
      ∙ ap (λ z. n ∷ z) more.names;
}

no_names : (w : World) (locals : Locals) → AreNames w locals [] [] []
unfolding defined
no_names w locals = record { lefts = record { targets = refl; faultless = refl }; names = refl }

named_as : (w : World) (locals : Locals) {e f : ExprTree} {t : Taker} {n : Option ℕ} → e ≡ f → IsName (defined_one w locals f) (defined_name w f) t n →
    IsName (defined_one w locals e) (defined_name w e) t n
named_as w locals {t = t} {n = n} e h = subst (λ z. IsName (defined_one w locals z) (defined_name w z) t n) (sym e) h

pub defined_true : (w : World) (locals : Locals) {xs : List (Item ExprTree)} {ts : List Taker} {ns : List (Option ℕ)} → AreDefined w locals xs ts ns →
    AreNames w locals xs ts ns
defined_true w locals no_definition = no_names w locals
defined_true w locals (an_underscore {i} {is} {p} e more) = name_then w locals i is (named_as w locals e (underscore_name w locals p))
    (defined_true w locals more)
defined_true w locals (a_new_name {i} {is} {p} e b more) = name_then w locals i is (named_as w locals e (new_name w locals p b)) (defined_true w locals more)
defined_true w locals (an_old_name {i} {is} {p} e b h more) = name_then w locals i is (named_as w locals e (old_name w locals p b h))
    (defined_true w locals more)

pub defined_new : {w : World} {locals : Locals} {xs : List (Item ExprTree)} {ts : List Taker} {ns : List (Option ℕ)} → AreDefined w locals xs ts ns →
    AreNew ts ns
defined_new no_definition = tt
defined_new (an_underscore e more) = defined_new more
defined_new (a_new_name e b more) = defined_new more
defined_new (an_old_name e b h more) = defined_new more

-- one left side of `:=` without a fault, or excused
record IsDefinedFound (w : World) (locals : Locals) (i : Item ExprTree) (targets : List Target) (name : Option ℕ) : Type 0 where
  taker : Taker
  found : targets ≡ aim taker ∷ []
  before : {is : List (Item ExprTree)} {ts : List Taker} {ns : List (Option ℕ)} → AreDefined w locals is ts ns →
      AreDefined w locals (i ∷ is) (taker ∷ ts) (name ∷ ns)

abbrev IsOneSettled : World → Locals → Item ExprTree → Lefts → Option ℕ → Type 0
IsOneSettled w locals i l n = IsDefinedFound w locals i l.targets n ⊎ IsDefinedExcused w locals i

-- a name that is not bound to itself is no new one
new_bound : {w : World} {p : ℕ} → IsDeclaredName w (tree.Name p) → w.bound p ≡ Local p
new_bound (bound_to_itself b) = b

not_new : (w : World) (i : Item ExprTree) (p : ℕ) → i.value ≡ tree.Name p → (w.bound p ≡ Local p → ⊥) → IsDeclaredName w i.value → ⊥
not_new w i p e n h = n (new_bound (subst (λ z. IsDeclaredName w z) e h))

pub own_not : (w : World) (p : ℕ) → declares w p ≡ false → w.bound p ≡ Local p → ⊥
own_not w p d q = true≢false (sym (own_test (w.bound p) p q) ∙ d)

old_found : (w : World) (locals : Locals) (i : Item ExprTree) (p : ℕ) → i.value ≡ tree.Name p → (w.bound p ≡ Local p → ⊥) → (k : ValueKind) (a : Bool) →
    (judge_value w locals (tree.Name p)).meaning ≡ Value k a →
    HasMeaning w locals (tree.Name p) (Value k a) → IsOneSettled w locals i (reassigned w locals p) None
unfolding own_type
old_found w locals i p e n (Typed t) true f h = inl (record {
  taker = OfType t;
  found = ap (λ m. Wants (own_type m) ∷ []) f;
  before = λ more. an_old_name e n h more;
})
old_found w locals i p e n k false f h = inr (λ is. defined_no_variable (not_new w i p e n) (subst (λ z. HasMeaning w locals z (Value k false))
    (sym e) h) constant)
old_found w locals i p e n (Untyped b) true f h = inr (λ is. defined_no_variable (not_new w i p e n) (subst (λ z. HasMeaning w locals z (Value
    (Untyped b) true)) (sym e) h)
    (without_type a_constant))
old_found w locals i p e n Nil true f h = inr (λ is. defined_no_variable (not_new w i p e n) (subst (λ z. HasMeaning w locals z (Value Nil true))
    (sym e) h) (without_type a_nil))

name_settled : (w : World) (locals : Locals) (i : Item ExprTree) (p : ℕ) → i.value ≡ tree.Name p → (b : Bool) → declares w p ≡ b →
    (if b then left_side sides.Takes (record { meaning = Broken; faults = []; uses = [] }) else reassigned w locals p).faults ≡ [] →
    IsOneSettled w locals i (if b then left_side sides.Takes (record { meaning = Broken; faults = []; uses = [] }) else reassigned w locals p)
    (if b then Some p else None)
name_settled w locals i p e true d h = inl (record { taker = Fresh; found = refl; before = λ more. a_new_name e (test_own (w.bound p) p d) more })
name_settled w locals i p e false d h = elim (value_settled w locals (tree.Name p) h) [
  | inl v ↦ old_found w locals i p e (λ q. true≢false (sym (own_test (w.bound p) p q) ∙ d)) v.kind v.addressable v.found v.means
  | inr u ↦ inr (λ is. defined_uses (λ b. elim (subst (λ z. IsBlank z) e b) [ ]) (not_new w i p e (own_not w p d)) (subst (λ z. UsesBroken w locals z)
      (sym e) u))
]

no_name_fault : {A : Type 0} (place : ℕ) {m : Meaning} {k : ValueKind} {a : Bool} → m ≡ Value k a → (no_name place m).faults ≡ [] → A
unfolding no_name
no_name_fault place e h = no_fault (ap (λ m. (no_name place m).faults) (sym e) ∙ h)

others_excused : (w : World) (locals : Locals) (i : Item ExprTree) → (IsBlank i.value → ⊥) → (IsDeclaredName w i.value → ⊥) →
    (place : ℕ) (l : Lefts) (n : Option ℕ) →
    (judge_value w locals i.value).faults ++ (no_name place (judge_value w locals i.value).meaning).faults ≡ [] → IsOneSettled w locals i l n
others_excused w locals i n m place l name h = elim (value_settled w locals i.value (empty_first (judge_value w locals i.value).faults (no_name place
    (judge_value w locals i.value).meaning).faults h)) [
      | inl v ↦ no_name_fault place v.found (empty_second (judge_value w locals i.value).faults (no_name place (judge_value w locals i.value).meaning).faults h)
      | inr u ↦ inr (λ is. defined_uses n m u)
    ]

-- a left side is `_`, a name, or neither
data Sort (w : World) (locals : Locals) (e : ExprTree) : Type 0 where
  blank_sort : {p : ℕ} → e ≡ tree.Blank p → Sort w locals e
  name_sort : {p : ℕ} → e ≡ tree.Name p → Sort w locals e
  other_sort : (IsBlank e → ⊥) → (IsDeclaredName w e → ⊥) → ((defined_one w locals e).faults ≡ (judge_value w locals e).faults ++ (no_name (place_of e)
      (judge_value w locals e).meaning).faults) →
      Sort w locals e

sort_of : (w : World) (locals : Locals) (e : ExprTree) → Sort w locals e
unfolding defined_one
sort_of w locals (tree.Blank p) = blank_sort refl
sort_of w locals (tree.Name p) = name_sort refl
sort_of w locals e = other_sort (λ b. elim b [ ]) (λ b. elim b [ ]) refl

settled_as : (w : World) (locals : Locals) (i : Item ExprTree) {e f : ExprTree} → e ≡ f → IsOneSettled w locals i (defined_one w locals f)
    (defined_name w f) → IsOneSettled w locals i (defined_one w locals e) (defined_name w e)
settled_as w locals i e h = subst (λ z. IsOneSettled w locals i (defined_one w locals z) (defined_name w z)) (sym e) h

blank_settled : (w : World) (locals : Locals) (i : Item ExprTree) (p : ℕ) → i.value ≡ tree.Blank p →
    IsOneSettled w locals i (defined_one w locals (tree.Blank p)) (defined_name w (tree.Blank p))
unfolding defined_one defined_name
blank_settled w locals i p e = inl (record { taker = Fresh; found = refl; before = λ more. an_underscore e more })

a_name_settled : (w : World) (locals : Locals) (i : Item ExprTree) (p : ℕ) → i.value ≡ tree.Name p → (defined_one w locals (tree.Name p)).faults ≡ [] →
    IsOneSettled w locals i (defined_one w locals (tree.Name p)) (defined_name w (tree.Name p))
unfolding defined_one defined_name
a_name_settled w locals i p e h = name_settled w locals i p e (declares w p) refl h

defined_one_settled : (w : World) (locals : Locals) (i : Item ExprTree) → (defined_one w locals i.value).faults ≡ [] →
    IsOneSettled w locals i (defined_one w locals i.value) (defined_name w i.value)
defined_one_settled w locals i h = elim (sort_of w locals i.value) [
  | blank_sort {p} e ↦ settled_as w locals i e (blank_settled w locals i p e)
  | name_sort {p} e ↦ settled_as w locals i e (a_name_settled w locals i p e (ap (λ z. (defined_one w locals z).faults) (sym e) ∙ h))
  | other_sort n m e ↦ others_excused w locals i n m (place_of i.value) (defined_one w locals i.value) (defined_name w i.value) (sym e ∙ h)
]

pub record AreDefinedFound (w : World) (locals : Locals) (xs : List (Item ExprTree)) (targets : List Target) : Type 0 where
  pub takers : List Taker
  pub found : targets ≡ map aim takers
  pub defined_are : AreDefined w locals xs takers (defined_names w xs)

defined_then : (w : World) (locals : Locals) (i : Item ExprTree) (is : List (Item ExprTree)) {a b : List Target} →
    IsDefinedFound w locals i a (defined_name w i.value) → AreDefinedFound w locals is b →
    AreDefinedFound w locals (i ∷ is) (a ++ b)
defined_then w locals i is {a} {b} f more = record {
  takers = f.taker ∷ more.takers;
  found = ap (λ z. z ++ b) f.found
      ∙ ap (λ z. aim f.taker ∷ z) more.found;
  defined_are = f.before more.defined_are;
}

pub defined_settled : (w : World) (locals : Locals) (xs : List (Item ExprTree)) → (defined w locals xs).faults ≡ [] →
    AreDefinedFound w locals xs (defined w locals xs).targets ⊎ DefinedIsExcused w locals xs
unfolding defined
defined_settled w locals [] h = inl (record { takers = []; found = refl; defined_are = no_definition })
defined_settled w locals (i ∷ is) h = elim (defined_one_settled w locals i (empty_first (defined_one w locals i.value).faults (defined w locals is).faults h)) [
  | inl f ↦ elim (defined_settled w locals is (empty_second (defined_one w locals i.value).faults (defined w locals is).faults h)) [
    | inl more ↦ inl
        (defined_then w locals i is f more)
    | inr u ↦ inr (later_defined u)
  ]
  | inr u ↦ inr (u is)
]
