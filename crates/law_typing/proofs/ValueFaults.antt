-- Values and operands: their kinds, and the tokens where an expression is none.
use Rattle.std.proofs.Common.{ℕ, ◌≡◌, Bool, true, false, ◌⊎◌, inl, inr, Option, Some, None, refl, sym, ap, ◌∙◌, subst, true≢false}
use Rattle.go_ast.specs.Tree.{ExprTree}
use Rattle.types_expr.specs.Places.{place_of}
use Rattle.types_expr.specs.Types.{ValueKind, Meaning, Value, TypeName, Function, BuiltinName, Package, Results, Broken}
use Rattle.types_expr.specs.World.{World, Locals}
use Rattle.types_expr.specs.Judge.{judge, judge_value, as_value, value_kind}
use Rattle.types_stmt.specs.Sides.{assignable, judge_operand}
use Rattle.law_typing.specs.Names.{IsNotBroken}
use Rattle.law_typing.specs.Meanings.{HasMeaning}
use Rattle.law_typing.specs.Faults.{IsNoValue}
use Rattle.law_typing.proofs.Tests.{none_is_some}
use Rattle.law_typing.proofs.Judgements.{value_whole, kind_known, known_kind}
use Rattle.law_typing.proofs.Soundness.{sound}
use Rattle.law_typing.proofs.Completeness.{complete, has_value, value_was}
use Rattle.law_typing.proofs.Values.{value_true, operand_true}
use Rattle.law_typing.specs.ExpressionFaults.{BreaksAt, ValueBreaksAt, in_value, no_value}
use Rattle.law_typing.specs.AssignmentFaults.{GivesKind, a_value, not_a_value}
use Rattle.law_typing.specs.SimpleFaults.{OperandBreaksAt, in_operand, not_assignable}
use Rattle.law_typing.proofs.FaultLists.{AreExactly, both_told, At, at_place, nothing_at, fault_at}

pub meaning_is : (w : World) (locals : Locals) {e : ExprTree} {m : Meaning} → HasMeaning w locals e m → (judge w locals e).meaning ≡ m
meaning_is w locals h = let a = sound w locals h in a.meaning

pub meant_whole : (w : World) (locals : Locals) {e : ExprTree} {m : Meaning} → HasMeaning w locals e m → IsNotBroken (judge w locals e).meaning
meant_whole w locals h = let a = sound w locals h in subst (λ z. IsNotBroken z) (sym a.meaning) a.whole

-- values

record IsNoValueHere (w : World) (locals : Locals) (e : ExprTree) : Type 0 where
  meaning : Meaning
  means : HasMeaning w locals e meaning
  is_none : IsNoValue meaning

pub as_value_told : (place : ℕ) (m : Meaning) {C : Type 0} → (IsNotBroken m → IsNoValue m → C) → (C → IsNotBroken m × IsNoValue m) →
    AreExactly (as_value place m).faults (At place C)
unfolding as_value
as_value_told place (Value k a) f g = nothing_at place (λ c. let q = g c in q.1 k a refl)
as_value_told place (TypeName t) f g = fault_at place (f (λ h. cc) (λ k a h. cc))
as_value_told place (Function s) f g = fault_at place (f (λ h. cc) (λ k a h. cc))
as_value_told place (BuiltinName b) f g = fault_at place (f (λ h. cc) (λ k a h. cc))
as_value_told place Package f g = fault_at place (f (λ h. cc) (λ k a h. cc))
as_value_told place (Results ts) f g = fault_at place (f (λ h. cc) (λ k a h. cc))
as_value_told place Broken f g = nothing_at place (λ c. let q = g c in q.0 refl)

no_value_is : (w : World) (locals : Locals) (e : ExprTree) → IsNoValueHere w locals e →
    IsNotBroken (judge w locals e).meaning × IsNoValue (judge w locals e).meaning
no_value_is w locals e c = (meant_whole w locals c.means, subst (λ z. IsNoValue z) (sym (meaning_is w locals c.means)) c.is_none)

value_cases : {w : World} {locals : Locals} {e : ExprTree} {p : ℕ} → ValueBreaksAt w locals e p → BreaksAt w locals e p ⊎ At (place_of e)
    (IsNoValueHere w locals e) p
value_cases (in_value b) = inl b
value_cases (no_value {m = m} h n) = inr (refl, record { meaning = m; means = h; is_none = n })

pub value_from : (w : World) (locals : Locals) (e : ExprTree) → AreExactly (judge w locals e).faults (BreaksAt w locals e) →
    AreExactly (judge_value w locals e).faults (ValueBreaksAt w locals e)
value_from w locals e t = both_told (judge w locals e).faults (as_value (place_of e) (judge w locals e).meaning).faults t
    (as_value_told (place_of e) (judge w locals e).meaning {C = IsNoValueHere w locals e} (λ n v. record {
      meaning = (judge w locals e).meaning;
      means = complete w locals e n;
      is_none = v;
    }) (λ c. no_value_is w locals e c)) (λ p b. in_value b) (at_place (ValueBreaksAt w locals e) (λ c. no_value c.means c.is_none)) (λ p b. value_cases b)

pub kind_is : (w : World) (locals : Locals) {e : ExprTree} {k : ValueKind} {a : Bool} → HasMeaning w locals e (Value k a) →
    value_kind (judge_value w locals e).meaning ≡ Some k
kind_is w locals {e} h = let a = value_true w locals e h in kind_known a.meaning

pub kind_means : (w : World) (locals : Locals) (e : ExprTree) (k : ValueKind) → value_kind (judge_value w locals e).meaning ≡ Some k →
    (a : Bool) × HasMeaning w locals e (Value k a)
kind_means w locals e k h = let v = known_kind (judge_value w locals e).meaning k h in
    (v.0, has_value (λ q. complete w locals e q) (value_was (place_of e) (judge w locals e).meaning v.1))

gives_kind : (w : World) (locals : Locals) (e : ExprTree) (o : Option ValueKind) → value_kind (judge_value w locals e).meaning ≡ o → GivesKind w locals e o
gives_kind w locals e (Some k) h = let q = kind_means w locals e k h in a_value q.1
gives_kind w locals e None h = not_a_value (λ k a m. none_is_some k (sym h ∙ kind_is w locals m))

pub gives_found : (w : World) (locals : Locals) (e : ExprTree) → GivesKind w locals e (value_kind (judge_value w locals e).meaning)
gives_found w locals e = gives_kind w locals e (value_kind (judge_value w locals e).meaning) refl

no_kind : (w : World) (locals : Locals) (e : ExprTree) (o : Option ValueKind) → value_kind (judge_value w locals e).meaning ≡ o → ((k : ValueKind) (a : Bool) →
    HasMeaning w locals e (Value k a) → ⊥) → value_kind (judge_value w locals e).meaning ≡ None
no_kind w locals e None h n = h
no_kind w locals e (Some k) h n = let q = kind_means w locals e k h in absurd (n k q.0 q.1)

pub gives_only : (w : World) (locals : Locals) {e : ExprTree} {o : Option ValueKind} → GivesKind w locals e o → value_kind (judge_value w locals e).meaning ≡ o
gives_only w locals (a_value h) = kind_is w locals h
gives_only w locals {e} (not_a_value n) = no_kind w locals e (value_kind (judge_value w locals e).meaning) refl n

-- operands that are to be assigned

abbrev IsNoVariable : Meaning → Type 0
IsNoVariable m = (k : ValueKind) → m ≡ Value k true → ⊥

record IsNotAssignable (w : World) (locals : Locals) (e : ExprTree) : Type 0 where
  meaning : Meaning
  means : HasMeaning w locals e meaning
  is_none : IsNoVariable meaning

no_constant : {j k : ValueKind} → Value j false ≡ Value k true → ⊥
no_constant h = let q : false ≡ true = cc in true≢false (sym q)

assignable_told : (place : ℕ) (m : Meaning) {C : Type 0} → (IsNotBroken m → IsNoVariable m → C) → (C → IsNotBroken m × IsNoVariable m) →
    AreExactly (assignable place m).faults (At place C)
unfolding assignable
assignable_told place (Value k true) f g = nothing_at place (λ c. let q = g c in q.1 k refl)
assignable_told place (Value k false) f g = fault_at place (f value_whole (λ j h. no_constant h))
assignable_told place (TypeName t) f g = fault_at place (f (λ h. cc) (λ k h. cc))
assignable_told place (Function s) f g = fault_at place (f (λ h. cc) (λ k h. cc))
assignable_told place (BuiltinName b) f g = fault_at place (f (λ h. cc) (λ k h. cc))
assignable_told place Package f g = fault_at place (f (λ h. cc) (λ k h. cc))
assignable_told place (Results ts) f g = fault_at place (f (λ h. cc) (λ k h. cc))
assignable_told place Broken f g = nothing_at place (λ c. let q = g c in q.0 refl)

not_assignable_is : (w : World) (locals : Locals) (e : ExprTree) → IsNotAssignable w locals e →
    IsNotBroken (judge w locals e).meaning × IsNoVariable (judge w locals e).meaning
not_assignable_is w locals e c = (meant_whole w locals c.means, subst (λ z. IsNoVariable z) (sym (meaning_is w locals c.means)) c.is_none)

operand_cases : {w : World} {locals : Locals} {e : ExprTree} {p : ℕ} → OperandBreaksAt w locals e p → BreaksAt w locals e p ⊎ At (place_of e)
    (IsNotAssignable w locals e) p
operand_cases (in_operand b) = inl b
operand_cases (not_assignable {m = m} h n) = inr (refl, record { meaning = m; means = h; is_none = n })

pub operand_from : (w : World) (locals : Locals) (e : ExprTree) → AreExactly (judge w locals e).faults (BreaksAt w locals e) →
    AreExactly (judge_operand w locals e).faults (OperandBreaksAt w locals e)
operand_from w locals e t = both_told (judge w locals e).faults (assignable (place_of e) (judge w locals e).meaning).faults t
    (assignable_told (place_of e) (judge w locals e).meaning {C = IsNotAssignable w locals e} (λ n v. record {
      meaning = (judge w locals e).meaning;
      means = complete w locals e n;
      is_none = v;
    }) (λ c. not_assignable_is w locals e c)) (λ p b. in_operand b) (at_place (OperandBreaksAt w locals e) (λ c. not_assignable c.means c.is_none))
    (λ p b. operand_cases b)

pub operand_kind_is : (w : World) (locals : Locals) {e : ExprTree} {k : ValueKind} → HasMeaning w locals e (Value k true) →
    value_kind (judge_operand w locals e).meaning ≡ Some k
operand_kind_is w locals {e} h = let a = operand_true w locals e h in kind_known a.meaning

assigned_kind : (place : ℕ) (m : Meaning) (k : ValueKind) → value_kind (assignable place m).meaning ≡ Some k → m ≡ Value k true
unfolding assignable value_kind
assigned_kind place (Value j true) k h = let e : j ≡ k = cc in ap (λ z. Value z true) e
assigned_kind place (Value j false) k h = none_is_some k h
assigned_kind place (TypeName t) k h = none_is_some k h
assigned_kind place (Function s) k h = none_is_some k h
assigned_kind place (BuiltinName b) k h = none_is_some k h
assigned_kind place Package k h = none_is_some k h
assigned_kind place (Results ts) k h = none_is_some k h
assigned_kind place Broken k h = none_is_some k h

pub operand_kind_means : (w : World) (locals : Locals) (e : ExprTree) (k : ValueKind) → value_kind (judge_operand w locals e).meaning ≡ Some k →
    HasMeaning w locals e (Value k true)
operand_kind_means w locals e k h = has_value (λ q. complete w locals e q) (assigned_kind (place_of e) (judge w locals e).meaning k h)
