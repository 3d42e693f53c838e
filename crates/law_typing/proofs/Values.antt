-- Values where they are required, and right sides, as the judgement finds them.
use Rattle.std.proofs.Common.{ℕ, ◌≡◌, Bool, true, false, ◌⊎◌, inl, inr, List, [], ◌∷◌, map, refl, sym, ap, subst}
use Rattle.go_ast.specs.Tree.{Item, ExprTree}
use Rattle.types_expr.specs.Places.{place_of}
use Rattle.types_expr.specs.Types.{PlainType, ValueKind, Typed, Meaning, Value, TypeName, Function, BuiltinName, Package, Results, Broken}
use Rattle.types_expr.specs.World.{World, Locals}
use Rattle.types_expr.specs.Judge.{Judged, ListValue, JudgedList, judge, judge_value, value_kind, as_value}
use Rattle.types_stmt.specs.Sides.{rhs, judge_each, values_of, list_followed, results_at, assignable, judge_operand}
use Rattle.law_typing.specs.Names.{IsNotBroken}
use Rattle.law_typing.specs.Meanings.{HasMeaning}
use Rattle.law_typing.specs.IsJudgedAs.{IsJudgedAs}
use Rattle.law_typing.specs.BrokenUses.{UsesBroken}
use Rattle.law_typing.proofs.Judgements.{value_whole, means_it, followed_agrees, value_at_agrees, value_kept, kind_known, empty_first, empty_second, empty_both}
use Rattle.law_typing.proofs.Soundness.{sound}
use Rattle.law_typing.proofs.Completeness.{complete, has_value}
use Rattle.law_typing.proofs.BrokenRules.{no_fault, value_or_fault}
use Rattle.law_typing.proofs.FaultlessExpressions.{settle}
use Rattle.law_typing.proofs.Arguments.{AreOf}
use Rattle.law_typing.specs.Assignments.{AreEachValues, no_expression, also_value, GiveKinds, values, results}
use Rattle.law_typing.specs.Excused.{AnyUsesBroken, this_one, a_later_one}

-- an expression that is judged to be a value, and is one by the rules
pub record IsValueFound (w : World) (locals : Locals) (e : ExprTree) (m : Meaning) : Type 0 where
  pub kind : ValueKind
  pub addressable : Bool
  pub found : m ≡ Value kind addressable
  pub means : HasMeaning w locals e (Value kind addressable)

pub value_true : (w : World) (locals : Locals) (e : ExprTree) {k : ValueKind} {a : Bool} → HasMeaning w locals e (Value k a) →
    IsJudgedAs (judge_value w locals e) (Value k a)
value_true w locals e h = value_at_agrees e (sound w locals h)

whole_value : (w : World) (locals : Locals) (e : ExprTree) → (as_value (place_of e) (judge w locals e).meaning).faults ≡ [] →
    IsNotBroken (judge w locals e).meaning → IsValueFound w locals e (judge_value w locals e).meaning
whole_value w locals e h n = let v = value_or_fault (place_of e) (judge w locals e).meaning n h in
    record { kind = v.0; addressable = v.1; found = value_kept (place_of e) v.2; means = has_value (λ q. complete w locals e q) v.2 }

pub value_settled : (w : World) (locals : Locals) (e : ExprTree) → (judge_value w locals e).faults ≡ [] →
    IsValueFound w locals e (judge_value w locals e).meaning ⊎ UsesBroken w locals e
value_settled w locals e h = elim (settle w locals e (empty_first (judge w locals e).faults (as_value (place_of e) (judge w locals e).meaning).faults h)) [
  | inl n ↦ inl (whole_value w locals e (empty_second (judge w locals e).faults (as_value (place_of e) (judge w locals e).meaning).faults h) n)
  | inr u ↦ inr u
]

-- operands that are assigned

pub record IsOperandFound (w : World) (locals : Locals) (e : ExprTree) (m : Meaning) : Type 0 where
  pub kind : ValueKind
  pub found : m ≡ Value kind true
  pub means : HasMeaning w locals e (Value kind true)

assigns : (place : ℕ) {k : ValueKind} → IsJudgedAs (assignable place (Value k true)) (Value k true)
unfolding assignable
assigns place = means_it value_whole

pub operand_true : (w : World) (locals : Locals) (e : ExprTree) {k : ValueKind} → HasMeaning w locals e (Value k true) →
    IsJudgedAs (judge_operand w locals e) (Value k true)
operand_true w locals e h = followed_agrees (assignable (place_of e)) (sound w locals h) (assigns (place_of e))

assigned_or_fault : (w : World) (locals : Locals) (e : ExprTree) (place : ℕ) (m : Meaning) → IsNotBroken m → (assignable place m).faults ≡ [] →
    HasMeaning w locals e m → IsOperandFound w locals e (assignable place m).meaning
unfolding assignable
assigned_or_fault w locals e place (Value k true) n h v = record { kind = k; found = refl; means = v }
assigned_or_fault w locals e place (Value k false) n h v = no_fault h
assigned_or_fault w locals e place (TypeName t) n h v = no_fault h
assigned_or_fault w locals e place (Function s) n h v = no_fault h
assigned_or_fault w locals e place (BuiltinName b) n h v = no_fault h
assigned_or_fault w locals e place Package n h v = no_fault h
assigned_or_fault w locals e place (Results ts) n h v = no_fault h
assigned_or_fault w locals e place Broken n h v = absurd (n refl)

pub operand_settled : (w : World) (locals : Locals) (e : ExprTree) → (judge_operand w locals e).faults ≡ [] →
    IsOperandFound w locals e (judge_operand w locals e).meaning ⊎ UsesBroken w locals e
operand_settled w locals e h = elim (settle w locals e (empty_first (judge w locals e).faults (assignable (place_of e) (judge w locals e).meaning).faults h)) [
  | inl n ↦ inl (assigned_or_fault w locals e (place_of e) (judge w locals e).meaning n (empty_second (judge w locals e).faults (assignable (place_of e)
      (judge w locals e).meaning).faults h) (complete w locals e n))
  | inr u ↦ inr u
]

-- right sides

pub record AreGiven (js : JudgedList) (ks : List ValueKind) : Type 0 where
  pub kinds : AreOf js.values ks
  pub faultless : js.faults ≡ []

each_given : (w : World) (locals : Locals) {is : List (Item ExprTree)} {ks : List ValueKind} → AreEachValues w locals is ks →
    AreGiven (judge_each w locals is) ks
unfolding judge_each
each_given w locals no_expression = record { kinds = tt; faultless = refl }
each_given w locals (also_value {i} {is} h more) = let a = value_true w locals i.value h in
    let others = each_given w locals more in
    record {
      kinds = (kind_known a.meaning, others.kinds);
      faultless = empty_both (judge_value w locals i.value).faults
          (judge_each w locals is).faults a.faultless others.faultless;
    }

results_are : (place : ℕ) (ts : List PlainType) → AreOf (results_at place ts) (map Typed ts)
results_are place [] = tt
results_are place (t ∷ ts) = (refl, results_are place ts)

one_given : (j : Judged) (place : ℕ) {k : ValueKind} {a : Bool} → IsJudgedAs j (Value k a) → AreGiven (list_followed j (values_of place)) (k ∷ [])
unfolding values_of as_value value_kind
one_given j place {k} {a} h = record {
  kinds = subst (λ m. AreOf (values_of place m).values (k ∷ [])) (sym h.meaning) (refl, tt);
  faultless = empty_both j.faults (values_of place j.meaning).faults h.faultless (ap (λ m. (values_of place m).faults) h.meaning);
}

call_given : (j : Judged) (place : ℕ) {ts : List PlainType} → IsJudgedAs j (Results ts) → AreGiven (list_followed j (values_of place)) (map Typed ts)
unfolding values_of
call_given j place {ts} h = record {
  kinds = subst (λ m. AreOf (values_of place m).values (map Typed ts)) (sym h.meaning) (results_are place ts);
  faultless = empty_both j.faults (values_of place j.meaning).faults h.faultless (ap (λ m. (values_of place m).faults) h.meaning);
}

pub rights_given : (w : World) (locals : Locals) {is : List (Item ExprTree)} {ks : List ValueKind} → GiveKinds w locals is ks → AreGiven (rhs w locals is) ks
unfolding rhs
rights_given w locals (values no_expression) = each_given w locals no_expression
rights_given w locals (values (also_value {i} h no_expression)) = one_given (judge w locals i.value) (place_of i.value) (sound w locals h)
rights_given w locals (values (also_value h (also_value g more))) = each_given w locals (also_value h (also_value g more))
rights_given w locals (results {i} h) = call_given (judge w locals i.value) (place_of i.value) (sound w locals h)

-- right sides without a fault: the values that they give
pub record AreGivenBy (R : List ValueKind → Type 0) (vs : List ListValue) : Type 0 where
  pub kinds : List ValueKind
  pub given : R kinds
  pub found : AreOf vs kinds

each_one : (w : World) (locals : Locals) (i : Item ExprTree) (is : List (Item ExprTree)) →
    IsValueFound w locals i.value (judge_value w locals i.value).meaning → AreGivenBy (AreEachValues w locals is) (judge_each w locals is).values →
    AreGivenBy (AreEachValues w locals (i ∷ is)) (judge_each w locals (i ∷ is)).values
unfolding judge_each
each_one w locals i is v more = record { kinds = v.kind ∷ more.kinds; given = also_value v.means more.given; found = (kind_known v.found, more.found) }

each_settled : (w : World) (locals : Locals) (is : List (Item ExprTree)) → (judge_each w locals is).faults ≡ [] →
    AreGivenBy (AreEachValues w locals is) (judge_each w locals is).values ⊎ AnyUsesBroken w locals is
unfolding judge_each
each_settled w locals [] h = inl (record { kinds = []; given = no_expression; found = tt })
each_settled w locals (i ∷ is) h = elim (value_settled w locals i.value (empty_first (judge_value w locals i.value).faults (judge_each w locals is).faults h)) [
  | inl v ↦ elim (each_settled w locals is (empty_second (judge_value w locals i.value).faults (judge_each w locals is).faults h)) [
    | inl more ↦ inl
        (each_one w locals i is v more)
    | inr u ↦ inr (a_later_one u)
  ]
  | inr u ↦ inr (this_one u)
]

one_settled : (w : World) (locals : Locals) (i : Item ExprTree) (place : ℕ) (m : Meaning) → IsNotBroken m → (values_of place m).faults ≡ [] →
    HasMeaning w locals i.value m → AreGivenBy (GiveKinds w locals (i ∷ [])) (values_of place m).values
unfolding values_of as_value value_kind
one_settled w locals i place (Value k a) n h v = record { kinds = k ∷ []; given = values (also_value v no_expression); found = (refl, tt) }
one_settled w locals i place (Results ts) n h v = record { kinds = map Typed ts; given = results v; found = results_are place ts }
one_settled w locals i place (TypeName t) n h v = no_fault h
one_settled w locals i place (Function s) n h v = no_fault h
one_settled w locals i place (BuiltinName b) n h v = no_fault h
one_settled w locals i place Package n h v = no_fault h
one_settled w locals i place Broken n h v = absurd (n refl)

as_values : {w : World} {locals : Locals} {is : List (Item ExprTree)} {vs : List ListValue} →
    AreGivenBy (AreEachValues w locals is) vs ⊎ AnyUsesBroken w locals is → AreGivenBy (GiveKinds w locals is) vs ⊎ AnyUsesBroken w locals is
as_values {w} {locals} {is} {vs} (inl g) = inl (record { kinds = g.kinds; given = values g.given; found = g.found })
as_values {w} {locals} {is} {vs} (inr u) = inr u

pub rights_settled : (w : World) (locals : Locals) (is : List (Item ExprTree)) → (rhs w locals is).faults ≡ [] →
    AreGivenBy (GiveKinds w locals is) (rhs w locals is).values ⊎ AnyUsesBroken w locals is
unfolding rhs
rights_settled w locals [] h = as_values (each_settled w locals [] h)
rights_settled w locals (i ∷ []) h = elim (settle w locals i.value (empty_first (judge w locals i.value).faults (values_of (place_of i.value)
    (judge w locals i.value).meaning).faults h)) [
      | inl n ↦ inl (one_settled w locals i (place_of i.value) (judge w locals i.value).meaning n (empty_second (judge w locals i.value).faults (values_of
          (place_of i.value) (judge w locals i.value).meaning).faults h)
          (complete w locals i.value n))
      | inr u ↦ inr (this_one u)
    ]
rights_settled w locals (i ∷ j ∷ is) h = as_values (each_settled w locals (i ∷ j ∷ is) h)
