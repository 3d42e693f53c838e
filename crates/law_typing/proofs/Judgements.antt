-- The judgement of an expression, from those of its parts.
use Rattle.std.proofs.Common.{ℕ, ◌≡◌, Bool, true, false, List, [], ◌∷◌, ◌++◌, Option, Some, refl, sym, ap, ◌∙◌, subst}
use Rattle.go_ast.specs.Tree.{ExprTree}
use Rattle.types_expr.specs.Places.{place_of}
use Rattle.types_expr.specs.Types.{PlainType, ValueKind, Signature, Meaning, Value, TypeName, Function, BuiltinName, Package, Results, Broken}
use Rattle.types_expr.specs.Judge.{Judged, MemberUse, Noted, noting, means, means_or_wrong, followed, with_use, as_value, value_at, value_kind, wrong_if_whole}
use Rattle.law_typing.specs.Names.{IsNotBroken}
use Rattle.law_typing.specs.IsJudgedAs.{IsJudgedAs}

pub value_whole : {k : ValueKind} {a : Bool} → IsNotBroken (Value k a)
value_whole {k} {a} h = cc

pub function_whole : {s : Signature} → IsNotBroken (Function s)
function_whole {s} h = cc

pub results_whole : {ts : List PlainType} → IsNotBroken (Results ts)
results_whole {ts} h = cc

pub agrees_as : {j k : Judged} {m : Meaning} → j ≡ k → IsJudgedAs k m → IsJudgedAs j m
agrees_as {j} {k} {m} e a = subst (λ (x : Judged). IsJudgedAs x m) (sym e) a

pub means_it : {m : Meaning} → IsNotBroken m → IsJudgedAs (means m) m
means_it n = record { meaning = refl; faultless = refl; whole = n }

pub followed_agrees : {j : Judged} {m n : Meaning} (rule : Meaning → Judged) → IsJudgedAs j m → IsJudgedAs (rule m) n → IsJudgedAs (followed j rule) n
followed_agrees {j} {m} {n} rule a b = record {
  meaning = ap (λ x. (rule x).meaning) a.meaning ∙ b.meaning;
  faultless = ap (λ x. x ++ (rule j.meaning).faults) a.faultless ∙ (ap (λ x. (rule x).faults) a.meaning ∙ b.faultless);
  whole = b.whole;
}

pub used_agrees : {j : Judged} {m : Meaning} (u : MemberUse) → IsJudgedAs j m → IsJudgedAs (with_use u j) m
used_agrees u a = record { meaning = a.meaning; faultless = a.faultless; whole = a.whole }

pub noted_agrees : {j : Judged} {m : Meaning} (notes : List Noted) → IsJudgedAs j m → IsJudgedAs (noting notes j) m
noted_agrees notes a = record { meaning = a.meaning; faultless = a.faultless; whole = a.whole }

pub chosen_agrees : {o : Option Meaning} {m : Meaning} (place : ℕ) → o ≡ Some m → IsNotBroken m → IsJudgedAs (means_or_wrong o place) m
chosen_agrees place e n = agrees_as (ap (λ x. means_or_wrong x place) e) (means_it n)

pub value_agrees : (place : ℕ) {k : ValueKind} {a : Bool} → IsJudgedAs (as_value place (Value k a)) (Value k a)
unfolding as_value
value_agrees place = means_it value_whole

pub value_at_agrees : (e : ExprTree) {j : Judged} {k : ValueKind} {a : Bool} → IsJudgedAs j (Value k a) → IsJudgedAs (value_at e j) (Value k a)
value_at_agrees e h = followed_agrees (as_value (place_of e)) h (value_agrees (place_of e))

-- an expression that is judged to be one where a value is required is a value
pub only_value : (place : ℕ) (m : Meaning) → IsNotBroken (as_value place m).meaning → (k : ValueKind) × (a : Bool) × (m ≡ Value k a)
unfolding as_value
only_value place (Value k a) n = (k, a, refl)
only_value place (TypeName t) n = absurd (n refl)
only_value place (Function s) n = absurd (n refl)
only_value place (BuiltinName b) n = absurd (n refl)
only_value place Package n = absurd (n refl)
only_value place (Results ts) n = absurd (n refl)
only_value place Broken n = absurd (n refl)

pub value_kept : (place : ℕ) {m : Meaning} {k : ValueKind} {a : Bool} → m ≡ Value k a → (as_value place m).meaning ≡ Value k a
unfolding as_value
value_kept place e = ap (λ x. (as_value place x).meaning) e

pub kind_known : {m : Meaning} {k : ValueKind} {a : Bool} → m ≡ Value k a → value_kind m ≡ Some k
unfolding value_kind
kind_known e = ap value_kind e

pub known_kind : (m : Meaning) (k : ValueKind) → value_kind m ≡ Some k → (a : Bool) × (m ≡ Value k a)
unfolding value_kind
known_kind (Value j a) k h = let e : j ≡ k = cc in (a, ap (λ x. Value x a) e)
known_kind (TypeName t) k h = cc
known_kind (Function s) k h = cc
known_kind (BuiltinName b) k h = cc
known_kind Package k h = cc
known_kind (Results ts) k h = cc
known_kind Broken k h = cc

pub wrong_broken : (b : Bool) (place : ℕ) → (wrong_if_whole b place).meaning ≡ Broken
wrong_broken true place = refl
wrong_broken false place = refl

pub empty_first : (xs ys : List ℕ) → (xs ++ ys) ≡ [] → xs ≡ []
empty_first [] ys h = refl
empty_first (x ∷ xs) ys h = cc

pub empty_second : (xs ys : List ℕ) → (xs ++ ys) ≡ [] → ys ≡ []
empty_second [] ys h = h
empty_second (x ∷ xs) ys h = cc

pub empty_both : (xs ys : List ℕ) → xs ≡ [] → ys ≡ [] → (xs ++ ys) ≡ []
empty_both xs ys e f = ap (λ x. x ++ ys) e ∙ f
