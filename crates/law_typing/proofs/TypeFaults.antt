-- Written types: the judgement finds a fault at exactly the tokens where no type is written.
use Rattle.std.proofs.Common.{ℕ, ◌≡◌, List, [], ◌∷◌, inl, inr, refl, sym, subst}
use Rattle.go_ast.specs.Tree.{TypeTree}
use Rattle.types_expr.specs.Types.{Value, TypeName, Function, BuiltinName, Package, Results, Broken}
use Rattle.types_expr.specs.World.{World, Bound, Local, Means, BrokenVariable, BrokenFunction, BrokenType}
use Rattle.types_expr.specs.Judge.{judge_type, named_type, imported_type}
use Rattle.law_typing.specs.Faults.{NamesNoType, NamesValue, a_local, a_value, a_broken_variable, IsNoType, by_name, behind_package, behind_value, no_package}
use Rattle.law_typing.specs.Faults.{in_pointer, in_slice}
use Rattle.law_typing.proofs.PartFaults.{type_each}
use Rattle.law_typing.proofs.RuleFaults.{Each}
use Rattle.law_typing.proofs.FaultLists.{HasToken, AreExactly}

pub each_holds : (P : ℕ → Type 0) (xs : List ℕ) → Each P xs → (p : ℕ) → HasToken xs p → P p
each_holds P [] h p q = absurd q
each_holds P (x ∷ xs) h p (inl e) = subst P e h.0
each_holds P (x ∷ xs) h p (inr q) = each_holds P xs h.1 p q

-- a name with the given binding
no_type_bound : (w : World) (n : ℕ) (b : Bound) → w.bound n ≡ b → NamesNoType w n → HasToken (named_type b n).faults n
unfolding named_type
no_type_bound w n (Means (TypeName t)) e h = absurd (h.no_type t e)
no_type_bound w n BrokenType e h = absurd (h.unbroken e)
no_type_bound w n (Means (Value k a)) e h = inl refl
no_type_bound w n (Means (Function s)) e h = inl refl
no_type_bound w n (Means (BuiltinName b)) e h = inl refl
no_type_bound w n (Means Package) e h = inl refl
no_type_bound w n (Means (Results ts)) e h = inl refl
no_type_bound w n (Means Broken) e h = inl refl
no_type_bound w n (Local d) e h = inl refl
no_type_bound w n BrokenVariable e h = inl refl
no_type_bound w n BrokenFunction e h = inl refl

through_package : (w : World) (p n : ℕ) → w.bound p ≡ Means Package → NamesNoType w n → HasToken (imported_type w (w.bound p) p n).faults n
unfolding imported_type
through_package w p n e h = subst (λ b. HasToken (imported_type w b p n).faults n) (sym e) (no_type_bound w n (w.bound n) refl h)

through_value : (w : World) (p n : ℕ) → NamesValue w p → HasToken (imported_type w (w.bound p) p n).faults n
unfolding imported_type
through_value w p n (a_local e) = subst (λ b. HasToken (imported_type w b p n).faults n) (sym e) (inl refl)
through_value w p n (a_value e) = subst (λ b. HasToken (imported_type w b p n).faults n) (sym e) (inl refl)
through_value w p n (a_broken_variable e) = subst (λ b. HasToken (imported_type w b p n).faults n) (sym e) (inl refl)

through_other : (w : World) (p n : ℕ) (b : Bound) → w.bound p ≡ b → (w.bound p ≡ Means Package → ⊥) → (NamesValue w p → ⊥) →
    HasToken (imported_type w b p n).faults p
unfolding imported_type
through_other w p n (Means Package) e f g = absurd (f e)
through_other w p n (Means (Value k a)) e f g = absurd (g (a_value e))
through_other w p n (Local d) e f g = absurd (g (a_local e))
through_other w p n BrokenVariable e f g = absurd (g (a_broken_variable e))
through_other w p n (Means (TypeName t)) e f g = inl refl
through_other w p n (Means (Function s)) e f g = inl refl
through_other w p n (Means (BuiltinName b)) e f g = inl refl
through_other w p n (Means (Results ts)) e f g = inl refl
through_other w p n (Means Broken) e f g = inl refl
through_other w p n BrokenFunction e f g = inl refl
through_other w p n BrokenType e f g = inl refl

type_stands : (w : World) {x : TypeTree} {p : ℕ} → IsNoType w x p → HasToken (judge_type w x).faults p
unfolding judge_type
type_stands w (by_name {n} h) = no_type_bound w n (w.bound n) refl h
type_stands w (behind_package {p} {n = n} e h) = through_package w p n e h
type_stands w (behind_value {p} {n = n} v) = through_value w p n v
type_stands w (no_package {p} {n = n} f g) = through_other w p n (w.bound p) refl f g
type_stands w (in_pointer h) = type_stands w h
type_stands w (in_slice h) = type_stands w h

pub type_told : (w : World) (x : TypeTree) → AreExactly (judge_type w x).faults (IsNoType w x)
type_told w x = record {
  found = each_holds (IsNoType w x) (judge_type w x).faults (type_each (IsNoType w x) w x (λ p h. h));
  stands = λ p h. type_stands w h;
}
