-- The judgement of operators agrees with the rules of operators.
use Rattle.std.proofs.Common.{◌≡◌, Bool, true, false, ◌||◌, Option, Some, None, refl, sym, ap, ◌∙◌, subst, true≢false, if◌then◌else◌}
use Rattle.go_ast.specs.declared.syntax.BinaryOp.{BinaryOp}
use Rattle.go_ast.specs.declared.syntax.BinaryOp.TheVariants as op
use Rattle.go_ast.specs.declared.syntax.PrefixOp.{PrefixOp}
use Rattle.go_ast.specs.declared.syntax.PrefixOp.TheVariants as sign
use Rattle.types_expr.specs.declared.types.Basic.{Basic}
use Rattle.types_expr.specs.declared.types.Basic.TheVariants as basic
use Rattle.types_expr.specs.declared.classes.ValueClass.{ValueClass}
use Rattle.types_expr.specs.declared.classes.ValueClass.TheVariants as class
use Rattle.types_expr.specs.declared.classes.Family.{Family}
use Rattle.types_expr.specs.declared.classes.Family.TheVariants as family
use Rattle.types_expr.specs.Types.{PlainType, Underlying, Plain, PointerTo, SliceOf, Struct, Interface}
use Rattle.types_expr.specs.Types.{ValueKind, Typed, Untyped, Nil, Meaning, Value, same_type, same_basic}
use Rattle.types_expr.specs.World.{World, underlying}
use Rattle.types_expr.specs.Operations.{fits, joined, is_nil, class_of, class_of_underlying, compares as compares_class, is_int, is_bool, is_ordered}
use Rattle.types_expr.specs.Operations.{family_of, when, result_of, operate, operate_on, pointee, prefixed}
use Rattle.law_typing.specs.Fits.{FitsType, nil_as_pointer, nil_as_slice, nil_as_interface}
use Rattle.law_typing.specs.Operators.{IsUntyped, a_constant, a_nil, HaveCommonKind, of_one_type}
use Rattle.law_typing.specs.Operators.{right_fits, left_fits, of_one_kind, IsArithmetic, minus, times}
use Rattle.law_typing.specs.Operators.{divided, remainder, IsOrderOperator, less, less_or_equal}
use Rattle.law_typing.specs.Operators.{greater, greater_or_equal, IsEquality, equal, not_equal, IsLogic}
use Rattle.law_typing.specs.Operators.{and, or, IsComparable, a_basic, a_pointer, Operates, adds, computes, orders, connects, compares, compares_with_nil}
use Rattle.law_typing.specs.Operators.{compares_nil_with, Prefixes, plus, negates, denies, follows}
use Rattle.law_typing.specs.Names.{IsNotBroken}
use Rattle.law_typing.proofs.IdenticalTypes.{types_same, same_types, basics_same, same_basics}
use Rattle.law_typing.proofs.Fitting.{fits_true, true_fits}
use Rattle.law_typing.proofs.Judgements.{value_whole}
use Rattle.law_typing.proofs.Classes.{class_true, class_is, pointer_comparable, is_of_int, is_of_bool, is_of_ordered, ordered_true}

-- the common kind of two operands

right_joined : (w : World) (t : PlainType) {k : ValueKind} → IsUntyped k → fits w k t ≡ true → joined w (Typed t) k ≡ Some (Typed t)
unfolding joined
right_joined w t a_constant h = ap (λ x. if x then Some (Typed t) else None) h
right_joined w t a_nil h = ap (λ x. if x then Some (Typed t) else None) h

left_joined : (w : World) (t : PlainType) {k : ValueKind} → IsUntyped k → fits w k t ≡ true → joined w k (Typed t) ≡ Some (Typed t)
unfolding joined
left_joined w t a_constant h = ap (λ x. if x then Some (Typed t) else None) h
left_joined w t a_nil h = ap (λ x. if x then Some (Typed t) else None) h

joined_kind : (w : World) {k : ValueKind} → IsUntyped k → joined w k k ≡ Some k
unfolding joined
joined_kind w (a_constant {b}) = ap (λ x. if x then Some (Untyped b) else None) (same_basics b)
joined_kind w a_nil = refl

pub joined_is : (w : World) {a b k : ValueKind} → HaveCommonKind w a b k → joined w a b ≡ Some k
unfolding joined
joined_is w (of_one_type {t}) = ap (λ x. if x then Some (Typed t) else None) (same_types t)
joined_is w (right_fits {t} u f) = right_joined w t u (fits_true w f)
joined_is w (left_fits {t} u f) = left_joined w t u (fits_true w f)
joined_is w (of_one_kind u) = joined_kind w u

if_some : {A : Type 0} (b : Bool) (v r : A) → (if b then Some v else None) ≡ Some r → (b ≡ true) × (v ≡ r)
if_some true v r h = (refl, cc)
if_some false v r h = cc

one_type : (w : World) (a b k : _) → (same_type a b ≡ true) × (Typed a ≡ k) → HaveCommonKind w (Typed a) (Typed b) k
one_type w a b k p = subst (λ z. HaveCommonKind w (Typed a) (Typed b) z) p.1
    (subst (λ z. HaveCommonKind w (Typed a) (Typed z) (Typed a)) (types_same a b p.0) of_one_type)

fits_right : (w : World) (a : PlainType) (v k : ValueKind) → IsUntyped v → (fits w v a ≡ true) × (Typed a ≡ k) → HaveCommonKind w (Typed a) v k
fits_right w a v k u p = subst (λ z. HaveCommonKind w (Typed a) v z) p.1 (right_fits u (true_fits w v a p.0))

fits_left : (w : World) (a : PlainType) (v k : ValueKind) → IsUntyped v → (fits w v a ≡ true) × (Typed a ≡ k) → HaveCommonKind w v (Typed a) k
fits_left w a v k u p = subst (λ z. HaveCommonKind w v (Typed a) z) p.1 (left_fits u (true_fits w v a p.0))

one_kind : (w : World) (a b : Basic) (k : ValueKind) → (same_basic a b ≡ true) × (Untyped a ≡ k) → HaveCommonKind w (Untyped a) (Untyped b) k
one_kind w a b k p = subst (λ z. HaveCommonKind w (Untyped a) (Untyped b) z) p.1
    (subst (λ z. HaveCommonKind w (Untyped a) (Untyped z) (Untyped a)) (basics_same a b p.0) (of_one_kind a_constant))

pub go_together : (w : World) (a b k : ValueKind) → joined w a b ≡ Some k → HaveCommonKind w a b k
unfolding joined
go_together w (Typed a) (Typed b) k h = one_type w a b k (if_some (same_type a b) (Typed a) k h)
go_together w (Typed a) (Untyped b) k h = fits_right w a (Untyped b) k a_constant (if_some (fits w (Untyped b) a) (Typed a) k h)
go_together w (Typed a) Nil k h = fits_right w a Nil k a_nil (if_some (fits w Nil a) (Typed a) k h)
go_together w (Untyped b) (Typed a) k h = fits_left w a (Untyped b) k a_constant (if_some (fits w (Untyped b) a) (Typed a) k h)
go_together w Nil (Typed a) k h = fits_left w a Nil k a_nil (if_some (fits w Nil a) (Typed a) k h)
go_together w (Untyped a) (Untyped b) k h = one_kind w a b k (if_some (same_basic a b) (Untyped a) k h)
go_together w Nil Nil k h = let e : Nil ≡ k = cc in subst (λ z. HaveCommonKind w Nil Nil z) e (of_one_kind a_nil)
go_together w (Untyped b) Nil k h = cc
go_together w Nil (Untyped b) k h = cc

-- the result of an operation on a common kind

arithmetic_family : {o : BinaryOp} → IsArithmetic o → family_of o ≡ family.Arithmetic
unfolding family_of
arithmetic_family minus = refl
arithmetic_family times = refl
arithmetic_family divided = refl
arithmetic_family remainder = refl

order_family : {o : BinaryOp} → IsOrderOperator o → family_of o ≡ family.Order
unfolding family_of
order_family less = refl
order_family less_or_equal = refl
order_family greater = refl
order_family greater_or_equal = refl

equality_family : {o : BinaryOp} → IsEquality o → family_of o ≡ family.Equality
unfolding family_of
equality_family equal = refl
equality_family not_equal = refl

logic_family : {o : BinaryOp} → IsLogic o → family_of o ≡ family.Logic
unfolding family_of
logic_family and = refl
logic_family or = refl

operated : (w : World) (o : BinaryOp) (f : Family) {a b k : ValueKind} → family_of o ≡ f → HaveCommonKind w a b k →
    operate w o a b ≡ result_of f (is_nil a || is_nil b) (class_of w k) k
unfolding operate
operated w o f {a} {b} {k} e g = ap (λ x. operate_on w x (is_nil a || is_nil b) (joined w a b)) e ∙ ap (operate_on w f (is_nil a || is_nil b)) (joined_is w g)

holds : {A : Type 0} {b : Bool} (v : A) → b ≡ true → when b v ≡ Some v
holds v h = ap (λ x. when x v) h

comparable_class : (w : World) (n : Bool) {k : ValueKind} → IsComparable w k → compares_class n (class_of w k) ≡ true
unfolding class_of
comparable_class w n (a_basic i) = ap (compares_class n) (class_true w i)
comparable_class w n (a_pointer e) = ap (λ u. compares_class n (class_of_underlying u)) e

nil_class : (w : World) (t : PlainType) → FitsType w Nil t → compares_class true (class_of w (Typed t)) ≡ true
unfolding class_of
nil_class w t (nil_as_pointer e) = ap (λ u. compares_class true (class_of_underlying u)) e
nil_class w t (nil_as_slice e) = ap (λ u. compares_class true (class_of_underlying u)) e
nil_class w t (nil_as_interface e) = ap (λ u. compares_class true (class_of_underlying u)) e

pub operates_true : (w : World) {o : BinaryOp} {a b k : ValueKind} → Operates w o a b k → operate w o a b ≡ Some k
unfolding family_of result_of is_nil
operates_true w (adds {k = k} g i) = operated w op.Add family.Addition refl g ∙ holds k (ordered_true w k i)
operates_true w (computes {o} {k = k} q g i) = operated w o family.Arithmetic (arithmetic_family q) g ∙ holds k (ap is_int (class_true w i))
operates_true w (orders {o} {k = k} q g i) = operated w o family.Order (order_family q) g ∙ holds (Untyped basic.Bool) (ordered_true w k i)
operates_true w (connects {o} {k = k} q g i) = operated w o family.Logic (logic_family q) g ∙ holds k (ap is_bool (class_true w i))
operates_true w (compares {o} {a} {b} q g c) = operated w o family.Equality (equality_family q) g ∙
    holds (Untyped basic.Bool) (comparable_class w (is_nil a || is_nil b) c)
operates_true w (compares_with_nil {o} {t} q f) = operated w o family.Equality (equality_family q) (right_fits a_nil f) ∙
    holds (Untyped basic.Bool) (nil_class w t f)
operates_true w (compares_nil_with {o} {t} q f) = operated w o family.Equality (equality_family q) (left_fits a_nil f) ∙
    holds (Untyped basic.Bool) (nil_class w t f)

-- from the judgement to the rules

some_when : {A : Type 0} (b : Bool) (v r : A) → when b v ≡ Some r → (b ≡ true) × (v ≡ r)
some_when b v r h = if_some b v r h

arithmetic : (w : World) (o : BinaryOp) (a b k r : ValueKind) → IsArithmetic o → HaveCommonKind w a b k → when (is_int (class_of w k)) k ≡ Some r →
    Operates w o a b r
arithmetic w o a b k r q g h = let p : (is_int (class_of w k) ≡ true) × (k ≡ r) = some_when (is_int (class_of w k)) k r h in
    subst (λ z. Operates w o a b z) p.1 (computes q g (is_of_int w k p.0))

addition : (w : World) (a b k r : ValueKind) → HaveCommonKind w a b k → when (is_ordered (class_of w k)) k ≡ Some r → Operates w op.Add a b r
addition w a b k r g h = let p : (is_ordered (class_of w k) ≡ true) × (k ≡ r) = some_when (is_ordered (class_of w k)) k r h in
    subst (λ z. Operates w op.Add a b z) p.1 (adds g (is_of_ordered w k p.0))

order : (w : World) (o : BinaryOp) (a b k r : ValueKind) → IsOrderOperator o → HaveCommonKind w a b k →
    when (is_ordered (class_of w k)) (Untyped basic.Bool) ≡ Some r →
    Operates w o a b r
order w o a b k r q g h = let p : (is_ordered (class_of w k) ≡ true) × (Untyped basic.Bool ≡ r) =
    some_when (is_ordered (class_of w k)) (Untyped basic.Bool) r h in
    subst (λ z. Operates w o a b z) p.1 (orders q g (is_of_ordered w k p.0))

logic : (w : World) (o : BinaryOp) (a b k r : ValueKind) → IsLogic o → HaveCommonKind w a b k → when (is_bool (class_of w k)) k ≡ Some r → Operates w o a b r
logic w o a b k r q g h = let p : (is_bool (class_of w k) ≡ true) × (k ≡ r) = some_when (is_bool (class_of w k)) k r h in
    subst (λ z. Operates w o a b z) p.1 (connects q g (is_of_bool w k p.0))

with_nil : (w : World) (o : BinaryOp) {a b k : ValueKind} → IsEquality o → HaveCommonKind w a b k → (is_nil a || is_nil b) ≡ true →
    (class_of w k ≡ class.Nil → ⊥) →
    Operates w o a b (Untyped basic.Bool)
unfolding is_nil class_of
with_nil w o q (right_fits a_nil f) h c = compares_with_nil q f
with_nil w o q (left_fits a_nil f) h c = compares_nil_with q f
with_nil w o q of_one_type h c = absurd (true≢false (sym h))
with_nil w o q (right_fits a_constant f) h c = absurd (true≢false (sym h))
with_nil w o q (left_fits a_constant f) h c = absurd (true≢false (sym h))
with_nil w o q (of_one_kind a_constant) h c = absurd (true≢false (sym h))
with_nil w o q (of_one_kind a_nil) h c = absurd (c refl)

comparison : (w : World) (o : BinaryOp) (a b k : ValueKind) (c : ValueClass) → IsEquality o → HaveCommonKind w a b k → class_of w k ≡ c →
    compares_class (is_nil a || is_nil b) c ≡ true → Operates w o a b (Untyped basic.Bool)
comparison w o a b k (class.Of x) q g e h = compares q g (a_basic (class_is w k x e))
comparison w o a b k class.Pointer q g e h = compares q g (pointer_comparable w k e)
comparison w o a b k class.Slice q g e h = with_nil w o q g h (λ n. let same : class.Slice ≡ class.Nil = sym e ∙ n in cc)
comparison w o a b k class.Interface q g e h = with_nil w o q g h (λ n. let same : class.Interface ≡ class.Nil = sym e ∙ n in cc)
comparison w o a b k class.Struct q g e h = absurd (true≢false (sym h))
comparison w o a b k class.Nil q g e h = absurd (true≢false (sym h))

equality : (w : World) (o : BinaryOp) (a b k r : ValueKind) → IsEquality o → HaveCommonKind w a b k →
    when (compares_class (is_nil a || is_nil b) (class_of w k)) (Untyped basic.Bool) ≡ Some r → Operates w o a b r
equality w o a b k r q g h = let p : (compares_class (is_nil a || is_nil b) (class_of w k) ≡ true) × (Untyped basic.Bool ≡ r) =
    some_when (compares_class (is_nil a || is_nil b) (class_of w k)) (Untyped basic.Bool) r h in
    subst (λ z. Operates w o a b z) p.1 (comparison w o a b k (class_of w k) q g refl p.0)

by_operator : (w : World) (o : BinaryOp) (a b k r : ValueKind) → HaveCommonKind w a b k → result_of (family_of o) (is_nil a || is_nil b) (class_of w k) k ≡
    Some r →
    Operates w o a b r
unfolding family_of result_of
by_operator w op.Multiply a b k r g h = arithmetic w op.Multiply a b k r times g h
by_operator w op.Divide a b k r g h = arithmetic w op.Divide a b k r divided g h
by_operator w op.Remainder a b k r g h = arithmetic w op.Remainder a b k r remainder g h
by_operator w op.Add a b k r g h = addition w a b k r g h
by_operator w op.Subtract a b k r g h = arithmetic w op.Subtract a b k r minus g h
by_operator w op.Equal a b k r g h = equality w op.Equal a b k r equal g h
by_operator w op.NotEqual a b k r g h = equality w op.NotEqual a b k r not_equal g h
by_operator w op.Less a b k r g h = order w op.Less a b k r less g h
by_operator w op.LessEqual a b k r g h = order w op.LessEqual a b k r less_or_equal g h
by_operator w op.Greater a b k r g h = order w op.Greater a b k r greater g h
by_operator w op.GreaterEqual a b k r g h = order w op.GreaterEqual a b k r greater_or_equal g h
by_operator w op.And a b k r g h = logic w op.And a b k r and g h
by_operator w op.Or a b k r g h = logic w op.Or a b k r or g h

by_common : (w : World) (o : BinaryOp) (a b r : ValueKind) (j : Option ValueKind) → joined w a b ≡ j → operate_on w (family_of o) (is_nil a || is_nil b) j ≡
    Some r →
    Operates w o a b r
by_common w o a b r None e h = cc
by_common w o a b r (Some k) e h = by_operator w o a b k r (go_together w a b k e) h

pub true_operates : (w : World) (o : BinaryOp) (a b r : ValueKind) → operate w o a b ≡ Some r → Operates w o a b r
unfolding operate
true_operates w o a b r h = by_common w o a b r (joined w a b) refl h

-- prefix operators

pub prefixes_true : (w : World) {o : PrefixOp} {k : ValueKind} {m : Meaning} → Prefixes w o k m → prefixed w o k ≡ Some m
unfolding prefixed
prefixes_true w (plus {k} i) = holds (Value k false) (ap is_int (class_true w i))
prefixes_true w (negates {k} i) = holds (Value k false) (ap is_int (class_true w i))
prefixes_true w (denies {k} i) = holds (Value k false) (ap is_bool (class_true w i))
prefixes_true w (follows e) = ap pointee e

pointed : (w : World) (t : PlainType) (u : Underlying) (m : Meaning) → underlying w t ≡ u → pointee u ≡ Some m → Prefixes w sign.Deref (Typed t) m
pointed w t (PointerTo x) m e h = let q : Value (Typed x) true ≡ m = cc in subst (λ z. Prefixes w sign.Deref (Typed t) z) q (follows e)
pointed w t (Plain b) m e h = cc
pointed w t (SliceOf x) m e h = cc
pointed w t (Struct s) m e h = cc
pointed w t (Interface s) m e h = cc

pub true_prefixes : (w : World) (o : PrefixOp) (k : ValueKind) (m : Meaning) → prefixed w o k ≡ Some m → Prefixes w o k m
unfolding prefixed
true_prefixes w sign.Plus k m h = let p : (is_int (class_of w k) ≡ true) × (Value k false ≡ m) = if_some (is_int (class_of w k)) (Value k false) m h in
    subst (λ z. Prefixes w sign.Plus k z) p.1 (plus (is_of_int w k p.0))
true_prefixes w sign.Minus k m h = let p : (is_int (class_of w k) ≡ true) × (Value k false ≡ m) = if_some (is_int (class_of w k)) (Value k false) m h in
    subst (λ z. Prefixes w sign.Minus k z) p.1 (negates (is_of_int w k p.0))
true_prefixes w sign.Not k m h = let p : (is_bool (class_of w k) ≡ true) × (Value k false ≡ m) = if_some (is_bool (class_of w k)) (Value k false) m h in
    subst (λ z. Prefixes w sign.Not k z) p.1 (denies (is_of_bool w k p.0))
true_prefixes w sign.Deref (Typed t) m h = pointed w t (underlying w t) m refl h
true_prefixes w sign.Deref (Untyped b) m h = cc
true_prefixes w sign.Deref Nil m h = cc

pub prefix_whole : {w : World} {o : PrefixOp} {k : ValueKind} {m : Meaning} → Prefixes w o k m → IsNotBroken m
prefix_whole (plus i) = value_whole
prefix_whole (negates i) = value_whole
prefix_whole (denies i) = value_whole
prefix_whole (follows e) = value_whole
