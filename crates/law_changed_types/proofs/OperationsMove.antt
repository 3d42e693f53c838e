-- The rules of the operations give moved kinds and meanings for moved kinds.
use Rattle.std.proofs.Common.{◌≡◌, Bool, ◌&&◌, ◌||◌, false, Option, Some, None, option_map, refl, ap, ◌∙◌}
use Rattle.go_ast.specs.declared.syntax.BinaryOp.{BinaryOp}
use Rattle.go_ast.specs.declared.syntax.PrefixOp.{PrefixOp}
use Rattle.go_ast.specs.declared.syntax.PrefixOp.TheVariants as prefix
use Rattle.types_expr.specs.declared.types.Basic.TheVariants as basic
use Rattle.types_expr.specs.declared.classes.ValueClass.{ValueClass}
use Rattle.types_expr.specs.declared.classes.Family.{Family}
use Rattle.types_expr.specs.declared.classes.Family.TheVariants as family
use Rattle.types_expr.specs.Types.{PlainType, Underlying, Plain, PointerTo, SliceOf, Struct, Interface}
use Rattle.types_expr.specs.Types.{ValueKind, Typed, Untyped, Nil, Value, same_basic, same_type}
use Rattle.types_expr.specs.Types.{same_underlying, has_nil, element_of, either_unnamed, BasicType}
use Rattle.types_expr.specs.World.{underlying}
use Rattle.types_expr.specs.Operations.{enters, fits, converts, joined, is_nil, class_of, class_of_underlying, compares, is_int, is_bool, is_ordered, family_of}
use Rattle.types_expr.specs.Operations.{result_of, operate_on, operate, element_of_kind, pointee, pointee_of_kind, prefixed}
use Rattle.law_changed_types.specs.Moved.{moved_type, moved_underlying, moved_kind, moved_meaning}
use Rattle.law_changed_types.proofs.Moving.{Move, ap2, if_moves}
use Rattle.law_changed_types.proofs.TypesMove.{same_types, same_underlyings, underlying_moves, same_named, same_nil, same_class, element_moves}

same_under : (m : Move) (a b : PlainType) → same_underlying (underlying m.new (moved_type m.path a)) (underlying m.new (moved_type m.path b)) ≡
    same_underlying (underlying m.old a) (underlying m.old b)
same_under m a b = ap2 same_underlying (underlying_moves m a) (underlying_moves m b) ∙ same_underlyings m (underlying m.old a) (underlying m.old b)

same_enters : (m : Move) (v : PlainType) (u : Underlying) → enters m.new (moved_type m.path v) (moved_underlying m.path u) ≡ enters m.old v u
same_enters m v (Plain b) = refl
same_enters m v (PointerTo t) = refl
same_enters m v (SliceOf t) = refl
same_enters m v (Struct s) = refl
same_enters m v (Interface s) = m.implements v s

pub entering_stays : (m : Move) (v t : PlainType) →
    enters m.new (moved_type m.path v) (underlying m.new (moved_type m.path t)) ≡ enters m.old v (underlying m.old t)
entering_stays m v t = ap (enters m.new (moved_type m.path v)) (underlying_moves m t) ∙ same_enters m v (underlying m.old t)

pub same_fits : (m : Move) (k : ValueKind) (t : PlainType) → fits m.new (moved_kind m.path k) (moved_type m.path t) ≡ fits m.old k t
unfolding fits
same_fits m (Typed v) t =
    ap2 (λ x y. x || y)
    (ap2 (λ x y. x || y) (same_types m v t) (ap2 (λ x y. x && y) (ap2 either_unnamed (same_named m v) (same_named m t)) (same_under m v t)))
    (entering_stays m v t)
same_fits m (Untyped b) t =
    ap2 (λ x y. x || y) (ap (same_underlying (Plain b)) (underlying_moves m t) ∙ same_underlyings m (Plain b) (underlying m.old t))
    (entering_stays m (BasicType b) t)
same_fits m Nil t = ap has_nil (underlying_moves m t) ∙ same_nil m (underlying m.old t)

pub same_converts : (m : Move) (k : ValueKind) (t : PlainType) → converts m.new (moved_kind m.path k) (moved_type m.path t) ≡ converts m.old k t
same_converts m (Typed v) t = ap2 (λ x y. x || y) (same_fits m (Typed v) t) (same_under m v t)
same_converts m (Untyped b) t = same_fits m (Untyped b) t
same_converts m Nil t = same_fits m Nil t

joined_moves : (m : Move) (a b : ValueKind) → joined m.new (moved_kind m.path a) (moved_kind m.path b) ≡ option_map (moved_kind m.path) (joined m.old a b)
unfolding joined
joined_moves m (Typed a) (Typed b) = if_moves (option_map (moved_kind m.path)) (same_type a b) _ (Some (Typed a)) None (same_types m a b)
joined_moves m (Typed a) (Untyped b) = if_moves (option_map (moved_kind m.path)) (fits m.old (Untyped b) a) _ (Some (Typed a)) None (same_fits m (Untyped b) a)
joined_moves m (Typed a) Nil = if_moves (option_map (moved_kind m.path)) (fits m.old Nil a) _ (Some (Typed a)) None (same_fits m Nil a)
joined_moves m (Untyped a) (Typed b) = if_moves (option_map (moved_kind m.path)) (fits m.old (Untyped a) b) _ (Some (Typed b)) None (same_fits m (Untyped a) b)
joined_moves m Nil (Typed b) = if_moves (option_map (moved_kind m.path)) (fits m.old Nil b) _ (Some (Typed b)) None (same_fits m Nil b)
joined_moves m (Untyped a) (Untyped b) = if_moves (option_map (moved_kind m.path)) (same_basic a b) (same_basic a b) (Some (Untyped a)) None refl
joined_moves m (Untyped a) Nil = refl
joined_moves m Nil (Untyped b) = refl
joined_moves m Nil Nil = refl

nil_stays : (m : Move) (k : ValueKind) → is_nil (moved_kind m.path k) ≡ is_nil k
unfolding is_nil
nil_stays m (Typed t) = refl
nil_stays m (Untyped b) = refl
nil_stays m Nil = refl

pub class_stays : (m : Move) (k : ValueKind) → class_of m.new (moved_kind m.path k) ≡ class_of m.old k
unfolding class_of
class_stays m (Typed t) = ap class_of_underlying (underlying_moves m t) ∙ same_class m (underlying m.old t)
class_stays m (Untyped b) = refl
class_stays m Nil = refl

result_moves : (m : Move) (f : Family) (n : Bool) (c : ValueClass) (k : ValueKind) →
    result_of f n c (moved_kind m.path k) ≡ option_map (moved_kind m.path) (result_of f n c k)
unfolding result_of
result_moves m family.Arithmetic n c k = if_moves (option_map (moved_kind m.path)) (is_int c) (is_int c) (Some k) None refl
result_moves m family.Addition n c k = if_moves (option_map (moved_kind m.path)) (is_ordered c) (is_ordered c) (Some k) None refl
result_moves m family.Equality n c k =
    if_moves (option_map (moved_kind m.path)) (compares n c) (compares n c) (Some (Untyped basic.Bool)) None refl
result_moves m family.Order n c k = if_moves (option_map (moved_kind m.path)) (is_ordered c) (is_ordered c) (Some (Untyped basic.Bool)) None refl
result_moves m family.Logic n c k = if_moves (option_map (moved_kind m.path)) (is_bool c) (is_bool c) (Some k) None refl

operate_on_moves : (m : Move) (f : Family) (n : Bool) (k : Option ValueKind) →
    operate_on m.new f n (option_map (moved_kind m.path) k) ≡ option_map (moved_kind m.path) (operate_on m.old f n k)
operate_on_moves m f n None = refl
operate_on_moves m f n (Some k) = ap (λ z. result_of f n z (moved_kind m.path k)) (class_stays m k) ∙ result_moves m f n (class_of m.old k) k

pub operate_moves : (m : Move) (o : BinaryOp) (a b : ValueKind) →
    operate m.new o (moved_kind m.path a) (moved_kind m.path b) ≡ option_map (moved_kind m.path) (operate m.old o a b)
unfolding operate
operate_moves m o a b =
    ap2 (operate_on m.new (family_of o)) (ap2 (λ x y. x || y) (nil_stays m a) (nil_stays m b)) (joined_moves m a b)
    ∙ operate_on_moves m (family_of o) (is_nil a || is_nil b) (joined m.old a b)

pub element_of_kind_moves : (m : Move) (k : ValueKind) →
    element_of_kind m.new (moved_kind m.path k) ≡ option_map (moved_type m.path) (element_of_kind m.old k)
element_of_kind_moves m (Typed t) = ap element_of (underlying_moves m t) ∙ element_moves m (underlying m.old t)
element_of_kind_moves m (Untyped b) = refl
element_of_kind_moves m Nil = refl

pointee_moves : (m : Move) (u : Underlying) → pointee (moved_underlying m.path u) ≡ option_map (moved_meaning m.path) (pointee u)
pointee_moves m (Plain b) = refl
pointee_moves m (PointerTo t) = refl
pointee_moves m (SliceOf t) = refl
pointee_moves m (Struct s) = refl
pointee_moves m (Interface s) = refl

pointee_of_kind_moves : (m : Move) (k : ValueKind) →
    pointee_of_kind m.new (moved_kind m.path k) ≡ option_map (moved_meaning m.path) (pointee_of_kind m.old k)
pointee_of_kind_moves m (Typed t) = ap pointee (underlying_moves m t) ∙ pointee_moves m (underlying m.old t)
pointee_of_kind_moves m (Untyped b) = refl
pointee_of_kind_moves m Nil = refl

pub prefixed_moves : (m : Move) (o : PrefixOp) (k : ValueKind) →
    prefixed m.new o (moved_kind m.path k) ≡ option_map (moved_meaning m.path) (prefixed m.old o k)
unfolding prefixed
prefixed_moves m prefix.Plus k =
    if_moves (option_map (moved_meaning m.path)) (is_int (class_of m.old k)) _ (Some (Value k false)) None (ap is_int (class_stays m k))
prefixed_moves m prefix.Minus k =
    if_moves (option_map (moved_meaning m.path)) (is_int (class_of m.old k)) _ (Some (Value k false)) None (ap is_int (class_stays m k))
prefixed_moves m prefix.Not k =
    if_moves (option_map (moved_meaning m.path)) (is_bool (class_of m.old k)) _ (Some (Value k false)) None (ap is_bool (class_stays m k))
prefixed_moves m prefix.Deref k = pointee_of_kind_moves m k
