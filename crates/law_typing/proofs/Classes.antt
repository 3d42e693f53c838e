-- The class of a value determines its basic type or kind.
use Rattle.std.proofs.Common.{◌≡◌, true, ◌⊎◌, inl, inr, refl, sym, ap, subst, true≢false}
use Rattle.types_expr.specs.declared.types.Basic.{Basic}
use Rattle.types_expr.specs.declared.types.Basic.TheVariants as basic
use Rattle.types_expr.specs.declared.classes.ValueClass.{ValueClass}
use Rattle.types_expr.specs.declared.classes.ValueClass.TheVariants as class
use Rattle.types_expr.specs.Types.{PlainType, Underlying, Plain, PointerTo, SliceOf, Struct, Interface, ValueKind, Typed, Untyped, Nil}
use Rattle.types_expr.specs.World.{World, underlying}
use Rattle.types_expr.specs.Operations.{class_of, class_of_underlying, is_int, is_bool, is_ordered}
use Rattle.law_typing.specs.Operators.{IsBasic, by_type, by_kind, IsComparable, a_pointer}

pub class_true : (w : World) {k : ValueKind} {b : Basic} → IsBasic w k b → class_of w k ≡ class.Of b
unfolding class_of
class_true w (by_type e) = ap class_of_underlying e
class_true w by_kind = refl

plain_class : (u : Underlying) (b : Basic) → class_of_underlying u ≡ class.Of b → u ≡ Plain b
plain_class (Plain c) b h = cc
plain_class (PointerTo t) b h = cc
plain_class (SliceOf t) b h = cc
plain_class (Struct s) b h = cc
plain_class (Interface s) b h = cc

pointer_class : (u : Underlying) → class_of_underlying u ≡ class.Pointer → (t : PlainType) × (u ≡ PointerTo t)
pointer_class (PointerTo t) h = (t, refl)
pointer_class (Plain c) h = cc
pointer_class (SliceOf t) h = cc
pointer_class (Struct s) h = cc
pointer_class (Interface s) h = cc

pub slice_class : (u : Underlying) → class_of_underlying u ≡ class.Slice → (t : PlainType) × (u ≡ SliceOf t)
slice_class (SliceOf t) h = (t, refl)
slice_class (PointerTo t) h = cc
slice_class (Plain c) h = cc
slice_class (Struct s) h = cc
slice_class (Interface s) h = cc

same_kind : (a b : Basic) → class.Of a ≡ class.Of b → a ≡ b
same_kind a b h = cc

pub class_is : (w : World) (k : ValueKind) (b : Basic) → class_of w k ≡ class.Of b → IsBasic w k b
unfolding class_of
class_is w (Typed t) b h = by_type (plain_class (underlying w t) b h)
class_is w (Untyped a) b h = subst (λ z. IsBasic w (Untyped a) z) (same_kind a b h) by_kind
class_is w Nil b h = cc

pub pointer_comparable : (w : World) (k : ValueKind) → class_of w k ≡ class.Pointer → IsComparable w k
unfolding class_of
pointer_comparable w (Typed t) h = a_pointer (pointer_class (underlying w t) h).1
pointer_comparable w (Untyped a) h = cc
pointer_comparable w Nil h = cc

pub int_class : (c : ValueClass) → is_int c ≡ true → c ≡ class.Of basic.Int
int_class (class.Of basic.Int) h = refl
int_class c h = absurd (true≢false (sym h))

pub bool_class : (c : ValueClass) → is_bool c ≡ true → c ≡ class.Of basic.Bool
bool_class (class.Of basic.Bool) h = refl
bool_class c h = absurd (true≢false (sym h))

pub ordered_class : (c : ValueClass) → is_ordered c ≡ true → (c ≡ class.Of basic.Int) ⊎ (c ≡ class.Of basic.String)
ordered_class (class.Of basic.Int) h = inl refl
ordered_class (class.Of basic.String) h = inr refl
ordered_class c h = absurd (true≢false (sym h))

pub is_of_int : (w : World) (k : ValueKind) → is_int (class_of w k) ≡ true → IsBasic w k basic.Int
is_of_int w k h = class_is w k basic.Int (int_class (class_of w k) h)

pub is_of_bool : (w : World) (k : ValueKind) → is_bool (class_of w k) ≡ true → IsBasic w k basic.Bool
is_of_bool w k h = class_is w k basic.Bool (bool_class (class_of w k) h)

pub is_of_ordered : (w : World) (k : ValueKind) → is_ordered (class_of w k) ≡ true → IsBasic w k basic.Int ⊎ IsBasic w k basic.String
is_of_ordered w k h = elim (ordered_class (class_of w k) h) [ inl e ↦ inl (class_is w k basic.Int e) | inr e ↦ inr (class_is w k basic.String e) ]

pub ordered_true : (w : World) (k : ValueKind) → IsBasic w k basic.Int ⊎ IsBasic w k basic.String → is_ordered (class_of w k) ≡ true
ordered_true w k (inl i) = ap is_ordered (class_true w i)
ordered_true w k (inr i) = ap is_ordered (class_true w i)
