-- The rules of the operations: which values fit a type, which operands go together, and the kind of the result.
use Rattle.std.specs.Prelude.{Bool, true, false, ◌&&◌, ◌||◌, if◌then◌else◌, Option, Some, None}
use Rattle.go_ast.specs.declared.syntax.BinaryOp.{BinaryOp}
use Rattle.go_ast.specs.declared.syntax.BinaryOp.TheVariants as op
use Rattle.go_ast.specs.declared.syntax.PrefixOp.{PrefixOp}
use Rattle.go_ast.specs.declared.syntax.PrefixOp.TheVariants as prefix
use Rattle.types_expr.specs.declared.types.Basic.TheVariants as basic
use Rattle.types_expr.specs.declared.classes.ValueClass.{ValueClass}
use Rattle.types_expr.specs.declared.classes.ValueClass.TheVariants as class
use Rattle.types_expr.specs.declared.classes.Family.{Family}
use Rattle.types_expr.specs.declared.classes.Family.TheVariants as family
use Rattle.types_expr.specs.Types.{PlainType, BasicType, Underlying, Plain, PointerTo, SliceOf, Struct, Interface, ValueKind, Typed, Untyped, Nil}
use Rattle.types_expr.specs.Types.{Meaning, Value, same_basic, same_type, same_underlying, is_named, either_unnamed, has_nil, element_of}
use Rattle.types_expr.specs.World.{World, underlying}

-- whether a value of type v is one of type t: the types are identical, or one of the two is not named and the underlying types are identical
abbrev pub is_value_of : World → (v t : PlainType) → Bool
is_value_of w v t = same_type v t || (either_unnamed (is_named v) (is_named t) && same_underlying (underlying w v) (underlying w t))

-- whether values of type v enter the types with this underlying type: it is an interface that v implements
abbrev pub enters : World → PlainType → Underlying → Bool
enters w v (Interface s) = w.implements v s
enters w v u = false

-- Whether a value fits a type (Go specification, "Assignability"). It is of that type, or the type is an interface that its own type
-- implements. An untyped constant fits its own basic type, and the interfaces that this type implements. Nil fits pointers, slices and
-- interfaces.
unfoldable pub fits : World → ValueKind → PlainType → Bool
fits w (Typed v) t = is_value_of w v t || enters w v (underlying w t)
fits w (Untyped b) t = same_underlying (Plain b) (underlying w t) || enters w (BasicType b) (underlying w t)
fits w Nil t = has_nil (underlying w t)

-- whether a value converts to a type (Go specification, "Conversions"): it fits, or the underlying types are identical
abbrev pub converts : World → ValueKind → PlainType → Bool
converts w (Typed v) t = fits w (Typed v) t || same_underlying (underlying w v) (underlying w t)
converts w v t = fits w v t

-- the common kind of two operands of a binary operation, none where they do not go together
unfoldable pub joined : World → ValueKind → ValueKind → Option ValueKind
joined w (Typed a) (Typed b) = if same_type a b then Some (Typed a) else None
joined w (Typed a) v = if fits w v a then Some (Typed a) else None
joined w v (Typed b) = if fits w v b then Some (Typed b) else None
joined w (Untyped a) (Untyped b) = if same_basic a b then Some (Untyped a) else None
joined w Nil Nil = Some Nil
joined w a b = None

unfoldable pub is_nil : ValueKind → Bool
is_nil Nil = true
is_nil v = false

-- the class of the values of an underlying type
abbrev pub class_of_underlying : Underlying → ValueClass
class_of_underlying (Plain b) = class.Of b
class_of_underlying (PointerTo t) = class.Pointer
class_of_underlying (SliceOf t) = class.Slice
class_of_underlying (Struct s) = class.Struct
class_of_underlying (Interface s) = class.Interface

-- the class of the values of a kind
unfoldable pub class_of : World → ValueKind → ValueClass
class_of w (Typed t) = class_of_underlying (underlying w t)
class_of w (Untyped b) = class.Of b
class_of w Nil = class.Nil

-- whether `==` and `!=` compare values of the class; with_nil: one of the two operands is nil
abbrev pub compares : Bool → ValueClass → Bool
compares with_nil (class.Of b) = true
compares with_nil class.Pointer = true
compares with_nil class.Slice = with_nil
compares with_nil class.Interface = with_nil
compares with_nil c = false

abbrev pub is_int : ValueClass → Bool
is_int (class.Of basic.Int) = true
is_int c = false

abbrev pub is_bool : ValueClass → Bool
is_bool (class.Of basic.Bool) = true
is_bool c = false

-- whether `<`, `<=`, `>`, `>=` and `+` take values of the class: ints and strings
abbrev pub is_ordered : ValueClass → Bool
is_ordered (class.Of basic.Int) = true
is_ordered (class.Of basic.String) = true
is_ordered c = false

-- whether `len` takes values of the class: strings and slices
abbrev pub has_length : ValueClass → Bool
has_length (class.Of basic.String) = true
has_length class.Slice = true
has_length c = false

-- whether `print` and `println` take values of the class: bools, ints and strings
abbrev pub is_printed : ValueClass → Bool
is_printed (class.Of b) = true
is_printed c = false

-- the family of a binary operator: those that share a rule
unfoldable pub family_of : BinaryOp → Family
family_of op.Multiply = family.Arithmetic
family_of op.Divide = family.Arithmetic
family_of op.Remainder = family.Arithmetic
family_of op.Add = family.Addition
family_of op.Subtract = family.Arithmetic
family_of op.Equal = family.Equality
family_of op.NotEqual = family.Equality
family_of op.Less = family.Order
family_of op.LessEqual = family.Order
family_of op.Greater = family.Order
family_of op.GreaterEqual = family.Order
family_of op.And = family.Logic
family_of op.Or = family.Logic

abbrev pub when : {A : Type 0} → Bool → A → Option A
when test a = if test then Some a else None

-- the kind of an operation on operands of class c and common kind k, none where the class has no such operation
unfoldable pub result_of : Family → Bool → ValueClass → ValueKind → Option ValueKind
result_of family.Arithmetic with_nil c k = when (is_int c) k
result_of family.Addition with_nil c k = when (is_ordered c) k
result_of family.Equality with_nil c k = when (compares with_nil c) (Untyped basic.Bool)
result_of family.Order with_nil c k = when (is_ordered c) (Untyped basic.Bool)
result_of family.Logic with_nil c k = when (is_bool c) k

-- the kind of an operation of this family on operands of the given common kind, none where they have none
abbrev pub operate_on : World → Family → Bool → Option ValueKind → Option ValueKind
operate_on w f with_nil None = None
operate_on w f with_nil (Some k) = result_of f with_nil (class_of w k) k

-- the kind of a binary operation, none where it breaks a rule
unfoldable pub operate : World → BinaryOp → ValueKind → ValueKind → Option ValueKind
operate w o a b = operate_on w (family_of o) (is_nil a || is_nil b) (joined w a b)

-- the element type of a slice value, none for any other value
abbrev pub element_of_kind : World → ValueKind → Option PlainType
element_of_kind w (Typed t) = element_of (underlying w t)
element_of_kind w k = None

-- the variable that a pointer of this underlying type points to
abbrev pub pointee : Underlying → Option Meaning
pointee (PointerTo t) = Some (Value (Typed t) true)
pointee u = None

-- the variable that a value points to, none where it is no pointer
abbrev pub pointee_of_kind : World → ValueKind → Option Meaning
pointee_of_kind w (Typed t) = pointee (underlying w t)
pointee_of_kind w k = None

abbrev pub value_when : Bool → ValueKind → Option Meaning
value_when test k = if test then Some (Value k false) else None

-- the meaning of a prefix operator on a value of kind k, none where it breaks a rule
unfoldable pub prefixed : World → PrefixOp → ValueKind → Option Meaning
prefixed w prefix.Plus k = value_when (is_int (class_of w k)) k
prefixed w prefix.Minus k = value_when (is_int (class_of w k)) k
prefixed w prefix.Not k = value_when (is_bool (class_of w k)) k
prefixed w prefix.Deref k = pointee_of_kind w k
