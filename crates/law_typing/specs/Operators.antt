-- The rules of operators: which operands each takes, and the kind or meaning of the result.
use Rattle.std.specs.Prelude.{◌≡◌, ◌⊎◌, false, true}
use Rattle.go_ast.specs.declared.syntax.BinaryOp.{BinaryOp}
use Rattle.go_ast.specs.declared.syntax.BinaryOp.TheVariants as op
use Rattle.go_ast.specs.declared.syntax.PrefixOp.{PrefixOp}
use Rattle.go_ast.specs.declared.syntax.PrefixOp.TheVariants as sign
use Rattle.types_expr.specs.declared.types.Basic.{Basic}
use Rattle.types_expr.specs.declared.types.Basic.TheVariants as basic
use Rattle.types_expr.specs.Types.{PlainType, Plain, PointerTo, ValueKind, Typed, Untyped, Nil, Meaning, Value}
use Rattle.types_expr.specs.World.{World, underlying}
use Rattle.law_typing.specs.Fits.{FitsType}

-- a value of kind k has the basic type b: as its underlying type, or as the kind of an untyped constant
pub data IsBasic (w : World) : ValueKind → Basic → Type 0 where
  by_type : {t : PlainType} {b : Basic} → underlying w t ≡ Plain b → IsBasic w (Typed t) b
  by_kind : {b : Basic} → IsBasic w (Untyped b) b

-- a value of kind k has no type: an untyped constant or nil
pub data IsUntyped : ValueKind → Type 0 where
  a_constant : {b : Basic} → IsUntyped (Untyped b)
  a_nil : IsUntyped Nil

-- Two operands, of the first two kinds, have the third in common. Both have one type; or one has no type and fits the type of the other; or
-- both have one kind and no type.
pub data HaveCommonKind (w : World) : ValueKind → ValueKind → ValueKind → Type 0 where
  of_one_type : {t : PlainType} → HaveCommonKind w (Typed t) (Typed t) (Typed t)
  right_fits : {t : PlainType} {k : ValueKind} → IsUntyped k → FitsType w k t → HaveCommonKind w (Typed t) k (Typed t)
  left_fits : {t : PlainType} {k : ValueKind} → IsUntyped k → FitsType w k t → HaveCommonKind w k (Typed t) (Typed t)
  of_one_kind : {k : ValueKind} → IsUntyped k → HaveCommonKind w k k k

-- the operator is `-`, `*`, `/` or `%`
pub data IsArithmetic : BinaryOp → Type 0 where
  minus : IsArithmetic op.Subtract
  times : IsArithmetic op.Multiply
  divided : IsArithmetic op.Divide
  remainder : IsArithmetic op.Remainder

-- the operator is `<`, `<=`, `>` or `>=`
pub data IsOrderOperator : BinaryOp → Type 0 where
  less : IsOrderOperator op.Less
  less_or_equal : IsOrderOperator op.LessEqual
  greater : IsOrderOperator op.Greater
  greater_or_equal : IsOrderOperator op.GreaterEqual

-- the operator is `==` or `!=`
pub data IsEquality : BinaryOp → Type 0 where
  equal : IsEquality op.Equal
  not_equal : IsEquality op.NotEqual

-- the operator is `&&` or `||`
pub data IsLogic : BinaryOp → Type 0 where
  and : IsLogic op.And
  or : IsLogic op.Or

-- values of kind k are comparable: bools, ints, strings and pointers
pub data IsComparable (w : World) : ValueKind → Type 0 where
  a_basic : {k : ValueKind} {b : Basic} → IsBasic w k b → IsComparable w k
  a_pointer : {t target : PlainType} → underlying w t ≡ PointerTo target → IsComparable w (Typed t)

-- A binary operation on operands of the first two kinds has a result of the third. `+` takes ints and strings; `-`, `*`, `/`, `%` take
-- ints. `<`, `<=`, `>`, `>=` take ints and strings; `&&` and `||` take bools. `==` and `!=` take comparable values, and a pointer, a
-- slice or an interface with nil.
pub data Operates (w : World) : BinaryOp → ValueKind → ValueKind → ValueKind → Type 0 where
  adds : {a b k : ValueKind} → HaveCommonKind w a b k → IsBasic w k basic.Int ⊎ IsBasic w k basic.String → Operates w op.Add a b k
  computes : {o : BinaryOp} {a b k : ValueKind} → IsArithmetic o → HaveCommonKind w a b k → IsBasic w k basic.Int → Operates w o a b k
  orders : {o : BinaryOp} {a b k : ValueKind} → IsOrderOperator o → HaveCommonKind w a b k → IsBasic w k basic.Int ⊎ IsBasic w k basic.String →
      Operates w o a b (Untyped basic.Bool)
  connects : {o : BinaryOp} {a b k : ValueKind} → IsLogic o → HaveCommonKind w a b k → IsBasic w k basic.Bool → Operates w o a b k
  compares : {o : BinaryOp} {a b k : ValueKind} → IsEquality o → HaveCommonKind w a b k → IsComparable w k → Operates w o a b (Untyped basic.Bool)
  compares_with_nil : {o : BinaryOp} {t : PlainType} → IsEquality o → FitsType w Nil t → Operates w o (Typed t) Nil (Untyped basic.Bool)
  compares_nil_with : {o : BinaryOp} {t : PlainType} → IsEquality o → FitsType w Nil t → Operates w o Nil (Typed t) (Untyped basic.Bool)

-- A prefix operation on an operand of kind k has this meaning. `+` and `-` take ints, `!` takes bools. `*` takes pointers, and gives an
-- addressable value.
pub data Prefixes (w : World) : PrefixOp → ValueKind → Meaning → Type 0 where
  plus : {k : ValueKind} → IsBasic w k basic.Int → Prefixes w sign.Plus k (Value k false)
  negates : {k : ValueKind} → IsBasic w k basic.Int → Prefixes w sign.Minus k (Value k false)
  denies : {k : ValueKind} → IsBasic w k basic.Bool → Prefixes w sign.Not k (Value k false)
  follows : {t target : PlainType} → underlying w t ≡ PointerTo target → Prefixes w sign.Deref (Typed t) (Value (Typed target) true)
