-- The rules of assignability and conversion: which values fit a type, and which convert to it.
use Rattle.std.specs.Prelude.{◌≡◌, ◌⊎◌, true, List, [], ◌∷◌}
use Rattle.types_expr.specs.declared.types.Basic.{Basic}
use Rattle.types_expr.specs.declared.symbol.Symbol.{Symbol}
use Rattle.types_expr.specs.Types.{PlainType, BasicType, Pointer, Slice, Plain, PointerTo, SliceOf, Interface, ValueKind, Typed, Untyped, Nil}
use Rattle.types_expr.specs.World.{World, underlying}

-- the type is not named: a pointer or slice type
pub data IsUnnamedType : PlainType → Type 0 where
  a_pointer : {t : PlainType} → IsUnnamedType (Pointer t)
  a_slice : {t : PlainType} → IsUnnamedType (Slice t)

-- A value of kind k fits type t (Go specification, "Assignability"). Its type is identical; or the underlying types are identical and one
-- of the two types is not named; or t is an interface that its type implements. A constant fits its own basic type, and each interface that
-- this type implements. Nil fits pointers, slices and interfaces.
pub data FitsType (w : World) : ValueKind → PlainType → Type 0 where
  identical : {t : PlainType} → FitsType w (Typed t) t
  unnamed : {v t : PlainType} → IsUnnamedType v ⊎ IsUnnamedType t → underlying w v ≡ underlying w t → FitsType w (Typed v) t
  as_interface : {v t : PlainType} {s : Symbol} → underlying w t ≡ Interface s → w.implements v s ≡ true → FitsType w (Typed v) t
  untyped : {b : Basic} {t : PlainType} → underlying w t ≡ Plain b → FitsType w (Untyped b) t
  constant_as_interface : {b : Basic} {t : PlainType} {s : Symbol} → underlying w t ≡ Interface s → w.implements (BasicType b) s ≡ true →
      FitsType w (Untyped b) t
  nil_as_pointer : {t target : PlainType} → underlying w t ≡ PointerTo target → FitsType w Nil t
  nil_as_slice : {t element : PlainType} → underlying w t ≡ SliceOf element → FitsType w Nil t
  nil_as_interface : {t : PlainType} {s : Symbol} → underlying w t ≡ Interface s → FitsType w Nil t

-- a value of kind k converts to type t (Go specification, "Conversions"): it fits, or the underlying types are identical
pub data Converts (w : World) : ValueKind → PlainType → Type 0 where
  fitting : {k : ValueKind} {t : PlainType} → FitsType w k t → Converts w k t
  alike : {v t : PlainType} → underlying w v ≡ underlying w t → Converts w (Typed v) t

-- there are as many values as types, and each value fits the type at its position
pub data FitInTurn (w : World) : List ValueKind → List PlainType → Type 0 where
  no_values : FitInTurn w [] []
  then_fits : {k : ValueKind} {t : PlainType} {ks : List ValueKind} {ts : List PlainType} → FitsType w k t → FitInTurn w ks ts → FitInTurn w (k ∷ ks) (t ∷ ts)

-- each value fits type t
pub data EachFits (w : World) (t : PlainType) : List ValueKind → Type 0 where
  none : EachFits w t []
  also_fits : {k : ValueKind} {ks : List ValueKind} → FitsType w k t → EachFits w t ks → EachFits w t (k ∷ ks)
