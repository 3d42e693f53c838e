-- The rules of links: selectors, index expressions and calls, after an operand.
use Rattle.std.specs.Prelude.{◌≡◌, ℕ, Bool, false, true, List, [], ◌∷◌, Some}
use Rattle.types_expr.specs.declared.types.Basic.{Basic}
use Rattle.types_expr.specs.declared.types.Basic.TheVariants as basic
use Rattle.types_expr.specs.declared.types.Builtin.TheVariants as builtin
use Rattle.types_expr.specs.declared.symbol.Symbol.{Symbol}
use Rattle.types_expr.specs.Types.{PlainType, BasicType, Pointer, PointerTo, SliceOf, ValueKind}
use Rattle.types_expr.specs.Types.{Typed, Signature, Meaning, Value, TypeName, Function, BuiltinName}
use Rattle.types_expr.specs.Types.{Package, Results, AFieldOf, AMethodOf}
use Rattle.types_expr.specs.World.{World, Locals, AField, AMethod, underlying}
use Rattle.law_typing.specs.Fits.{Converts, FitInTurn, EachFits}
use Rattle.law_typing.specs.Operators.{IsBasic}
use Rattle.law_typing.specs.Names.{NameMeans}

-- The selector at this token, after an operand of the first meaning, has the second. A field is addressable where the operand is, and
-- always through a pointer. An interface has the methods that it asks for. A method of T is selected from a T or `*T`; a method of `*T` from a
-- `*T` or an addressable T. After a package it is a qualified identifier.
pub data SelectsMember (w : World) (locals : Locals) : Meaning → ℕ → Meaning → Type 0 where
  field : {t u : PlainType} {a : Bool} {name : ℕ} {s : Symbol} → w.member name t ≡ Some (AField s (AFieldOf u)) →
      ((target : PlainType) → underlying w t ≡ PointerTo target → ⊥) →
      SelectsMember w locals (Value (Typed t) a) name (Value (Typed u) a)
  field_through_pointer : {t u target : PlainType} {a : Bool} {name : ℕ} {s : Symbol} → w.member name t ≡ Some (AField s (AFieldOf u)) →
      underlying w t ≡ PointerTo target →
      SelectsMember w locals (Value (Typed t) a) name (Value (Typed u) true)
  asked : {t : PlainType} {a : Bool} {name : ℕ} {s : Symbol} {signature : Signature} → w.member name t ≡ Some (AField s (AMethodOf signature)) →
      SelectsMember w locals (Value (Typed t) a) name (Function signature)
  method : {t : PlainType} {a : Bool} {name : ℕ} {s : Symbol} {signature : Signature} → w.member name t ≡ Some (AMethod s false signature) →
      SelectsMember w locals (Value (Typed t) a) name (Function signature)
  method_on_pointer : {t : PlainType} {a : Bool} {name : ℕ} {s : Symbol} {signature : Signature} → w.member name (Pointer t) ≡ Some (AMethod s true signature) →
      SelectsMember w locals (Value (Typed (Pointer t)) a) name (Function signature)
  method_on_variable : {t : PlainType} {name : ℕ} {s : Symbol} {signature : Signature} → w.member name t ≡ Some (AMethod s true signature) →
      SelectsMember w locals (Value (Typed t) true) name (Function signature)
  of_package : {name : ℕ} {m : Meaning} → NameMeans w locals name m → SelectsMember w locals Package name m

-- An index of this kind, after an operand of the first meaning, gives the second: an int gives the element of a slice, which is
-- addressable.
pub data Indexes (w : World) : Meaning → ValueKind → Meaning → Type 0 where
  element : {t u : PlainType} {a : Bool} {i : ValueKind} → underlying w t ≡ SliceOf u → IsBasic w i basic.Int →
      Indexes w (Value (Typed t) a) i (Value (Typed u) true)

-- a call of a function with these results has this meaning: a value, where it has exactly one result
pub data ResultsMean : List PlainType → Meaning → Type 0 where
  nothing : ResultsMean [] (Results [])
  one : {t : PlainType} → ResultsMean (t ∷ []) (Value (Typed t) false)
  several : {t u : PlainType} {ts : List PlainType} → ResultsMean (t ∷ u ∷ ts) (Results (t ∷ u ∷ ts))

-- `len` takes a value of kind k: a string or a slice
pub data HasLength (w : World) : ValueKind → Type 0 where
  a_string : {k : ValueKind} → IsBasic w k basic.String → HasLength w k
  a_slice : {t u : PlainType} → underlying w t ≡ SliceOf u → HasLength w (Typed t)

-- `print` and `println` take values of these kinds: bools, ints and strings
pub data ArePrinted (w : World) : List ValueKind → Type 0 where
  none : ArePrinted w []
  also : {k : ValueKind} {b : Basic} {ks : List ValueKind} → IsBasic w k b → ArePrinted w ks → ArePrinted w (k ∷ ks)

-- A call of an operand of the first meaning, with values of these kinds, has the second meaning. A function or method has as many arguments
-- as parameters, each of which fits. A conversion has one value. The predeclared functions have rules of their own.
pub data CallGives (w : World) : Meaning → List ValueKind → Meaning → Type 0 where
  function : {s : Signature} {ks : List ValueKind} {m : Meaning} → FitInTurn w ks s.parameters → ResultsMean s.results m → CallGives w (Function s) ks m
  conversion : {k : ValueKind} {t : PlainType} → Converts w k t → CallGives w (TypeName t) (k ∷ []) (Value (Typed t) false)
  len : {k : ValueKind} → HasLength w k → CallGives w (BuiltinName builtin.Len) (k ∷ []) (Value (Typed (BasicType basic.Int)) false)
  append : {t u : PlainType} {ks : List ValueKind} → underlying w t ≡ SliceOf u → EachFits w u ks →
      CallGives w (BuiltinName builtin.Append) (Typed t ∷ ks) (Value (Typed t) false)
  panic : {k : ValueKind} → CallGives w (BuiltinName builtin.Panic) (k ∷ []) (Results [])
  print : {ks : List ValueKind} → ArePrinted w ks → CallGives w (BuiltinName builtin.Print) ks (Results [])
  println : {ks : List ValueKind} → ArePrinted w ks → CallGives w (BuiltinName builtin.Println) ks (Results [])
