-- Types, underlying types, kinds of values, signatures, and the meanings of expressions.
use Rattle.std.specs.Prelude.{ℕ, ◌==◌, Bool, true, false, ◌&&◌, List, Option, Some, None}
use Rattle.std.specs.Cmp.Lexicographic.{pointwise}
use Rattle.types_expr.specs.declared.types.Basic.{Basic}
use Rattle.types_expr.specs.declared.types.Basic.TheVariants as basic
use Rattle.types_expr.specs.declared.types.Builtin.{Builtin}
use Rattle.types_expr.specs.declared.symbol.Symbol.{Symbol}

-- a type, as a plain value
pub data PlainType : Type 0 where
  BasicType : Basic → PlainType
  Defined : Symbol → PlainType
  Pointer : PlainType → PlainType
  Slice : PlainType → PlainType

-- an underlying type; a struct and an interface are identified by the definition that writes them
pub data Underlying : Type 0 where
  Plain : Basic → Underlying
  PointerTo : PlainType → Underlying
  SliceOf : PlainType → Underlying
  Struct : Symbol → Underlying
  Interface : Symbol → Underlying

-- the kind of a value: its type, the basic type of an untyped constant, or nil
pub data ValueKind : Type 0 where
  Typed : PlainType → ValueKind
  Untyped : Basic → ValueKind
  Nil : ValueKind

pub record Signature : Type 0 where
  pub parameters : List PlainType
  pub results : List PlainType

-- what a written member is: a field of this type, or a method of this signature that an interface asks for
pub data WrittenAs : Type 0 where
  AFieldOf : PlainType → WrittenAs
  AMethodOf : Signature → WrittenAs

-- The meaning of an expression. Results: a call with none or several results. Broken: the expression or a part of it is a fault, or it uses
-- a declaration that has a broken part.
pub data Meaning : Type 0 where
  Value : ValueKind → (addressable : Bool) → Meaning
  TypeName : PlainType → Meaning
  Function : Signature → Meaning
  BuiltinName : Builtin → Meaning
  Package : Meaning
  Results : List PlainType → Meaning
  Broken : Meaning

abbrev pub same_basic : Basic → Basic → Bool
same_basic basic.Bool basic.Bool = true
same_basic basic.Int basic.Int = true
same_basic basic.String basic.String = true
same_basic a b = false

abbrev pub same_path : List ℕ → List ℕ → Bool
same_path a b = pointwise ◌==◌ a b

abbrev pub same_symbol : Symbol → Symbol → Bool
same_symbol a b = a.rank == b.rank && same_path a.package b.package

-- whether two types are identical (Go specification, "Type identity")
unfoldable pub same_type : PlainType → PlainType → Bool
same_type (BasicType a) (BasicType b) = same_basic a b
same_type (Defined a) (Defined b) = same_symbol a b
same_type (Pointer a) (Pointer b) = same_type a b
same_type (Slice a) (Slice b) = same_type a b
same_type a b = false

-- whether two lists have identical types in the same order
abbrev pub identical_types : List PlainType → List PlainType → Bool
identical_types a b = pointwise same_type a b

-- whether two signatures have identical parameters and results
unfoldable pub identical_signatures : Signature → Signature → Bool
identical_signatures a b = identical_types a.parameters b.parameters && identical_types a.results b.results

unfoldable pub same_underlying : Underlying → Underlying → Bool
same_underlying (Plain a) (Plain b) = same_basic a b
same_underlying (PointerTo a) (PointerTo b) = same_type a b
same_underlying (SliceOf a) (SliceOf b) = same_type a b
same_underlying (Struct a) (Struct b) = same_symbol a b
same_underlying (Interface a) (Interface b) = same_symbol a b
same_underlying a b = false

-- the underlying type of a type, where `definition` gives those of type definitions
abbrev pub underlying_by : (Symbol → Underlying) → PlainType → Underlying
underlying_by definition (BasicType b) = Plain b
underlying_by definition (Defined s) = definition s
underlying_by definition (Pointer t) = PointerTo t
underlying_by definition (Slice t) = SliceOf t

-- whether a type is named: all but pointers and slices are
unfoldable pub is_named : PlainType → Bool
is_named (BasicType b) = true
is_named (Defined s) = true
is_named (Pointer t) = false
is_named (Slice t) = false

abbrev pub either_unnamed : Bool → Bool → Bool
either_unnamed true true = false
either_unnamed a b = true

-- whether nil is a value of such a type
unfoldable pub has_nil : Underlying → Bool
has_nil (PointerTo t) = true
has_nil (SliceOf t) = true
has_nil (Interface s) = true
has_nil u = false

abbrev pub is_pointer : PlainType → Bool
is_pointer (Pointer t) = true
is_pointer t = false

-- whether an underlying type is that of pointers
abbrev pub points : Underlying → Bool
points (PointerTo t) = true
points u = false

abbrev pub is_interface : Underlying → Bool
is_interface (Interface s) = true
is_interface u = false

-- whether the types with this underlying type have no methods of receivers: pointers and interfaces
abbrev pub takes_no_methods : Underlying → Bool
takes_no_methods (PointerTo t) = true
takes_no_methods (Interface s) = true
takes_no_methods u = false

abbrev pub is_struct : Underlying → Bool
is_struct (Struct s) = true
is_struct u = false

-- the element type of a slice, none for any other underlying type
abbrev pub element_of : Underlying → Option PlainType
element_of (SliceOf t) = Some t
element_of u = None
