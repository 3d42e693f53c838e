-- What was moved, where the result of a move is known.
use Rattle.std.proofs.Common.{◌≡◌, Option, Some, None, option_map, refl, sym, ap}
use Rattle.std.proofs.lemmas.Option.{none-some, same_Some}
use Rattle.types_expr.specs.declared.types.Basic.{Basic}
use Rattle.types_expr.specs.declared.symbol.Symbol.{Symbol}
use Rattle.types_expr.specs.Types.{PlainType, BasicType, Defined, Pointer, Slice, Meaning, Value, TypeName, Function, BuiltinName, Package, Results, Broken}
use Rattle.types_expr.specs.Types.{Underlying, Plain, PointerTo, SliceOf}
use Rattle.types_expr.specs.Types.{Struct as StructOf, Interface as InterfaceOf}
use Rattle.law_changed_types.specs.Moved.{PathMap, moved_symbol, moved_type, moved_underlying, moved_meaning}

pub some_back : {A B : Type 0} (f : A → B) (x : Option A) (y : B) → option_map f x ≡ Some y → (a : A) × ((x ≡ Some a) × (y ≡ f a))
some_back f None y e = absurd (none-some y e)
some_back f (Some a) y e = (a, (refl, same_Some y (f a) (sym e)))

-- the parts of types and meanings

basic_in : PlainType → Option Basic
basic_in (BasicType b) = Some b
basic_in t = None

defined_in : PlainType → Option Symbol
defined_in (Defined s) = Some s
defined_in t = None

pointer_in : PlainType → Option PlainType
pointer_in (Pointer t) = Some t
pointer_in t = None

slice_in : PlainType → Option PlainType
slice_in (Slice t) = Some t
slice_in t = None

type_in : Meaning → Option PlainType
type_in (TypeName t) = Some t
type_in x = None

no_match : {A B : Type 0} {x : A} → Some x ≡ None → B
no_match {x = x} e = absurd (none-some x (sym e))

pub basic_back : (g : PathMap) (t : PlainType) (b : Basic) → BasicType b ≡ moved_type g t → t ≡ BasicType b
unfolding basic_in
basic_back g (BasicType c) b e = ap BasicType (same_Some c b (ap basic_in (sym e)))
basic_back g (Defined s) b e = no_match (ap basic_in e)
basic_back g (Pointer t) b e = no_match (ap basic_in e)
basic_back g (Slice t) b e = no_match (ap basic_in e)

pub defined_back : (g : PathMap) (t : PlainType) (s : Symbol) → Defined s ≡ moved_type g t → (r : Symbol) × ((t ≡ Defined r) × (s ≡ moved_symbol g r))
unfolding defined_in
defined_back g (BasicType c) s e = no_match (ap defined_in e)
defined_back g (Defined r) s e = (r, (refl, same_Some s (moved_symbol g r) (ap defined_in e)))
defined_back g (Pointer t) s e = no_match (ap defined_in e)
defined_back g (Slice t) s e = no_match (ap defined_in e)

pub pointer_back : (g : PathMap) (t x : PlainType) → Pointer x ≡ moved_type g t → (y : PlainType) × ((t ≡ Pointer y) × (x ≡ moved_type g y))
unfolding pointer_in
pointer_back g (BasicType c) x e = no_match (ap pointer_in e)
pointer_back g (Defined r) x e = no_match (ap pointer_in e)
pointer_back g (Pointer y) x e = (y, (refl, same_Some x (moved_type g y) (ap pointer_in e)))
pointer_back g (Slice t) x e = no_match (ap pointer_in e)

pub slice_back : (g : PathMap) (t x : PlainType) → Slice x ≡ moved_type g t → (y : PlainType) × ((t ≡ Slice y) × (x ≡ moved_type g y))
unfolding slice_in
slice_back g (BasicType c) x e = no_match (ap slice_in e)
slice_back g (Defined r) x e = no_match (ap slice_in e)
slice_back g (Pointer t) x e = no_match (ap slice_in e)
slice_back g (Slice y) x e = (y, (refl, same_Some x (moved_type g y) (ap slice_in e)))

pub type_name_back : (g : PathMap) (x : Meaning) (t : PlainType) → moved_meaning g x ≡ TypeName t → (u : PlainType) × ((x ≡ TypeName u) × (t ≡ moved_type g u))
unfolding type_in
type_name_back g (TypeName u) t e = (u, (refl, same_Some t (moved_type g u) (ap type_in (sym e))))
type_name_back g (Value k a) t e = no_match (ap type_in (sym e))
type_name_back g (Function s) t e = no_match (ap type_in (sym e))
type_name_back g (BuiltinName b) t e = no_match (ap type_in (sym e))
type_name_back g Package t e = no_match (ap type_in (sym e))
type_name_back g (Results ts) t e = no_match (ap type_in (sym e))
type_name_back g Broken t e = no_match (ap type_in (sym e))

struct_in : Underlying → Option Symbol
struct_in (StructOf s) = Some s
struct_in u = None

pub struct_back : (g : PathMap) (u : Underlying) (s : Symbol) → StructOf s ≡ moved_underlying g u → (r : Symbol) × ((u ≡ StructOf r) × (s ≡ moved_symbol g r))
unfolding struct_in
struct_back g (Plain b) s e = no_match (ap struct_in e)
struct_back g (PointerTo t) s e = no_match (ap struct_in e)
struct_back g (SliceOf t) s e = no_match (ap struct_in e)
struct_back g (InterfaceOf r) s e = no_match (ap struct_in e)
struct_back g (StructOf r) s e = (r, (refl, same_Some s (moved_symbol g r) (ap struct_in e)))
