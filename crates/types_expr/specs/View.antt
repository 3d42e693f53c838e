-- Views of the types, kinds and signatures of src/: their plain values.
use Rattle.std.specs.Prelude.{map}
use Rattle.types_expr.specs.declared.types.GoType.{GoType}
use Rattle.types_expr.specs.declared.types.GoType.TheVariants as type
use Rattle.types_expr.specs.declared.types.ValueKind.{ValueKind}
use Rattle.types_expr.specs.declared.types.ValueKind.TheVariants as kind
use Rattle.types_expr.specs.declared.types.Signature.{Signature}
use Rattle.types_expr.specs.declared.types.WrittenAs.{WrittenAs}
use Rattle.types_expr.specs.declared.types.WrittenAs.TheVariants as written
use Rattle.types_expr.specs.Types as types

unfoldable pub type_of : GoType → types.PlainType
type_of (type.Basic b) = types.BasicType b
type_of (type.Defined s) = types.Defined s
type_of (type.Pointer' p t) = types.Pointer (type_of t)
type_of (type.Slice' p t) = types.Slice (type_of t)

unfoldable pub kind_of : ValueKind → types.ValueKind
kind_of (kind.Typed t) = types.Typed (type_of t)
kind_of (kind.Untyped b) = types.Untyped b
kind_of kind.Nil = types.Nil

abbrev pub signature_of : Signature → types.Signature
signature_of s = record { parameters = map type_of s.parameters.items; results = map type_of s.results.items }

unfoldable pub form_of : WrittenAs → types.WrittenAs
form_of (written.Field t) = types.AFieldOf (type_of t)
form_of (written.Method s) = types.AMethodOf (signature_of s)
