-- The invariants of the loops of `declarations::field_types`.
use Rattle.std.proofs.Common.{◌≡◌, ◌++◌, drop, map}
use Rattle.types_expr.specs.View.{type_of}
use Rattle.types_expr.specs.WorldView.{world_of}
use Rattle.build_object.proofs.TypeParts.{for_struct}
use Rattle.build_object.proofs.declarations.field_types.Given as goal

abbrev pub invariant-loop-field : goal.invariant-loop-field
invariant-loop-field l = map type_of l.types.items ++ for_struct (world_of l.world) (drop l.field-index l.fields) ≡ for_struct (world_of l.world) l.fields
