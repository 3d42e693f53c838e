-- The answers to the goals of `declarations::field_types`.
use Rattle.std.proofs.Common.{map, refl}
use Rattle.std.specs.List.{flat_map}
use Rattle.go_ast.specs.FileView.{field_view}
use Rattle.types_expr.specs.View.{type_of}
use Rattle.types_expr.specs.WorldView.{world_of}
use Rattle.build_object.specs.Objects.{written}
use Rattle.build_object.proofs.Loops.{rest_step, rest_end}
use Rattle.build_object.proofs.TypeParts.{for_struct}
use Rattle.build_object.proofs.declarations.field_types.Goals as goal

pub loop-field-preserved : goal.loop-field-preserved
loop-field-preserved c =
    rest_step (for_struct (world_of c.args.world.now))
    (λ x. flat_map (λ n. written (world_of c.args.world.now) (field_view x.value).type_use) (field_view x.value).names) (λ x xs. refl) _
    (map type_of c.loop-field.types.items) (map type_of c.add_field.new.types.items) c.args.fields.now c.loop-field.field-index c.field-item.result
    c.loop-field-test.true c.field-item.is c.loop-field.invariant
    c.in_ok-add_field.ensures

pub returns : goal.returns
returns c =
    rest_end (for_struct (world_of c.args.world.now)) refl _ (map type_of c.loop-field.types.items) c.args.fields.now c.loop-field.field-index
    c.loop-field-test.false c.loop-field.invariant
