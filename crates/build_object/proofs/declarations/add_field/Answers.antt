-- The answers to the goals of `declarations::add_field`.
use Rattle.std.proofs.Common.{ℕ, ◌++◌, ◌∙◌, ap, map, refl}
use Rattle.std.specs.Prelude.{None}
use Rattle.go_ast.specs.declared.tree.Item.{Item}
use Rattle.go_ast.specs.View.{type_view}
use Rattle.go_ast.specs.FileView.{field_view}
use Rattle.types_expr.specs.View.{type_of}
use Rattle.types_expr.specs.WorldView.{world_of}
use Rattle.build_object.specs.Objects.{written}
use Rattle.build_object.proofs.Loops.{rest_at, rest_end}
use Rattle.build_object.proofs.TypeParts.{for_fields}
use Rattle.build_object.proofs.declarations.add_field.Goals as goal

no_name : Item ℕ
no_name = record { value = 0; separator = None }

pub loop-name-preserved : goal.loop-name-preserved
loop-name-preserved c =
    rest_at (for_fields (world_of c.args.world.now) (type_view c.args.field.now.field_type))
    (λ x. written (world_of c.args.world.now) (type_view c.args.field.now.field_type)) (λ x xs. refl) _
    (map type_of c.loop-name.types.items) (map type_of c.add_written.new.types.items) c.deref-name-items.result.now c.loop-name._name-index no_name
    c.loop-name-test.true c.loop-name.invariant c.in_ok-add_written.ensures

pub returns : goal.returns
unfolding field_view
returns c =
    rest_end (for_fields (world_of c.args.world.now) (type_view c.args.field.now.field_type)) refl _ (map type_of c.loop-name.types.items)
    c.deref-name-items.result.now c.loop-name._name-index c.loop-name-test.false c.loop-name.invariant
    ∙ ap (λ xs. map type_of c.args.types.now.items ++ for_fields (world_of c.args.world.now) (type_view c.args.field.now.field_type) xs)
    c.deref-name-items.ensures.value
