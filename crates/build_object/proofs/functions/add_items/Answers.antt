-- The answers to the goals of `functions::add_items`.
use Rattle.std.proofs.Common.{refl, map}
use Rattle.go_ast.specs.View.{type_view}
use Rattle.types_expr.specs.View.{type_of}
use Rattle.types_expr.specs.WorldView.{world_of}
use Rattle.build_object.specs.Objects.{written}
use Rattle.build_object.proofs.Loops.{rest_step, rest_end}
use Rattle.build_object.proofs.TypeParts.{for_results}
use Rattle.build_object.proofs.functions.add_items.Goals as goal

pub loop-item-preserved : goal.loop-item-preserved
loop-item-preserved c =
    rest_step (for_results (world_of c.args.world.now)) (λ x. written (world_of c.args.world.now) (type_view x.value)) (λ x xs. refl) _
    (map type_of c.loop-item.types.items) (map type_of c.add_written.new.types.items)
    c.args.items.now c.loop-item.item-index c.item-item.result c.loop-item-test.true c.item-item.is c.loop-item.invariant c.in_ok-add_written.ensures

pub returns : goal.returns
returns c = rest_end (for_results (world_of c.args.world.now)) refl _ (map type_of c.loop-item.types.items) c.args.items.now c.loop-item.item-index
    c.loop-item-test.false c.loop-item.invariant
