-- The answers to the goals of `slots::add_all_defined`.
use Rattle.std.proofs.Common.{refl}
use Rattle.std.specs.Prelude.{option_to_list}
use Rattle.go_ast.specs.View.{expr_view}
use Rattle.types_expr.specs.WorldView.{world_of}
use Rattle.types_stmt.specs.Sides.{defined_name}
use Rattle.build_object.proofs.Loops.{rest_step, rest_end}
use Rattle.build_object.proofs.Parts.{defined_places}
use Rattle.build_object.proofs.slots.add_all_defined.Goals as goal

pub loop-item-preserved : goal.loop-item-preserved
loop-item-preserved c =
    rest_step (defined_places (world_of c.args.world.now)) (λ x. option_to_list (defined_name (world_of c.args.world.now) (expr_view x.value)))
    (λ x xs. refl) _ c.loop-item.places.items c.add_defined.new.places.items c.args.left.now c.loop-item.item-index c.item-item.result
    c.loop-item-test.true c.item-item.is c.loop-item.invariant c.in_ok-add_defined.ensures

pub returns : goal.returns
returns c = rest_end (defined_places (world_of c.args.world.now)) refl _ c.loop-item.places.items c.args.left.now c.loop-item.item-index
    c.loop-item-test.false c.loop-item.invariant
