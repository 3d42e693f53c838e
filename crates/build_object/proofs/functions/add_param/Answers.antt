-- The answers to the goals of `functions::add_param`.
use Rattle.std.proofs.Common.{◌++◌, ap, ◌∙◌, refl, map}
use Rattle.go_ast.specs.View.{type_view}
use Rattle.go_ast.specs.FileView.{param_view}
use Rattle.types_expr.specs.View.{type_of}
use Rattle.types_expr.specs.WorldView.{world_of}
use Rattle.build_object.specs.Objects.{written}
use Rattle.build_object.proofs.Loops.{rest_alike, rest_end}
use Rattle.build_object.proofs.TypeParts.{for_names}
use Rattle.build_object.proofs.functions.add_param.Goals as goal

pub loop-name-preserved : goal.loop-name-preserved
loop-name-preserved c = rest_alike (for_names (world_of c.args.world.now) (type_view c.args.param.now.param_type))
    (written (world_of c.args.world.now) (type_view c.args.param.now.param_type)) (λ x xs. refl) _
    (map type_of c.loop-name.types.items) (map type_of c.add_written.new.types.items) c.deref-name-items.result.now c.loop-name._name-index
    c.loop-name-test.true c.loop-name.invariant c.in_ok-add_written.ensures

pub returns : goal.returns
unfolding param_view
returns c = rest_end (for_names (world_of c.args.world.now) (type_view c.args.param.now.param_type)) refl _ (map type_of c.loop-name.types.items)
    c.deref-name-items.result.now c.loop-name._name-index c.loop-name-test.false c.loop-name.invariant
    ∙ ap (λ xs. map type_of c.args.types.now.items ++ for_names (world_of c.args.world.now) (type_view c.args.param.now.param_type) xs)
    c.deref-name-items.ensures.value
