-- The answers to the goals of `functions::add_params`.
use Rattle.std.proofs.Common.{refl, map}
use Rattle.std.proofs.lemmas.Grind.{flat_map-append}
use Rattle.go_ast.specs.View.{list_view}
use Rattle.go_ast.specs.FileView.{param_view}
use Rattle.types_expr.specs.View.{type_of}
use Rattle.types_expr.specs.WorldView.{world_of}
use Rattle.types_declared.specs.MeaningOf.{parameter_types}
use Rattle.build_object.specs.Objects.{all_written, written}
use Rattle.build_object.proofs.Loops.{rest_step, rest_end}
use Rattle.build_object.proofs.TypeParts.{for_params}
use Rattle.build_object.proofs.functions.add_params.Goals as goal

pub loop-param-preserved : goal.loop-param-preserved
loop-param-preserved c =
    rest_step (for_params (world_of c.args.world.now))
    (λ x. all_written (world_of c.args.world.now) (map (λ n. (param_view x.value).type_use) (param_view x.value).names))
    (λ x xs. flat_map-append (written (world_of c.args.world.now)) (map (λ n. (param_view x.value).type_use) (param_view x.value).names)
    (parameter_types (list_view param_view xs)))
    _ (map type_of c.loop-param.types.items) (map type_of c.add_param.new.types.items) c.args.params.now c.loop-param.param-index c.param-item.result
    c.loop-param-test.true c.param-item.is c.loop-param.invariant c.in_ok-add_param.ensures

pub returns : goal.returns
returns c = rest_end (for_params (world_of c.args.world.now)) refl _ (map type_of c.loop-param.types.items) c.args.params.now c.loop-param.param-index
    c.loop-param-test.false c.loop-param.invariant
