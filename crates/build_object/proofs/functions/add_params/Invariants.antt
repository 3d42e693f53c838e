-- The invariants of the loops of `functions::add_params`.
use Rattle.std.proofs.Common.{◌≡◌, ◌++◌, drop, map}
use Rattle.types_expr.specs.View.{type_of}
use Rattle.types_expr.specs.WorldView.{world_of}
use Rattle.build_object.proofs.TypeParts.{for_params}
use Rattle.build_object.proofs.functions.add_params.Given as goal

abbrev pub invariant-loop-param : goal.invariant-loop-param
invariant-loop-param l = map type_of l.types.items ++ for_params (world_of l.world) (drop l.param-index l.params) ≡ map type_of l.initial.types.items ++
    for_params (world_of l.world) l.params
