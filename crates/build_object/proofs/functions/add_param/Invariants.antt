-- The invariants of the loops of `functions::add_param`.
use Rattle.std.proofs.Common.{◌≡◌, ◌++◌, drop, map}
use Rattle.go_ast.specs.View.{type_view}
use Rattle.types_expr.specs.View.{type_of}
use Rattle.types_expr.specs.WorldView.{world_of}
use Rattle.build_object.proofs.TypeParts.{for_names}
use Rattle.build_object.proofs.functions.add_param.Given as goal

abbrev pub invariant-loop-name : goal.invariant-loop-name
invariant-loop-name l =
    map type_of l.types.items ++ for_names (world_of l.world) (type_view l.param.param_type) (drop l._name-index l._name-items)
    ≡ map type_of l.initial.types.items ++ for_names (world_of l.world) (type_view l.param.param_type) l._name-items
