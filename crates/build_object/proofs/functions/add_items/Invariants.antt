-- The invariants of the loops of `functions::add_items`.
use Rattle.std.proofs.Common.{◌≡◌, ◌++◌, drop, map}
use Rattle.types_expr.specs.View.{type_of}
use Rattle.types_expr.specs.WorldView.{world_of}
use Rattle.build_object.proofs.TypeParts.{for_results}
use Rattle.build_object.proofs.functions.add_items.Given as goal

abbrev pub invariant-loop-item : goal.invariant-loop-item
invariant-loop-item l = map type_of l.types.items ++ for_results (world_of l.world) (drop l.item-index l.items) ≡ map type_of l.initial.types.items ++
    for_results (world_of l.world) l.items
