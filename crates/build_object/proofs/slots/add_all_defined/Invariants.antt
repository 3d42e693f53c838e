-- The invariants of the loops of `slots::add_all_defined`.
use Rattle.std.proofs.Common.{◌≡◌, ◌++◌, drop}
use Rattle.types_expr.specs.WorldView.{world_of}
use Rattle.build_object.proofs.Parts.{defined_places}
use Rattle.build_object.proofs.slots.add_all_defined.Given as goal

abbrev pub invariant-loop-item : goal.invariant-loop-item
invariant-loop-item l = l.places.items ++ defined_places (world_of l.world) (drop l.item-index l.left) ≡ l.initial.places.items ++ defined_places
    (world_of l.world) l.left
