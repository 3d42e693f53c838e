-- The invariants of the loops of `slots::places`.
use Rattle.std.proofs.Common.{◌≡◌, ◌++◌, drop}
use Rattle.types_expr.specs.WorldView.{world_of}
use Rattle.build_object.proofs.Places.{places_of_each}
use Rattle.build_object.proofs.slots.+places.Given as goal

abbrev pub invariant-add_block-loop-item : goal.invariant-add_block-loop-item
invariant-add_block-loop-item l =
    l.places.items ++ places_of_each (world_of l.world) (drop l.item-index l.item-items) ≡ l.initial.places.items ++ places_of_each (world_of l.world)
    l.item-items
