-- The invariants of the loops of `slots::add_locals`.
use Rattle.std.proofs.Common.{◌≡◌, ◌++◌, drop}
use Rattle.build_object.proofs.Parts.{local_list_places}
use Rattle.build_object.proofs.slots.add_locals.Given as goal

abbrev pub invariant-loop-item : goal.invariant-loop-item
invariant-loop-item l = l.places.items ++ local_list_places (drop l.item-index l.item-items) ≡ l.initial.places.items ++ local_list_places l.item-items
