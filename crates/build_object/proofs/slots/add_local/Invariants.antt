-- The invariants of the loops of `slots::add_local`.
use Rattle.std.proofs.Common.{◌≡◌, ◌++◌, drop}
use Rattle.build_object.proofs.Parts.{named_places}
use Rattle.build_object.proofs.slots.add_local.Given as goal

abbrev pub invariant-loop-name : goal.invariant-loop-name
invariant-loop-name l = l.places.items ++ named_places (drop l.name-index l.name-items) ≡ l.initial.places.items ++ named_places l.name-items
