-- The invariants of the loops of `slots::add_names`.
use Rattle.std.proofs.Common.{◌≡◌, ◌++◌, drop}
use Rattle.build_object.proofs.Parts.{name_places}
use Rattle.build_object.proofs.slots.add_names.Given as goal

abbrev pub invariant-loop-name : goal.invariant-loop-name
invariant-loop-name l = l.places.items ++ name_places (drop l.name-index l.names) ≡ l.initial.places.items ++ name_places l.names
