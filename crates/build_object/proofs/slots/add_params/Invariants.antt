-- The invariants of the loops of `slots::add_params`.
use Rattle.std.proofs.Common.{◌≡◌, ◌++◌, drop}
use Rattle.build_object.proofs.Parts.{param_places}
use Rattle.build_object.proofs.slots.add_params.Given as goal

abbrev pub invariant-loop-param : goal.invariant-loop-param
invariant-loop-param l = l.places.items ++ param_places (drop l.param-index l.params) ≡ l.initial.places.items ++ param_places l.params
