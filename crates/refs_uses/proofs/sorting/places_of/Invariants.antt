-- The invariants of the loops of `sorting::places_of`.
use Rattle.std.proofs.Common.{◌≡◌, map}
use Rattle.refs_binding.specs.Steps.{place_of}
use Rattle.refs_uses.proofs.sorting.places_of.Given as goal

abbrev pub invariant-loop-spot : goal.invariant-loop-spot
invariant-loop-spot l = l.places.items ≡ map place_of l.yielded
