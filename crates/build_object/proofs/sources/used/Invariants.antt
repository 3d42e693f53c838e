-- The invariants of the loops of `sources::used`.
use Rattle.std.proofs.Common.{◌≡◌, map, take}
use Rattle.build_object.proofs.sources.used.Given as goal

abbrev pub invariant-loop-next : goal.invariant-loop-next
invariant-loop-next l = l.places.items ≡ map (λ u. u.place) (take l.next-index l.uses)
