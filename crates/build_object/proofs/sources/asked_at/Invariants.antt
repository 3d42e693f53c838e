-- The invariants of the loops of `sources::asked_at`.
use Rattle.std.proofs.Common.{◌≡◌, map, take}
use Rattle.build_object.proofs.sources.asked_at.Given as goal

abbrev pub invariant-loop-next : goal.invariant-loop-next
invariant-loop-next l = l.places.items ≡ map (λ a. a.place) (take l.next-index l.asked)
