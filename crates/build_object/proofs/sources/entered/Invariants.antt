-- The invariants of the loops of `sources::entered`.
use Rattle.std.proofs.Common.{◌≡◌, map, take}
use Rattle.build_object.proofs.sources.entered.Given as goal

abbrev pub invariant-loop-next : goal.invariant-loop-next
invariant-loop-next l = l.places.items ≡ map (λ e. e.place) (take l.next-index l.enterings)
