-- The invariants of the loops of `swap::Swap::qualified`.
use Rattle.std.proofs.Common.{◌≡◌, map, take}
use Rattle.refactor_known.specs.MovedKnown.{listed, moved_listed}
use Rattle.refactor_known.specs.Swaps.{map_of}
use Rattle.refactor_known.proofs.swap.Swap.qualified.Given as goal

abbrev pub invariant-loop-list : goal.invariant-loop-list
invariant-loop-list l = map listed l.moved.items ≡ map (λ x. moved_listed (map_of l.self) (listed x)) (take l.list-index l.lists)
