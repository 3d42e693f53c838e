-- The invariants of the loops of `swap::Swap::enterings`.
use Rattle.std.proofs.Common.{◌≡◌, map, take}
use Rattle.types_info.specs.MemberUses.{enterings_in}
use Rattle.law_changed_types.specs.Moved.{moved_entering}
use Rattle.refactor_known.specs.Swaps.{map_of}
use Rattle.refactor_known.proofs.swap.Swap.enterings.Given as goal

abbrev pub invariant-loop-list : goal.invariant-loop-list
invariant-loop-list l = map enterings_in l.moved.items ≡ map (λ x. map (moved_entering (map_of l.self)) (enterings_in x)) (take l.list-index l.lists)
