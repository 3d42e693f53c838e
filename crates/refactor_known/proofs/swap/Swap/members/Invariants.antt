-- The invariants of the loops of `swap::Swap::members`.
use Rattle.std.proofs.Common.{◌≡◌, map, take}
use Rattle.types_info.specs.MemberUses.{uses_in}
use Rattle.law_changed_types.specs.Moved.{moved_use}
use Rattle.refactor_known.specs.Swaps.{map_of}
use Rattle.refactor_known.proofs.swap.Swap.members.Given as goal

abbrev pub invariant-loop-uses : goal.invariant-loop-uses
invariant-loop-uses l = map uses_in l.moved.items ≡ map (λ x. map (moved_use (map_of l.self)) (uses_in x)) (take l.uses-index l.members)
