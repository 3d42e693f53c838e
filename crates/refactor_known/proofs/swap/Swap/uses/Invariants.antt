-- The invariants of the loops of `swap::Swap::uses`.
use Rattle.std.proofs.Common.{◌≡◌, map, take}
use Rattle.types_expr.specs.Found.{use_of}
use Rattle.law_changed_types.specs.Moved.{moved_use}
use Rattle.refactor_known.specs.Swaps.{map_of}
use Rattle.refactor_known.proofs.swap.Swap.uses.Given as goal

abbrev pub invariant-loop-one : goal.invariant-loop-one
invariant-loop-one l = map use_of l.moved.items ≡ map (λ x. moved_use (map_of l.self) (use_of x)) (take l.one-index l.uses)
