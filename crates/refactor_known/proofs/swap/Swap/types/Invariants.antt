-- The invariants of the loops of `swap::Swap::types`.
use Rattle.std.proofs.Common.{◌≡◌, map, take}
use Rattle.types_expr.specs.View.{type_of}
use Rattle.law_changed_types.specs.Moved.{moved_type}
use Rattle.refactor_known.specs.Swaps.{map_of}
use Rattle.refactor_known.proofs.swap.Swap.types.Given as goal

abbrev pub invariant-loop-own : goal.invariant-loop-own
invariant-loop-own l = map type_of l.moved.items ≡ map (λ x. moved_type (map_of l.self) (type_of x)) (take l.own-index l.types)
