-- The invariants of the loops of `swap::Swap::file_enterings`.
use Rattle.std.proofs.Common.{◌≡◌, map, take}
use Rattle.types_expr.specs.Found.{plain_entering}
use Rattle.law_changed_types.specs.Moved.{moved_entering}
use Rattle.refactor_known.specs.Swaps.{map_of}
use Rattle.refactor_known.proofs.swap.Swap.file_enterings.Given as goal

abbrev pub invariant-loop-one : goal.invariant-loop-one
invariant-loop-one l = map plain_entering l.moved.items ≡ map (λ x. moved_entering (map_of l.self) (plain_entering x)) (take l.one-index l.enterings)
