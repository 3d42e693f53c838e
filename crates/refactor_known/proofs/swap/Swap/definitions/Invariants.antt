-- The invariants of the loops of `swap::Swap::definitions`.
use Rattle.std.proofs.Common.{◌≡◌, map, take}
use Rattle.types_expr.specs.WorldView.{definition_of}
use Rattle.law_changed_types.specs.MovedPackage.{moved_definition}
use Rattle.refactor_known.specs.Swaps.{map_of}
use Rattle.refactor_known.proofs.swap.Swap.definitions.Given as goal

abbrev pub invariant-loop-definition : goal.invariant-loop-definition
invariant-loop-definition l =
    map definition_of l.moved.items ≡ map (λ x. moved_definition (map_of l.self) (definition_of x)) (take l.definition-index l.definitions)
