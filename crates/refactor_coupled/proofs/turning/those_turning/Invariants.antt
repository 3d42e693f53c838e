-- The types that were passed and can be turned were added.
use Rattle.std.proofs.Common.{◌≡◌, take}
use Rattle.std.specs.Prelude.{filter}
use Rattle.refactor_coupled.specs.RenamedTypesView.{definitions_in, rename_of}
use Rattle.refactor_coupled.specs.Turning.{can_turn}
use Rattle.refactor_coupled.proofs.turning.those_turning.Given as goal

abbrev pub invariant-loop-symbol : goal.invariant-loop-symbol
invariant-loop-symbol l =
    l.found.items ≡ filter (can_turn (definitions_in l.types.types.now) (rename_of l.types.rename) l.moved) (take l.symbol-index l.called)
