-- The invariants of the loops of `imports::add_imports`.
use Rattle.std.proofs.Common.{take, map}
use Rattle.std.specs.List.{flat_map, enumerate_from}
use Rattle.types_declared.specs.Listing.{AddsEach}
use Rattle.go_ast.specs.SourceFile.{source_of}
use Rattle.types_declared.specs.States.{state_in}
use Rattle.types_resolve.specs.Imports.{IsFaultOfImport, placed_imports}
use Rattle.types_resolve.proofs.imports.add_imports.Given as goal

abbrev pub invariant-loop-rank : goal.invariant-loop-rank
invariant-loop-rank l = AddsEach (IsFaultOfImport (state_in l.states)) l.initial.found.items l.found.items
    (flat_map placed_imports (take l.rank (enumerate_from 0 (map source_of l.files))))
