-- The invariants of the loops of `marks::add_marks`.
use Rattle.std.proofs.Common.{take, map, ◌∷◌, []}
use Rattle.std.specs.List.{flat_map, enumerate_from}
use Rattle.types_declared.specs.Listing.{AddsEach}
use Rattle.go_ast.specs.SourceFile.{source_of}
use Rattle.types_declared.specs.Laid.{laid_in}
use Rattle.types_resolve.specs.StatementMarks.{IsFaultOfMarks}
use Rattle.types_resolve.proofs.statements.add_marks.Given as goal

abbrev pub invariant-loop-rank : goal.invariant-loop-rank
invariant-loop-rank l = AddsEach (IsFaultOfMarks (laid_in l.table)) l.initial.found.items l.found.items
    (flat_map (λ r. r ∷ []) (take l.rank (enumerate_from 0 (map source_of l.files))))
