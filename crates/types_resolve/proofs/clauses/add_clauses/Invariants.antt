-- The invariants of the loops of `clauses::add_clauses`.
use Rattle.std.proofs.Common.{take, map, ◌∷◌, []}
use Rattle.std.specs.List.{flat_map, enumerate_from}
use Rattle.types_declared.specs.Listing.{AddsEach}
use Rattle.go_ast.specs.SourceFile.{source_of}
use Rattle.types_resolve.specs.Clauses.{IsFaultOfClause}
use Rattle.types_resolve.proofs.clauses.add_clauses.Given as goal

abbrev pub invariant-loop-rank : goal.invariant-loop-rank
invariant-loop-rank l = AddsEach (IsFaultOfClause l.name) l.initial.found.items l.found.items
    (flat_map (λ r. r ∷ []) (take l.rank (enumerate_from 0 (map source_of l.files))))
