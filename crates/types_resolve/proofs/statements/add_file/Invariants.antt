-- The invariants of the loops of `marks::add_file`.
use Rattle.std.proofs.Common.{take}
use Rattle.std.specs.List.{flat_map}
use Rattle.types_declared.specs.Listing.{AddsEach}
use Rattle.go_ast.specs.FileView.{decl_view}
use Rattle.types_declared.specs.Laid.{laid_in}
use Rattle.types_resolve.specs.StatementMarks.{IsFaultOfMark, decl_marks}
use Rattle.types_resolve.proofs.statements.add_file.Given as goal

abbrev pub invariant-loop-decl : goal.invariant-loop-decl
invariant-loop-decl l = AddsEach (IsFaultOfMark (laid_in l.scope.table.now) l.scope.rank) l.initial.found.items l.found.items
    (flat_map (λ d. decl_marks (decl_view d)) (take l.decl-index l.decl-items))
