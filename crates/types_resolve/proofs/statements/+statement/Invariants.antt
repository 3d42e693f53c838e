-- The invariants of the loops of `marks::statement`.
use Rattle.std.proofs.Common.{take}
use Rattle.std.specs.List.{flat_map}
use Rattle.types_declared.specs.Listing.{AddsEach}
use Rattle.go_ast.specs.FileView.{stmt_view}
use Rattle.types_declared.specs.Laid.{laid_in}
use Rattle.types_resolve.specs.StatementMarks.{IsFaultOfMark, statement_marks}
use Rattle.types_resolve.proofs.statements.+statement.Given as goal

abbrev pub invariant-add_block-loop-item : goal.invariant-add_block-loop-item
invariant-add_block-loop-item l = AddsEach (IsFaultOfMark (laid_in l.scope.table.now) l.scope.rank) l.initial.found.items l.found.items
    (flat_map (λ x. statement_marks l.in_for (stmt_view x.statement)) (take l.item-index l.item-items))
