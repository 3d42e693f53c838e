-- The invariants of the loops of `marks::is_old`.
use Rattle.std.proofs.Common.{take}
use Rattle.go_ast.specs.View.{exprs_view}
use Rattle.types_declared.specs.Laid.{laid_in}
use Rattle.types_resolve.specs.StatementMarks.{SomeDeclares}
use Rattle.types_resolve.proofs.statements.is_old.Given as goal

abbrev pub invariant-loop-item : goal.invariant-loop-item
invariant-loop-item l = SomeDeclares (laid_in l.scope.table.now) l.scope.rank (exprs_view (take l.item-index l.left)) → ⊥
