-- The invariants of the loops of `sides::defined`.
use Rattle.std.proofs.Common.{drop, map}
use Rattle.go_ast.specs.View.{exprs_view}
use Rattle.types_expr.specs.WorldView.{world_of}
use Rattle.types_expr.specs.Found.{locals_of}
use Rattle.types_stmt.specs.Sides.{defined}
use Rattle.types_stmt.specs.View.{target_of}
use Rattle.types_stmt.proofs.LoopProgress.{GrownLefts}
use Rattle.types_stmt.proofs.sides.defined.Given as goal

abbrev pub invariant-loop-item : goal.invariant-loop-item
invariant-loop-item l =
    GrownLefts (defined (world_of l.scope.world.now) (locals_of l.scope.locals.now) (exprs_view (drop l.item-index l.exprs)))
    (defined (world_of l.scope.world.now) (locals_of l.scope.locals.now) (exprs_view l.exprs)) l.initial.found l.found (map target_of l.targets.items)
