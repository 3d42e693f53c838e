-- The invariants of the loops of `locals::defined_names`.
use Rattle.std.proofs.Common.{◌≡◌, take}
use Rattle.go_ast.specs.View.{exprs_view}
use Rattle.types_expr.specs.WorldView.{world_of}
use Rattle.types_stmt.specs.Sides.{defined_names}
use Rattle.types_stmt.proofs.locals.defined_names.Given as goal

abbrev pub invariant-loop-item : goal.invariant-loop-item
invariant-loop-item l = l.names.items ≡ defined_names (world_of l.world) (exprs_view (take l.item-index l.exprs))
