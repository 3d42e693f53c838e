-- The invariants of the loops of `headers::result_types`.
use Rattle.std.proofs.Common.{drop, map}
use Rattle.go_ast.specs.View.{list_view, type_view}
use Rattle.types_expr.specs.WorldView.{world_of}
use Rattle.types_stmt.specs.Headers.{judge_types}
use Rattle.types_stmt.specs.View.{target_of}
use Rattle.types_stmt.proofs.LoopProgress.{GrownResults}
use Rattle.types_stmt.proofs.headers.result_types.Given as goal

abbrev pub invariant-loop-item : goal.invariant-loop-item
invariant-loop-item l =
    GrownResults (judge_types (world_of l.world) (list_view type_view (drop l.item-index l.types)))
    (judge_types (world_of l.world) (list_view type_view l.types)) l.initial.found l.found (map target_of l.targets.items)
