-- The invariants of the loops of `declarations::note_param_faults`.
use Rattle.std.proofs.Common.{drop}
use Rattle.go_ast.specs.View.{list_view}
use Rattle.go_ast.specs.FileView.{param_view}
use Rattle.types_expr.specs.WorldView.{world_of}
use Rattle.types_stmt.specs.Declarations.{param_faults}
use Rattle.types_stmt.proofs.LoopProgress.{GrownFaults}
use Rattle.types_stmt.proofs.declarations.note_param_faults.Given as goal

abbrev pub invariant-loop-item : goal.invariant-loop-item
invariant-loop-item l = GrownFaults (param_faults (world_of l.world) (list_view param_view (drop l.item-index l.params)))
    (param_faults (world_of l.world) (list_view param_view l.params)) l.initial.found l.found
