-- The invariants of the loops of `declarations::note_asked_faults`.
use Rattle.std.proofs.Common.{drop}
use Rattle.go_ast.specs.View.{list_view}
use Rattle.go_ast.specs.FileView.{method_view}
use Rattle.types_expr.specs.WorldView.{world_of}
use Rattle.types_stmt.specs.Declarations.{asked_faults}
use Rattle.types_stmt.proofs.LoopProgress.{GrownFaults}
use Rattle.types_stmt.proofs.declarations.note_asked_faults.Given as goal

abbrev pub invariant-loop-item : goal.invariant-loop-item
invariant-loop-item l = GrownFaults (asked_faults (world_of l.world) (list_view method_view (drop l.item-index l.methods)))
    (asked_faults (world_of l.world) (list_view method_view l.methods)) l.initial.found l.found
