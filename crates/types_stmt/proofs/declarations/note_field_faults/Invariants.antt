-- The invariants of the loops of `declarations::note_field_faults`.
use Rattle.std.proofs.Common.{drop}
use Rattle.go_ast.specs.View.{list_view}
use Rattle.go_ast.specs.FileView.{field_view}
use Rattle.types_expr.specs.WorldView.{world_of}
use Rattle.types_stmt.specs.Declarations.{field_faults}
use Rattle.types_stmt.proofs.LoopProgress.{GrownFaults}
use Rattle.types_stmt.proofs.declarations.note_field_faults.Given as goal

abbrev pub invariant-loop-item : goal.invariant-loop-item
invariant-loop-item l = GrownFaults (field_faults (world_of l.world) (list_view field_view (drop l.item-index l.fields)))
    (field_faults (world_of l.world) (list_view field_view l.fields)) l.initial.found l.found
