-- The invariants of the loops of `sides::refuse_all`.
use Rattle.std.proofs.Common.{◌-◌, drop, map, length}
use Rattle.types_expr.specs.WorldView.{world_of}
use Rattle.types_expr.specs.Found.{list_value}
use Rattle.types_stmt.specs.View.{target_of}
use Rattle.types_stmt.proofs.LoopProgress.{GrownNotes}
use Rattle.types_stmt.proofs.ListEquations.{refused_notes}
use Rattle.types_stmt.proofs.sides.refuse_all.Given as goal
use Rattle.types_expr.specs.World.{giving}

abbrev pub invariant-each : goal.invariant-each
invariant-each l =
    GrownNotes (refused_notes (giving l.own (world_of l.world)) (map list_value (drop l.i l.values)) (map target_of (drop l.i l.targets)))
    (refused_notes (giving l.own (world_of l.world)) (map list_value l.values) (map target_of l.targets)) l.initial.found l.found

abbrev pub decreases-each : goal.decreases-each
decreases-each l = length l.initial.values - l.i
