-- The invariants of the loops of `found::FoundInFile::misfits`.
use Rattle.std.proofs.Common.{◌-◌, drop, map, length}
use Rattle.types_expr.specs.Judge.{misfits, enterings}
use Rattle.types_expr.specs.WorldView.{world_of}
use Rattle.types_expr.specs.Found.{list_value}
use Rattle.types_expr.specs.View.{type_of}
use Rattle.types_expr.proofs.Misfits.{Compared}
use Rattle.types_expr.proofs.found.FoundInFile.misfits.Given as goal

abbrev pub invariant-each : goal.invariant-each
invariant-each l = Compared (misfits (world_of l.world) (map list_value l.values) (map type_of l.types))
    (misfits (world_of l.world) (map list_value (drop l.i l.values)) (map type_of (drop l.i l.types)))
    (enterings (world_of l.world) (map list_value l.values) (map type_of l.types))
    (enterings (world_of l.world) (map list_value (drop l.i l.values)) (map type_of (drop l.i l.types))) l.fn.self l.self l.none

abbrev pub decreases-each : goal.decreases-each
decreases-each l = length l.initial.values - l.i
