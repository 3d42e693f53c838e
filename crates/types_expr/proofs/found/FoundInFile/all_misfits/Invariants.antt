-- The invariants of the loops of `found::FoundInFile::all_misfits`.
use Rattle.std.proofs.Common.{drop, map}
use Rattle.types_expr.specs.Judge.{all_misfits, all_enterings}
use Rattle.types_expr.specs.WorldView.{world_of}
use Rattle.types_expr.specs.Found.{list_value}
use Rattle.types_expr.specs.View.{type_of}
use Rattle.types_expr.proofs.Misfits.{Compared}
use Rattle.types_expr.proofs.found.FoundInFile.all_misfits.Given as goal

abbrev pub invariant-loop-value : goal.invariant-loop-value
invariant-loop-value l = Compared (all_misfits (world_of l.world) (map list_value l.values) (type_of l.wanted))
    (all_misfits (world_of l.world) (map list_value (drop l.value-index l.values)) (type_of l.wanted))
    (all_enterings (world_of l.world) (map list_value l.values) (type_of l.wanted))
    (all_enterings (world_of l.world) (map list_value (drop l.value-index l.values)) (type_of l.wanted)) l.fn.self l.self l.none
