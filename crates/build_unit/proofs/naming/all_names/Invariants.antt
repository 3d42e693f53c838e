-- The invariants of the loops of `naming::all_names`.
use Rattle.std.proofs.Common.{take}
use Rattle.build_unit.proofs.Named.{AreNamedUpTo}
use Rattle.build_unit.proofs.naming.all_names.Given as goal

abbrev pub invariant-loop-other : goal.invariant-loop-other
invariant-loop-other l = AreNamedUpTo l.at.graph.now (take l.other-index l.at.closure.now) l.names
