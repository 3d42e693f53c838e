-- The invariants of the loops of `naming::tables_of`.
use Rattle.build_unit.specs.Naming.{AreTablesBy}
use Rattle.build_unit.proofs.naming.tables_of.Given as goal

abbrev pub invariant-loop-other : goal.invariant-loop-other
invariant-loop-other l = AreTablesBy l.names l.tables
