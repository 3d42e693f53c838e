-- One more package has tables, or it has not.
use Rattle.std.proofs.Common.{sym, subst}
use Rattle.build_unit.specs.Naming.{AreTablesBy}
use Rattle.build_unit.proofs.naming.tables_of.Goals as goal
use Rattle.build_unit.proofs.naming.tables_of.Goals.{then-other-len+in_ok-add_tables, else-other-len}

pub loop-other-preserved : goal.loop-other-preserved
loop-other-preserved c = elim c.if-other-len.branch [
  | then-other-len+in_ok-add_tables w ↦ subst (AreTablesBy c.args.names.now) (sym w.tables-is) w.in_ok-add_tables.ensures
  | else-other-len w ↦ subst (AreTablesBy c.args.names.now) (sym w.tables-is) c.loop-other.invariant
]
