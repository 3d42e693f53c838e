-- What the loop of `tables::uses_by_table` keeps: the files that were passed have their rows.
use Rattle.types_declared.specs.PackageView.{package_of}
use Rattle.refactor_follow.proofs.MarkedRows.{RowsSoFar}
use Rattle.refactor_follow.proofs.tables.uses_by_table.Given as goal

abbrev pub invariant-loop-rank : goal.invariant-loop-rank
invariant-loop-rank l = RowsSoFar (package_of l.unit) l.path l.rank l.rows.items
