-- What the loop of `tables::row_by_table` keeps: the tokens that were passed have their marks.
use Rattle.types_declared.specs.PackageView.{package_of}
use Rattle.refactor_move.specs.FileEdits.{IsImportUse}
use Rattle.refactor_move.specs.Steps.{AreMarksOf}
use Rattle.refactor_follow.specs.MoveReadings.{move_from}
use Rattle.refactor_follow.proofs.tables.row_by_table.Given as goal

abbrev pub invariant-loop-token : goal.invariant-loop-token
invariant-loop-token l = AreMarksOf (IsImportUse (package_of l.unit) l.rank (move_from l.path)) l.token l.row.items
