-- The invariants of the loops of `exporting::exports`.
use Rattle.types_declared.specs.ExportTablesView.{exports_at}
use Rattle.types_check.specs.Exports.{AreExportsBelow}
use Rattle.types_declared.specs.PackageView.{package_of}
use Rattle.types_check.proofs.exporting.exports.Given as goal

abbrev pub invariant-loop-d : goal.invariant-loop-d
invariant-loop-d l = AreExportsBelow (package_of l.pkg) l.d (exports_at l.found)
