-- The answers to the goals of `exporting::exports_once`.
use Rattle.types_declared.specs.PackageView.{package_of}
use Rattle.types_check.proofs.ExportParts.{one_export}
use Rattle.types_check.proofs.exporting.exports_once.Goals as goal

pub returns : goal.returns
returns c = λ name e f h k. one_export (package_of c.args.pkg) c.has_one_meaning.ensures name e f h k
