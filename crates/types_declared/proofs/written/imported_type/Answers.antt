-- The answers to the goals of `written::imported_type`.
use Rattle.types_declared.specs.PackageView.{package_of}
use Rattle.types_declared.specs.ExportTablesView.{export_of}
use Rattle.types_declared.proofs.WrittenTypes.{type_by_export}
use Rattle.types_declared.proofs.written.imported_type.Goals as goal

pub returns-in-None : goal.returns-in-None
returns-in-None c = λ t n. c.in-None.ensures n.export n.exported

pub returns-in-Some : goal.returns-in-Some
returns-in-Some c =
    type_by_export (package_of c.args.pkg) c.args.file c.args.qualifier c.args.name (export_of c.in-Some.export.now) c.exported_type.result
    c.in-Some.ensures.0 c.in-Some.ensures.1 c.exported_type.ensures
