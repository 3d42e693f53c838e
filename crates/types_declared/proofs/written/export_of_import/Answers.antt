-- The answers to the goals of `written::export_of_import`.
use Rattle.std.proofs.Common.{ap, ◌∙◌}
use Rattle.types_declared.specs.PackageView.{package_of}
use Rattle.types_declared.specs.ExportTablesView.{export_data_in}
use Rattle.types_declared.proofs.WrittenTypes.{export_by_path}
use Rattle.types_declared.proofs.written.export_of_import.Goals as goal

pub returns-in-None : goal.returns-in-None
returns-in-None c = λ e h. c.in-None.ensures h.path h.imports

pub returns-in-Some : goal.returns-in-Some
returns-in-Some c =
    export_by_path (package_of c.args.pkg) c.args.d c.args.file c.args.name c.in-Some.path.now c.export.result c.in-Some.ensures.0 c.in-Some.ensures.1
    (c.export.ensures ∙ ap (export_data_in c.args.pkg.export_table.now c.in-Some.path.now).exported c.spelling.ensures)
