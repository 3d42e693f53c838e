-- The answers to the goals of `exporting::add_export`.
use Rattle.std.proofs.Common.{subst, ◌∙◌}
use Rattle.std.specs.Prelude.{option_map}
use Rattle.types_declared.specs.ExportTablesView.{export_of, exports_at}
use Rattle.types_check.specs.Exports.{IsExportFound}
use Rattle.types_declared.specs.PackageView.{package_of}
use Rattle.types_check.proofs.ExportParts.{one_more_export, same_exports}
use Rattle.types_check.proofs.exporting.add_export.Goals as goal

pub returns-in_ok-insert-in-Some : goal.returns-in_ok-insert-in-Some
returns-in_ok-insert-in-Some c =
    one_more_export (package_of c.args.pkg) c.args.d c.args.found.now c.insert.new.self c.in_ok-name-in-Some.name c.in-Some.export
    (c.in_ok-name-in-Some.ensures.items ∙ c.name.ensures) c.in_ok-insert-in-Some.ensures.updates
    (subst (λ o. IsExportFound (package_of c.args.pkg) c.args.d (option_map export_of o)) c.in-Some.is c.in_ok-export.ensures)

pub returns-in-None : goal.returns-in-None
returns-in-None c =
    same_exports (package_of c.args.pkg) c.args.d (exports_at c.args.found.now)
    (subst (λ o. IsExportFound (package_of c.args.pkg) c.args.d (option_map export_of o)) c.in-None.is c.in_ok-export.ensures)
