-- The answers to the goals of `exporting::export_data`.
use Rattle.std.proofs.Common.{refl}
use Rattle.types_declared.specs.ExportTablesView.{exports_at}
use Rattle.types_declared.specs.PackageView.{package_of}
use Rattle.types_check.proofs.ExportParts.{all_exports, all_definitions, beyond_definitions}
use Rattle.types_check.proofs.exporting.export_data.Goals as goal

pub returns : goal.returns
returns c = record {
  name = c.in_ok-name.ensures;
  exported = all_exports (package_of c.args.pkg) c.args.pkg.table.now.sites (exports_at c.in_ok-exported.exported) refl c.in_ok-exported.ensures;
  definitions = all_definitions (package_of c.args.pkg) c.args.definitions.items c.requires.definitions;
  beyond = beyond_definitions (package_of c.args.pkg) c.args.definitions.items c.requires.definitions;
}
