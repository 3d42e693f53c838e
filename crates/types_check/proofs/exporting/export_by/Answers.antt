-- The answers to the goals of `exporting::export_by`.
use Rattle.std.proofs.Common.{subst}
use Rattle.std.specs.Prelude.{option_map}
use Rattle.types_expr.specs.WorldView.{bound_of}
use Rattle.types_declared.specs.ExportTablesView.{export_of, meaning_of}
use Rattle.types_check.specs.Exports.{IsGlobalFound}
use Rattle.types_declared.specs.PackageView.{package_of}
use Rattle.types_check.proofs.ExportParts.{no_export, is_export}
use Rattle.types_check.proofs.exporting.export_by.Goals as goal

pub returns-in-None : goal.returns-in-None
returns-in-None c =
    no_export (package_of c.args.pkg) c.args.d (bound_of c.args.bound.now) (c.requires.one c.args.d) c.requires.means
    (subst (λ o. IsGlobalFound (bound_of c.args.bound.now) (option_map meaning_of o)) c.in-None.is c.in_ok-global_meaning.ensures)

pub returns-in-Some : goal.returns-in-Some
returns-in-Some c =
    is_export (package_of c.args.pkg) c.args.d (bound_of c.args.bound.now) (export_of (record { meaning = c.in-Some.meaning })) c.requires.seen
    c.requires.means (subst (λ o. IsGlobalFound (bound_of c.args.bound.now) (option_map meaning_of o)) c.in-Some.is c.in_ok-global_meaning.ensures)
