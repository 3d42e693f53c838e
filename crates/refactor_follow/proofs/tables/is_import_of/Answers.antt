-- The answers to the goals of `tables::is_import_of`.
use Rattle.std.proofs.Common.{ap, sym, ◌∙◌}
use Rattle.types_declared.specs.PackageView.{package_of}
use Rattle.types_declared.specs.Written.{DeclaresImport}
use Rattle.types_info.proofs.NamesBefore.{path_is}
use Rattle.refactor_follow.proofs.tables.is_import_of.Goals as goal

pub returns-then-literal_of-d : goal.returns-then-literal_of-d
returns-then-literal_of-d c =
    let path = c.args.path.now in
    let same = path_is (DeclaresImport (package_of c.args.unit) c.args.d) c.path.result path c.path.ensures in (
      (λ t. (sym c.literal_of.ensures.literal ∙ c.if-literal_of-d.true, same.0 (c.is_path.ensures.0 t))),
      (λ h. c.is_path.ensures.1 (same.1 h.1)),
    )
