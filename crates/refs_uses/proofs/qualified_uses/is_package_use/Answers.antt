-- The answers to the goals of `qualified_uses::is_package_use`.
use Rattle.types_declared.specs.PackageView.{package_of}
use Rattle.types_info.specs.QualifiedIdentifiers.{IsQualifiedByPath}
use Rattle.types_info.proofs.NamesBefore.{path_is}
use Rattle.refs_uses.proofs.qualified_uses.is_package_use.Goals as goal

pub returns-then-has_name : goal.returns-then-has_name
returns-then-has_name c =
    let same = path_is (IsQualifiedByPath (package_of c.args.unit) c.args.u) c.qualifying_path.result c.args.path.now c.qualifying_path.ensures in
    ((λ t. (same.0 (c.is_path.ensures.0 t), c.has_name.ensures.0 c.if-has_name.true)), (λ h. c.is_path.ensures.1 (same.1 h.0)))
