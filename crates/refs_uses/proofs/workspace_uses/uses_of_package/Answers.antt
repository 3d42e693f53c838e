-- The answers to the goals of `workspace_uses::uses_of_package`.
use Rattle.types_declared.specs.PackageView.{package_of}
use Rattle.refs_binding.proofs.PackageReaders.{package_read}
use Rattle.refs_uses.proofs.workspace_uses.uses_of_package.Goals as goal

pub uses_by-requires-clause-unit : goal.uses_by-requires-clause-unit
uses_by-requires-clause-unit c =
    package_read c.args.at c.in_ok-reader.reader (package_of c.unit.result) c.in_ok-reader.ensures.at c.unit.ensures
