-- The answers to the goals of `workspace_uses::add_package_uses`.
use Rattle.types_declared.specs.PackageView.{package_of}
use Rattle.refs_binding.proofs.PackageReaders.{package_read}
use Rattle.refs_uses.proofs.workspace_uses.add_package_uses.Goals as goal

pub add_uses_by-requires-clause-unit : goal.add_uses_by-requires-clause-unit
add_uses_by-requires-clause-unit c =
    package_read c.args.at c.in_ok-reader.reader (package_of c.unit.result) c.in_ok-reader.ensures.at c.unit.ensures
