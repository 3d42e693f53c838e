-- The answers to the goals of `declaration_at_byte::declaration_in`.
use Rattle.types_declared.specs.PackageView.{package_of}
use Rattle.refs_binding.proofs.PackageReaders.{package_read}
use Rattle.refs_lookup.proofs.declaration_at_byte.declaration_in.Goals as goal

pub declaration_by-requires-clause-unit : goal.declaration_by-requires-clause-unit
declaration_by-requires-clause-unit c =
    package_read c.args.at c.in_ok-reader.reader (package_of c.unit.result) c.in_ok-reader.ensures.at c.unit.ensures
