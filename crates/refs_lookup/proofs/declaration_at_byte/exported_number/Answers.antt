-- The answers to the goals of `declaration_at_byte::exported_number`.
use Rattle.types_declared.specs.PackageView.{package_of}
use Rattle.refs_binding.proofs.PackageReaders.{package_read}
use Rattle.refs_lookup.proofs.declaration_at_byte.exported_number.Goals as goal

pub returns : goal.returns
returns c =
    let p = package_of c.unit.result in
    (p, (package_read c.args.at c.in_ok-reader.reader p c.in_ok-reader.ensures.at c.unit.ensures, c.exported_as.ensures))
