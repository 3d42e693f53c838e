-- The answers to the goals of `set_uses::add_names_read`.
use Rattle.types_declared.specs.PackageView.{package_of}
use Rattle.refs_binding.proofs.PackageReaders.{package_read}
use Rattle.refs_uses.proofs.set_uses.add_names_read.Goals as goal

pub add_names_by-requires : goal.add_names_by-requires
add_names_by-requires c =
    package_read c.args.at c.in_ok-reader.reader (package_of c.unit.result) c.in_ok-reader.ensures.at c.unit.ensures
