-- The package is made of the table and of what it sees.
use Rattle.refs_binding.proofs.package_reader.PackageReader.unit.Goals as goal

pub unit_of-requires : goal.unit_of-requires
unit_of-requires c = record { numbered = c.requires.reader.numbered; table = c.requires.table }
