-- The table is laid over by what the package sees.
use Rattle.refs_binding.proofs.package_reader.PackageReader.table.Goals as goal

pub read_table-requires : goal.read_table-requires
read_table-requires c = record { in_range = c.requires.numbered.in_range; seen = c.requires.seen }
