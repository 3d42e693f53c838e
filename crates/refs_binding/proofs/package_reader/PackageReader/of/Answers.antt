-- The reader has the export data that the package sees.
use Rattle.refs_binding.proofs.package_reader.PackageReader.of.Goals as goal

pub seen_by-requires : goal.seen_by-requires
seen_by-requires c = c.requires.in_range

pub returns-clause-reader : goal.returns-clause-reader
returns-clause-reader c = record { numbered = c.requires; seen = c.in_ok-seen.ensures }
