-- The tables are those of the packages.
use Rattle.refs_binding.proofs.packages.Packages.of.Goals as goal

pub returns-clause-read : goal.returns-clause-read
returns-clause-read c = record { seen = c.requires; tables = c.in_ok-tables.ensures }
