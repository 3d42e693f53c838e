-- A reader of the package of a number, and the scope table that it lays.
use Rattle.go_scope.specs.Packages.{ScopedPackage}
use Rattle.refs_binding.specs.declared.package_reader.PackageReader.{PackageReader}
use Rattle.refs_binding.specs.Indexed.{IsPackageNumber}
use Rattle.refs_binding.specs.Packages.{IsSeenBy, IsTableAs}
use Rattle.refs_binding.specs.Workspaces.{known_in}

-- The reader has the export data that the package of its number sees of others.
pub record IsReader (reader : PackageReader) : Type 0 where
  pub numbered : IsPackageNumber reader.at
  pub seen : IsSeenBy reader.at.workspace.now.graph (known_in reader.at.workspace.now.findings) reader.at.number reader.seen

-- `table` is the table of the package that the reader reads.
abbrev pub IsTableBy : PackageReader → ScopedPackage → Type 0
IsTableBy reader table = IsTableAs reader.at.workspace.now.graph (known_in reader.at.workspace.now.findings) reader.at.number table reader.seen
