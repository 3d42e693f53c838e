-- The answer to the goal of `gained::named_import_is_in_the_package`.
use Rattle.law_rename.proofs.Packages.{package_gains}
use Rattle.law_rename.proofs.gained.named_import_is_in_the_package.Goals as goal

pub returns : goal.returns
returns c = package_gains
