-- The answers to the goals of `definitions::definitions`.
use Rattle.types_declared.specs.PackageView.{package_of}
use Rattle.types_check.proofs.Building.{have_definitions}
use Rattle.types_check.proofs.definitions.definitions.Goals as goal

pub returns : goal.returns
returns c = have_definitions (package_of c.args.pkg) c.add_methods.new.definitions.items c.in_ok-add_methods.ensures
