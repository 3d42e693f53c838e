-- The answers to the goals of `uniqueness::has_one_world`.
use Rattle.types_declared.specs.PackageView.{package_of}
use Rattle.types_info.proofs.OneWorld.{has_one_world}
use Rattle.types_info.proofs.uniqueness.has_one_world.Goals as goal

pub returns : goal.returns
returns c = has_one_world (package_of c.args.pkg) c.is_well_formed.ensures c.are_in_order.ensures
