-- The answer to the goal of `scoped_packages::packages_are_there`.
use Rattle.law_renamed_workspaces.proofs.There.{packages_there}
use Rattle.law_renamed_workspaces.proofs.scoped_packages.packages_are_there.Goals as goal

pub returns : goal.returns
returns c = packages_there
