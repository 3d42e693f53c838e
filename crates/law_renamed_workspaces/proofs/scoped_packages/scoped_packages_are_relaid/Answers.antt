-- The answer to the goal of `scoped_packages::scoped_packages_are_relaid`.
use Rattle.law_renamed_workspaces.proofs.ScopedAfter.{scoped_relaid}
use Rattle.law_renamed_workspaces.proofs.scoped_packages.scoped_packages_are_relaid.Goals as goal

pub returns : goal.returns
returns c = scoped_relaid
