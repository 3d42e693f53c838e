-- The answers to the goals of `scopes::packages_are_bound_alike`.
use Rattle.law_renamed_workspaces.proofs.BoundAlike.{packages_alike}
use Rattle.law_renamed_workspaces.proofs.scopes.packages_are_bound_alike.Goals as goal

pub returns : goal.returns
returns c = packages_alike
