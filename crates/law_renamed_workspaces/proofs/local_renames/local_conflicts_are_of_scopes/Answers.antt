-- The answer to the goal of `local_renames::local_conflicts_are_of_scopes`.
use Rattle.law_renamed_workspaces.proofs.OwnConflicts.{of_scopes}
use Rattle.law_renamed_workspaces.proofs.local_renames.local_conflicts_are_of_scopes.Goals as goal

pub returns : goal.returns
returns c = of_scopes
