-- The answers to the goals of `scopes::own_renames_are_renames`.
use Rattle.law_renamed_workspaces.proofs.OwnNames.{own_renames}
use Rattle.law_renamed_workspaces.proofs.scopes.own_renames_are_renames.Goals as goal

pub returns : goal.returns
returns c = own_renames
