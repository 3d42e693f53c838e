-- The answers to the goals of `scopes::other_scopes_stay`.
use Rattle.law_renamed_workspaces.proofs.RenamedScopesRenamed.{others_stay}
use Rattle.law_renamed_workspaces.proofs.scopes.other_scopes_stay.Goals as goal

pub returns : goal.returns
returns c = others_stay
