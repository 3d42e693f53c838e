-- The answer to the goal of `worlds::scope_renames_are_harmless`.
use Rattle.law_renamed_workspaces.proofs.Harmless.{scopes_harmless}
use Rattle.law_renamed_workspaces.proofs.worlds.scope_renames_are_harmless.Goals as goal

pub returns : goal.returns
returns c = scopes_harmless
