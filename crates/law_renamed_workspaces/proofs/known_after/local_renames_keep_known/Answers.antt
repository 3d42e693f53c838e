-- The answer to the goal of `known::local_renames_keep_known`.
use Rattle.law_renamed_workspaces.proofs.KnownVerdicts.{keep_known}
use Rattle.law_renamed_workspaces.proofs.known_after.local_renames_keep_known.Goals as goal

pub returns : goal.returns
returns c = keep_known
