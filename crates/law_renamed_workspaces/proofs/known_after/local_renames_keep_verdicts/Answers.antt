-- The answer to the goal of `known::local_renames_keep_verdicts`.
use Rattle.law_renamed_workspaces.proofs.KnownVerdicts.{keep_known, keep_verdicts}
use Rattle.law_renamed_workspaces.proofs.known_after.local_renames_keep_verdicts.Goals as goal

pub returns : goal.returns
returns c = λ have. keep_verdicts (keep_known have)
