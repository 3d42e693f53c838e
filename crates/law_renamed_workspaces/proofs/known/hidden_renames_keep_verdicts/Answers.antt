-- The answer to the goal of `known::hidden_renames_keep_verdicts`.
use Rattle.law_renamed_workspaces.proofs.KnownVerdictsLaws.{hidden}
use Rattle.law_renamed_workspaces.proofs.known.hidden_renames_keep_verdicts.Goals as goal

pub returns : goal.returns
returns c = hidden
