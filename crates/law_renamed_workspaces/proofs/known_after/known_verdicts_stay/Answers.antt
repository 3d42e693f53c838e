-- The answer to the goal of `known::known_verdicts_stay`.
use Rattle.law_renamed_workspaces.proofs.KnownVerdicts.{verdicts_stay}
use Rattle.law_renamed_workspaces.proofs.known_after.known_verdicts_stay.Goals as goal

pub returns : goal.returns
returns c = verdicts_stay
