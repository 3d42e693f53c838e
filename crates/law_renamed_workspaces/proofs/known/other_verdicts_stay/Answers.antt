-- The answer to the goal of `known::other_verdicts_stay`.
use Rattle.law_renamed_workspaces.proofs.KnownVerdictsLaws.{others}
use Rattle.law_renamed_workspaces.proofs.known.other_verdicts_stay.Goals as goal

pub returns : goal.returns
returns c = others
