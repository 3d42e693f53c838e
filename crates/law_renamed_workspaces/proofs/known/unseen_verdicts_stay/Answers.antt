-- The answer to the goal of `known::unseen_verdicts_stay`.
use Rattle.law_renamed_workspaces.proofs.KnownVerdictsLaws.{unseen_verdicts}
use Rattle.law_renamed_workspaces.proofs.known.unseen_verdicts_stay.Goals as goal

pub returns : goal.returns
returns c = unseen_verdicts
