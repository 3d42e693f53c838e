-- The answer to the goal of `known::unseen_data_stay`.
use Rattle.law_renamed_workspaces.proofs.KnownVerdictsLaws.{unseen_data}
use Rattle.law_renamed_workspaces.proofs.known.unseen_data_stay.Goals as goal

pub returns : goal.returns
returns c = unseen_data
