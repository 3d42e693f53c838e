-- The answer to the goal of `known::export_data_stay`.
use Rattle.law_renamed_workspaces.proofs.KnownVerdicts.{data_stay}
use Rattle.law_renamed_workspaces.proofs.known_after.export_data_stay.Goals as goal

pub returns : goal.returns
returns c = data_stay
