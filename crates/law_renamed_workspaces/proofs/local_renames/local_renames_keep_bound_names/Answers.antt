-- The answer to the goal of `local_renames::local_renames_keep_bound_names`.
use Rattle.law_renamed_workspaces.proofs.KeptBound.{names_bound}
use Rattle.law_renamed_workspaces.proofs.local_renames.local_renames_keep_bound_names.Goals as goal

pub returns : goal.returns
returns c = names_bound
