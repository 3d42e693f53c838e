-- The answers to the goals of `local_renames::local_renames_keep_names`.
use Rattle.law_renamed_workspaces.proofs.LocalRenamesKeptNames.{own_scopes_bind, names_stay}
use Rattle.law_renamed_workspaces.proofs.local_renames.local_renames_keep_names.Goals as goal

pub returns : goal.returns
returns c = record { bind = own_scopes_bind; names = names_stay }
