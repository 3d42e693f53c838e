-- The answer to the goal of `member_renames::unexported_names_stay_at_home`.
use Rattle.law_renamed_workspaces.proofs.OthersStay.{hidden}
use Rattle.law_renamed_workspaces.proofs.member_renames.unexported_names_stay_at_home.Goals as goal

pub returns : goal.returns
returns c = hidden
