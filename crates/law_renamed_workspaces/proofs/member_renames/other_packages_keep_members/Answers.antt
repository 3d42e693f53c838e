-- The answer to the goal of `member_renames::other_packages_keep_members`.
use Rattle.law_renamed_workspaces.proofs.OthersStay.{outside}
use Rattle.law_renamed_workspaces.proofs.member_renames.other_packages_keep_members.Goals as goal

pub returns : goal.returns
returns c = outside
