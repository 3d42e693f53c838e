-- The answer to the goal of `kept_members::users_reach_members`.
use Rattle.law_renamed_workspaces.proofs.UsersReach.{users_reach}
use Rattle.law_renamed_workspaces.proofs.kept_members.users_reach_members.Goals as goal

pub returns : goal.returns
returns c = users_reach
