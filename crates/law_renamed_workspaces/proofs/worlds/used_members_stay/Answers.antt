-- The answer to the goal of `worlds::used_members_stay`.
use Rattle.law_renamed_workspaces.proofs.StayingMembers.{used_members_stay as stay}
use Rattle.law_renamed_workspaces.proofs.worlds.used_members_stay.Goals as goal

pub returns : goal.returns
returns c = stay
