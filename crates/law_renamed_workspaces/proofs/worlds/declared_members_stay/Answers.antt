-- The answer to the goal of `worlds::declared_members_stay`.
use Rattle.law_renamed_workspaces.proofs.StayingMembers.{declared_members_stay as stay}
use Rattle.law_renamed_workspaces.proofs.worlds.declared_members_stay.Goals as goal

pub returns : goal.returns
returns c = stay
