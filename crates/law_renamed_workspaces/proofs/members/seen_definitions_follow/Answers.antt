-- The answer to the goal of `members::seen_definitions_follow`.
use Rattle.law_renamed_workspaces.proofs.SeenAfter.{seen_follow}
use Rattle.law_renamed_workspaces.proofs.members.seen_definitions_follow.Goals as goal

pub returns : goal.returns
returns c = seen_follow
