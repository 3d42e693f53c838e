-- The answer to the goal of `local_renames::numbers_follow_places`.
use Rattle.law_renamed_workspaces.proofs.NumbersInOrder.{numbers_follow}
use Rattle.law_renamed_workspaces.proofs.local_renames.numbers_follow_places.Goals as goal

pub returns : goal.returns
returns c = numbers_follow
