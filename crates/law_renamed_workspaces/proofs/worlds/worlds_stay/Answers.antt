-- The answer to the goal of `worlds::worlds_stay`.
use Rattle.law_renamed_workspaces.proofs.WorldsAlike.{worlds_stay as stay}
use Rattle.law_renamed_workspaces.proofs.worlds.worlds_stay.Goals as goal

pub returns : goal.returns
returns c = stay
