-- The answer to the goal of `replays::replays_are_unique`.
use Rattle.law_history.proofs.Runs.{replays_are_unique}
use Rattle.law_history.proofs.replays.replays_are_unique.Goals as goal

pub returns : goal.returns
returns c = replays_are_unique
