-- The answer to the goal of `replays::entries_tell_steps`.
use Rattle.law_history.proofs.Effects.{entries_tell_steps}
use Rattle.law_history.proofs.replays.entries_tell_steps.Goals as goal

pub returns : goal.returns
returns c = entries_tell_steps
