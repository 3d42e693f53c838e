-- The answer to the goal of `locked::no_wake_is_missed`.
use Rattle.server_shared.proofs.WakeLaws.{no_wake_missed}
use Rattle.server_shared.proofs.locked.no_wake_is_missed.Goals as goal

pub returns : goal.returns
returns c = no_wake_missed
