-- The answer to the goal of `obstacles::scope_renames_turn_none`.
use Rattle.law_implementing.proofs.Deciding.{scope_renames_turn_none}
use Rattle.law_implementing.proofs.obstacles.scope_renames_turn_none.Goals as goal

pub returns : goal.returns
returns c = scope_renames_turn_none
