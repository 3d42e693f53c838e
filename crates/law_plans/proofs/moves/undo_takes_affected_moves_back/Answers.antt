-- The answers to the goals of `moves::undo_takes_affected_moves_back`.
use Rattle.law_plans.proofs.MovedSound.{undo_takes_affected_back}
use Rattle.law_plans.proofs.moves.undo_takes_affected_moves_back.Goals as goal

pub returns : goal.returns
returns c = undo_takes_affected_back
