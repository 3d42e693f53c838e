-- The answers to the goals of `renames::undo_takes_affected_renames_back`.
use Rattle.law_plans.proofs.RenamedSound.{undo_takes_affected_back}
use Rattle.law_plans.proofs.renames.undo_takes_affected_renames_back.Goals as goal

pub returns : goal.returns
returns c = undo_takes_affected_back
