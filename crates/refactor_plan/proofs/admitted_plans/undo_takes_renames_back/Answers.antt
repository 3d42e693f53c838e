-- The answers to the goals of `admitted_plans::undo_takes_renames_back`.
use Rattle.refactor_plan.proofs.Renaming.{undo_takes_back}
use Rattle.refactor_plan.proofs.admitted_plans.undo_takes_renames_back.Goals as goal

pub returns : goal.returns
returns c = undo_takes_back
