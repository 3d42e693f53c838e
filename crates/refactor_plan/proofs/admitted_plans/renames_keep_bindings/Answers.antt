-- The answers to the goals of `admitted_plans::renames_keep_bindings`.
use Rattle.refactor_plan.proofs.Renaming.{renames_keep}
use Rattle.refactor_plan.proofs.admitted_plans.renames_keep_bindings.Goals as goal

pub returns : goal.returns
returns c = renames_keep
