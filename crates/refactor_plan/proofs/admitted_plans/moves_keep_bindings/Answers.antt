-- The answers to the goals of `admitted_plans::moves_keep_bindings`.
use Rattle.refactor_plan.proofs.Moving.{moves_keep}
use Rattle.refactor_plan.proofs.admitted_plans.moves_keep_bindings.Goals as goal

pub returns : goal.returns
returns c = moves_keep
