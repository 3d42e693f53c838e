-- The answers to the goals of `laws::renames_keep_other_bytes`.
use Rattle.refactor_plan.proofs.Keeping.{renames_keep}
use Rattle.refactor_plan.proofs.laws.renames_keep_other_bytes.Goals as goal

pub returns : goal.returns
returns c = renames_keep
