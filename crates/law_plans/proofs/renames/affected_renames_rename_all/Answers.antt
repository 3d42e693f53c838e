-- The answers to the goals of `renames::affected_renames_rename_all`.
use Rattle.law_plans.proofs.WholeRenames.{renames_all}
use Rattle.law_plans.proofs.renames.affected_renames_rename_all.Goals as goal

pub returns : goal.returns
returns c = renames_all
