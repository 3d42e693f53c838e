-- The answers to the goals of `bytes::affected_renames_name_imports`.
use Rattle.law_plans.proofs.PartPlans.{names_gained_beside}
use Rattle.law_plans.proofs.affected_bytes.affected_renames_name_imports.Goals as goal

pub returns : goal.returns
returns c = names_gained_beside
