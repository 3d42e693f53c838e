-- The answer to the goal of `bytes::renames_name_imports`.
use Rattle.law_plans.proofs.ImportNames.{names_are_gained}
use Rattle.law_plans.proofs.bytes.renames_name_imports.Goals as goal

pub returns : goal.returns
returns c = names_are_gained
