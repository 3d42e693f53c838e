-- The answers to the goals of `part_plans::renames_are_planned_in_part`.
use Rattle.law_plans.proofs.PlannedInPart.{renames_in_part}
use Rattle.law_plans.proofs.part_plans.renames_are_planned_in_part.Goals as goal

pub returns : goal.returns
returns c = renames_in_part
