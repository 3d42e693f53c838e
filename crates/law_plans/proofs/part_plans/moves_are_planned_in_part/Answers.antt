-- The answers to the goals of `part_plans::moves_are_planned_in_part`.
use Rattle.law_plans.proofs.PlannedInPart.{moves_in_part}
use Rattle.law_plans.proofs.part_plans.moves_are_planned_in_part.Goals as goal

pub returns : goal.returns
returns c = moves_in_part
