-- The answer to the goal of `objects::planned_renames_rename_objects`.
use Rattle.refactor_units.proofs.PlannedObjects.{planned_objects}
use Rattle.refactor_units.proofs.objects.planned_renames_rename_objects.Goals as goal

pub returns : goal.returns
returns c = planned_objects
