-- The answers to the goals of `objects::affected_renames_rename_objects`.
use Rattle.law_plans.proofs.SoundObjects.{sound_objects}
use Rattle.law_plans.proofs.objects.affected_renames_rename_objects.Goals as goal

pub returns : goal.returns
returns c = sound_objects
