-- The answer to the goal of `objects::unnamed_renames_keep_objects`.
use Rattle.law_objects.proofs.GainedObjectsLaws.{unnamed_renames_keep_objects}
use Rattle.law_objects.proofs.gained_objects.unnamed_renames_keep_objects.Goals as goal

pub returns : goal.returns
returns c = unnamed_renames_keep_objects
