-- The answer to the goal of `objects::gained_names_keep_objects`.
use Rattle.law_objects.proofs.ObjectsAfter.{gained_names_keep_objects}
use Rattle.law_objects.proofs.gained_objects.gained_names_keep_objects.Goals as goal

pub returns : goal.returns
returns c = gained_names_keep_objects
