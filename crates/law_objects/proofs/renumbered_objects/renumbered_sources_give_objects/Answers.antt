-- The answer to the goal of `objects::renumbered_sources_give_objects`.
use Rattle.law_objects.proofs.Declarations.{objects_renumber}
use Rattle.law_objects.proofs.renumbered_objects.renumbered_sources_give_objects.Goals as goal

pub returns : goal.returns
returns c = objects_renumber
