-- The answer to the goal of `objects::method_renames_replace_names`.
use Rattle.law_objects.proofs.Laws.{methods}
use Rattle.law_objects.proofs.objects.method_renames_replace_names.Goals as goal

pub returns : goal.returns
returns c = methods
