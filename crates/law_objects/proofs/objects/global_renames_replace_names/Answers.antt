-- The answer to the goal of `objects::global_renames_replace_names`.
use Rattle.law_objects.proofs.Laws.{globals}
use Rattle.law_objects.proofs.objects.global_renames_replace_names.Goals as goal

pub returns : goal.returns
returns c = globals
