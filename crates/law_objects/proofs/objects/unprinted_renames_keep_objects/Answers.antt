-- The answer to the goal of `objects::unprinted_renames_keep_objects`.
use Rattle.law_objects.proofs.Laws.{unprinted}
use Rattle.law_objects.proofs.objects.unprinted_renames_keep_objects.Goals as goal

pub returns : goal.returns
returns c = unprinted
