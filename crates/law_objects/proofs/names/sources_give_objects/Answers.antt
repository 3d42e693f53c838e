-- The answer to the goal of `names::sources_give_objects`.
use Rattle.law_objects.proofs.DeclarationsBy.{object_with}
use Rattle.law_objects.proofs.names.sources_give_objects.Goals as goal

pub returns : goal.returns
returns c = object_with
