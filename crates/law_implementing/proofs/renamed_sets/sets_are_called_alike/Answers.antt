-- The answer to the goal of `renamed_sets::sets_are_called_alike`.
use Rattle.law_implementing.proofs.Sets.{sets_are_called_alike}
use Rattle.law_implementing.proofs.renamed_sets.sets_are_called_alike.Goals as goal

pub returns : goal.returns
returns c = sets_are_called_alike
