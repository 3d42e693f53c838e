-- The answer to the goal of `renamed_sets::others_are_alone`.
use Rattle.law_implementing.proofs.Sets.{others_are_alone}
use Rattle.law_implementing.proofs.renamed_sets.others_are_alone.Goals as goal

pub returns : goal.returns
returns c = others_are_alone
