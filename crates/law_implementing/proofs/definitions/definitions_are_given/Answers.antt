-- The answer to the goal of `definitions::definitions_are_given`.
use Rattle.law_implementing.proofs.AllDefinitions.{definitions_given}
use Rattle.law_implementing.proofs.definitions.definitions_are_given.Goals as goal

pub returns : goal.returns
returns c = definitions_given
