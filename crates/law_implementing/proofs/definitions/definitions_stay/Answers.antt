-- The answers to the goals of `definitions::definitions_stay`.
use Rattle.law_implementing.proofs.EditedDefinitions.{edited_definitions}
use Rattle.law_implementing.proofs.TypesBecome.{types_become}
use Rattle.law_implementing.proofs.definitions.definitions_stay.Goals as goal

pub returns-clause-after : goal.returns-clause-after
returns-clause-after c = edited_definitions

pub returns-clause-types : goal.returns-clause-types
returns-clause-types c = types_become
