-- The answers to the goals of `renumbered_types::definitions_renumber`.
use Rattle.law_changed_types.proofs.RenumberedTypesLaws.{definitions_renumber}
use Rattle.law_changed_types.proofs.renumbered_types.definitions_renumber.Goals as goal

pub returns : goal.returns
returns c = definitions_renumber
