-- The answers to the goals of `renumbered_types::names_renumber`.
use Rattle.law_changed_types.proofs.RenumberedTypesLaws.{names_renumber}
use Rattle.law_changed_types.proofs.renumbered_types.names_renumber.Goals as goal

pub returns : goal.returns
returns c = names_renumber
