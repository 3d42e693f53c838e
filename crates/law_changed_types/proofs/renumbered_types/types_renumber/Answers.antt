-- The answers to the goals of `renumbered_types::types_renumber`.
use Rattle.law_changed_types.proofs.RenumberedTypesLaws.{types_renumber}
use Rattle.law_changed_types.proofs.renumbered_types.types_renumber.Goals as goal

pub returns : goal.returns
returns c = types_renumber
