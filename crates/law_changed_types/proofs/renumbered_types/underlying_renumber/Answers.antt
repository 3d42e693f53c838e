-- The answers to the goals of `renumbered_types::underlying_renumber`.
use Rattle.law_changed_types.proofs.RenumberedTypesLaws.{underlying_renumber}
use Rattle.law_changed_types.proofs.renumbered_types.underlying_renumber.Goals as goal

pub returns : goal.returns
returns c = underlying_renumber
