-- The answers to the goals of `renumbered_types::broken_renumber`.
use Rattle.law_changed_types.proofs.RenumberedTypesLaws.{broken_renumber}
use Rattle.law_changed_types.proofs.renumbered_types.broken_renumber.Goals as goal

pub returns : goal.returns
returns c = broken_renumber
