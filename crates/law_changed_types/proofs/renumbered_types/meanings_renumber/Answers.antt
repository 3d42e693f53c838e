-- The answers to the goals of `renumbered_types::meanings_renumber`.
use Rattle.law_changed_types.proofs.RenumberedTypesLaws.{meanings_renumber}
use Rattle.law_changed_types.proofs.renumbered_types.meanings_renumber.Goals as goal

pub returns : goal.returns
returns c = meanings_renumber
