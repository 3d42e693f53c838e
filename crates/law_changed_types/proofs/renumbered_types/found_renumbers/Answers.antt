-- The answers to the goals of `renumbered_types::found_renumbers`.
use Rattle.law_changed_types.proofs.RenumberedTypesLaws.{found_renumbers}
use Rattle.law_changed_types.proofs.renumbered_types.found_renumbers.Goals as goal

pub returns : goal.returns
returns c = found_renumbers
