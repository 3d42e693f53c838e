-- The answer to the goal of `units::unprinted_renames_keep_units`.
use Rattle.law_objects.proofs.UnitsStay.{units_stay}
use Rattle.law_objects.proofs.units.unprinted_renames_keep_units.Goals as goal

pub returns : goal.returns
returns c = units_stay
