-- The answers to the goals of `units::local_renames_carry_units`.
use Rattle.law_objects.proofs.Carried.{local_carried}
use Rattle.law_objects.proofs.kept_units.local_renames_carry_units.Goals as goal

pub returns : goal.returns
returns c = local_carried
