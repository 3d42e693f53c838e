-- The answers to the goals of `units::legible_global_renames_carry_units`.
use Rattle.law_objects.proofs.Carried.{global_carried}
use Rattle.law_objects.proofs.kept_units.legible_global_renames_carry_units.Goals as goal

pub returns : goal.returns
returns c = global_carried
