-- The answers to the goals of `units::global_renames_carry_units`.
use Rattle.law_objects.proofs.Globals.{globals_carried}
use Rattle.law_objects.proofs.kept_units.global_renames_carry_units.Goals as goal

pub returns : goal.returns
returns c = globals_carried
