-- The answers to the goals of `laws::units_are_local`.
use Rattle.build_unit.proofs.Locality.{local_unit}
use Rattle.build_unit.proofs.laws.units_are_local.Goals as goal

pub returns : goal.returns
returns c = λ w x p unit has same u. local_unit w x p unit has same u
