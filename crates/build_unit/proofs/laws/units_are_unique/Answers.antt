-- The answers to the goals of `laws::units_are_unique`.
use Rattle.build_unit.proofs.OneUnit.{one_unit}
use Rattle.build_unit.proofs.laws.units_are_unique.Goals as goal

pub returns : goal.returns
returns c = λ w p u v h k. one_unit w p u v h k
