-- The answers to the goals of `built::Built::is_right`.
use Rattle.std.proofs.Common.{subst}
use Rattle.build_unit.specs.BuiltUnits.{BuiltUnit}
use Rattle.build_unit.specs.Units.{IsUnitIn}
use Rattle.build_unit.proofs.built.Built.is_right.Goals as goal

pub returns : goal.returns
returns c = subst (λ (b : BuiltUnit). IsUnitIn b.inputs b.package b.unit) c.self.view_is c.self.invariant.0
