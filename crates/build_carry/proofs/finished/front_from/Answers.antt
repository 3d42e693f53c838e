-- One finished package more.
use Rattle.std.proofs.Common.{arith}
use Rattle.build_carry.proofs.FinishedUnits.{finished_more}
use Rattle.build_carry.proofs.finished.front_from.Goals as goal

pub loop-number-init : goal.loop-number-init
loop-number-init c = record { least = omega arith; below = c.requires }

pub loop-number-preserved : goal.loop-number-preserved
loop-number-preserved c = record {
  least = omega (arith, c.loop-number.invariant.least);
  below = finished_more c.args.units.now c.loop-number.number c.in-Some.field-0.now c.in-Some.ensures c.loop-number.invariant.below;
}

pub returns-in_default : goal.returns-in_default
returns-in_default c = c.loop-number.invariant.below

pub returns : goal.returns
returns c = λ i lt. c.loop-number.invariant.below i
    (omega (arith, lt, c.max.ensures, c.len.ensures, c.loop-number-test.false, c.loop-number.invariant.least))
