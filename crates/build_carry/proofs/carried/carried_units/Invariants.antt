-- The units of the packages that were passed.
use Rattle.build_carry.proofs.Carrying.{AreKept}
use Rattle.build_carry.proofs.carried.carried_units.Given as goal

abbrev pub invariant-loop-number : goal.invariant-loop-number
invariant-loop-number l = AreKept l.before l.finished l.after l.number l.units
