-- Each package that was passed is finished, and those before.
use Rattle.std.proofs.Common.{◌≤◌}
use Rattle.build_carry.specs.Finished.{AreFinishedBelow}
use Rattle.build_carry.proofs.finished.front_from.Given as goal

abbrev pub invariant-loop-number : goal.invariant-loop-number
invariant-loop-number l = record { least : l.least ≤ l.number; below : AreFinishedBelow l.units l.number }
