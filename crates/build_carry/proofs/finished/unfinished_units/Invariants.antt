-- The places so far, none of which has a unit.
use Rattle.std.proofs.Common.{◌≡◌, ◌≤◌, length}
use Rattle.build_carry.specs.Finished.{HasNoUnit}
use Rattle.build_carry.proofs.finished.unfinished_units.Given as goal

abbrev pub invariant-loop-number : goal.invariant-loop-number
invariant-loop-number l = record { size : length l.all ≡ l._number; least : l._number ≤ l.count; none : HasNoUnit l.all }
