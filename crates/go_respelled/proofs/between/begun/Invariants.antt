-- The number lies between two.
use Rattle.std.proofs.Common.{◌-◌, ◌≤◌, length}
use Rattle.go_respelled.proofs.between.begun.Given as goal

abbrev pub invariant-loop-low : goal.invariant-loop-low
invariant-loop-low l = record { order : l.low ≤ l.high; within : l.high ≤ length l.tokens }

abbrev pub decreases-loop-low : goal.decreases-loop-low
decreases-loop-low l = l.high - l.low
