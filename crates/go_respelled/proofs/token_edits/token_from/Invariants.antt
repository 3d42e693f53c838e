-- No token is passed twice.
use Rattle.std.proofs.Common.{◌-◌, ◌≤◌, length}
use Rattle.go_respelled.proofs.token_edits.token_from.Given as goal

abbrev pub invariant-loop-from : goal.invariant-loop-from
invariant-loop-from l = l.number ≤ l.from

abbrev pub decreases-loop-from : goal.decreases-loop-from
decreases-loop-from l = length l.tokens - l.from
