-- The invariants of the loops of `strings::parts_end`.
use Rattle.std.proofs.Common.{◌-◌, length}
use Rattle.go_scanner.proofs.StringLemmas.{StringSoFar}
use Rattle.go_scanner.proofs.strings.parts_end.Given as goal

abbrev pub invariant-loop-n : goal.invariant-loop-n
invariant-loop-n l = StringSoFar l.bytes l.n

abbrev pub decreases-loop-n : goal.decreases-loop-n
decreases-loop-n l = length l.bytes - l.n
