-- The invariants of the loops of `words::name_run`.
use Rattle.std.proofs.Common.{◌-◌, length}
use Rattle.go_scanner.specs.Words.{NameRunSoFar}
use Rattle.go_scanner.proofs.words.name_run.Given as goal

abbrev pub invariant-loop-n : goal.invariant-loop-n
invariant-loop-n l = NameRunSoFar l.bytes l.n

abbrev pub decreases-loop-n : goal.decreases-loop-n
decreases-loop-n l = length l.bytes - l.n
