-- The invariants of the loops of `scanner::cut`.
use Rattle.std.proofs.Common.{◌-◌, length}
use Rattle.go_scanner.proofs.ScanLemmas.{Scanned}
use Rattle.go_scanner.proofs.scanner.cut.Given as goal

abbrev pub invariant-loop-at : goal.invariant-loop-at
invariant-loop-at l = Scanned l.text l.pieces.items l.tokens.items l.due l.at

abbrev pub decreases-loop-at : goal.decreases-loop-at
decreases-loop-at l = length l.text - l.at
