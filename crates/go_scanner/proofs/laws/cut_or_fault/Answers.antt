-- The answers to the goals of `laws::cut_or_fault`.
use Rattle.go_scanner.proofs.OneCutLemmas.{cut_or_fault}
use Rattle.go_scanner.proofs.laws.cut_or_fault.Goals as goal

pub returns : goal.returns
returns c = cut_or_fault
