-- The answers to the goals of `laws::one_fault`.
use Rattle.go_scanner.proofs.OneFaultLemmas.{one_fault}
use Rattle.go_scanner.proofs.laws.one_fault.Goals as goal

pub returns : goal.returns
returns c = one_fault
