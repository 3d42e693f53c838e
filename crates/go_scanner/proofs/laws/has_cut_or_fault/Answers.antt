-- The answers to the goals of `laws::has_cut_or_fault`.
use Rattle.go_scanner.proofs.ExistsLemmas.{has_cut_or_fault}
use Rattle.go_scanner.proofs.laws.has_cut_or_fault.Goals as goal

pub returns : goal.returns
returns c = has_cut_or_fault
