-- The answers to the goals of `laws::one_cut`.
use Rattle.go_scanner.proofs.OneCutLemmas.{one_cut}
use Rattle.go_scanner.proofs.laws.one_cut.Goals as goal

pub returns : goal.returns
returns c = one_cut
