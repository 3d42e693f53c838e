-- The answers to the goals of `laws::stands_before`.
use Rattle.go_scanner.proofs.ContextLemmas.{stands_before}
use Rattle.go_scanner.proofs.laws.stands_before.Goals as goal

pub returns : goal.returns
returns c = stands_before
