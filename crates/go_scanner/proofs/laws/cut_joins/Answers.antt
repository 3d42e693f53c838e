-- The answers to the goals of `laws::cut_joins`.
use Rattle.go_scanner.proofs.OneCutLemmas.{cut_joins}
use Rattle.go_scanner.proofs.laws.cut_joins.Goals as goal

pub returns : goal.returns
returns c = cut_joins
