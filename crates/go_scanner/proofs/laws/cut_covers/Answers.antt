-- The answers to the goals of `laws::cut_covers`.
use Rattle.go_scanner.proofs.SpanLemmas.{cut_covers}
use Rattle.go_scanner.proofs.laws.cut_covers.Goals as goal

pub returns : goal.returns
returns c = cut_covers
