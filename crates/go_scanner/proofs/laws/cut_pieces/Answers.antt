-- The answers to the goals of `laws::cut_pieces`.
use Rattle.go_scanner.proofs.SpanLemmas.{cut_pieces}
use Rattle.go_scanner.proofs.laws.cut_pieces.Goals as goal

pub returns : goal.returns
returns c = cut_pieces
