-- The answers to the goals of `laws::cut_tokens`.
use Rattle.go_scanner.proofs.SpanLemmas.{cut_tokens}
use Rattle.go_scanner.proofs.laws.cut_tokens.Goals as goal

pub returns : goal.returns
returns c = cut_tokens
