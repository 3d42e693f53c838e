-- The answers to the goals of `laws::tokens_in_order`.
use Rattle.go_scanner.proofs.SpanLemmas.{tokens_in_order}
use Rattle.go_scanner.proofs.laws.tokens_in_order.Goals as goal

pub returns : goal.returns
returns c = tokens_in_order
