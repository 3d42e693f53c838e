-- The answers to the goals of `pieces::Pieces::tokens`.
use Rattle.std.proofs.Common.{subst}
use Rattle.go_scanner.specs.CutText.{CutText, tokens_in}
use Rattle.go_scanner.specs.Spans.{AreTokensInOrder}
use Rattle.go_scanner.proofs.SpanLemmas.{tokens_in_order}
use Rattle.go_scanner.proofs.pieces.Pieces.tokens.Goals as goal

pub returns-clause-order : goal.returns-clause-order
returns-clause-order c = subst (λ (v : CutText). AreTokensInOrder v.text (tokens_in v)) c.self.view_is
    (tokens_in_order c.self.inside.file c.self.inside.pieces.items c.self.invariant.cut)
