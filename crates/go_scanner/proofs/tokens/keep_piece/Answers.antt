-- The end lies a length behind the start.
use Rattle.std.proofs.Common.{◌≡◌, ◌+◌, ◌-◌, ◌∷◌, ◌++◌, [], ◌∙◌, arith}
use Rattle.std.proofs.lemmas.Result.{on_ok_weaker}
use Rattle.go_scanner.proofs.tokens.keep_piece.Goals as goal

pub returns : goal.returns
returns c =
    let p = c.args.piece.now in
    let end : (p.span.end - p.span.start) + p.span.start ≡ p.span.end = omega (arith, c.requires) in
    on_ok_weaker c.keep_token.result
    (λ kept. kept ∙ (λ i. c.args.found.now.items ++ (record { class = p.class; span = record { start = p.span.start; end = end i } }) ∷ []))
    c.keep_token.ensures
