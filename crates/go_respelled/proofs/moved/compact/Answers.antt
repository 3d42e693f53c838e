-- The end lies a length behind the start.
use Rattle.std.proofs.Common.{◌≡◌, ◌+◌, ◌-◌, ◌∙◌, arith}
use Rattle.go_respelled.proofs.moved.compact.Goals as goal

pub returns : goal.returns
returns c =
    let p = c.args.piece.now in
    let end : (p.span.end - p.span.start) + p.span.start ≡ p.span.end = omega (arith, c.requires) in
    c.in_ok-made.ensures.fits ∙ (λ i. record { class = p.class; span = record { start = p.span.start; end = end i } })
