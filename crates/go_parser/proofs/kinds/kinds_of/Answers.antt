-- The answers to the goals of `kinds::kinds_of`.
use Rattle.std.proofs.Common.{ap, ◌∙◌, arith, drop, length, ◌++◌, ◌+◌}
use Rattle.go_scanner.specs.Tokens.{semicolon}
use Rattle.go_scanner.specs.CutText.{tokens_in}
use Rattle.go_ast.specs.Kinds.{kinds_from}
use Rattle.go_parser.proofs.KindSteps.{kinds_more, kinds_past, token_of}
use Rattle.go_parser.proofs.kinds.kinds_of.Goals as goal

pub loop-place-preserved : goal.loop-place-preserved
loop-place-preserved c =
    let n = ap length c.tokens-count.ensures.tokens in
    record {
      so_far = ap (λ x. x ++ kinds_from (c.loop-place.place + 1) c.args.pieces.now.text (drop (c.loop-place.place + 1) (tokens_in c.args.pieces.now)))
          c.in_ok-push.ensures.items
          ∙ kinds_more c.loop-place.place c.args.pieces.now.text (tokens_in c.args.pieces.now) (semicolon 0) c.loop-place.tokens.items _ _
          (omega (arith, n, c.loop-place-test.true)) (λ i. token_of (c.kind_at-kind.ensures i) (c.in_ok-number.ensures.fits i)) c.loop-place.invariant.so_far;
      within = omega (arith, n, c.loop-place-test.true);
    }

pub returns : goal.returns
returns c =
    let n = ap length c.tokens-count.ensures.tokens in
    kinds_past c.loop-place.place c.args.pieces.now.text (tokens_in c.args.pieces.now) c.loop-place.tokens.items _
    (omega (arith, n, c.loop-place-test.false)) c.loop-place.invariant.so_far
